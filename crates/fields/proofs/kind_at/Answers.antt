-- `fields::kind_at` meets its contract: from the cell at hand up to the cell none is marked. Assumes nothing.
use native.Mathlib.Omega.{arith}
use Rattle.cells.proofs.Search.{down-next}
use Rattle.fields.proofs.Scans.{kind-hit, kind-none}
use Rattle.fields.proofs.kind_at.Goals as goal

pub returns-then-is_in : goal.returns-then-is_in
returns-then-is_in c = kind-hit _ c.loop-i.invariant (omega arith) (cc)

pub loop-i-preserved : goal.loop-i-preserved
loop-i-preserved c = down-next c.loop-i.invariant (omega arith) (cc) (omega arith)

pub returns : goal.returns
returns c = kind-none _ c.loop-i.invariant (omega arith)
