-- `fields::last_text` meets its contract: from the cell at hand on all is blank. Assumes nothing.
use mathlib.Core.Bool.{not}
use mathlib.Core.Path.{ap}
use native.Mathlib.Omega.{arith}
use borrow.Author.Tests.{eq-eqb, ne_eqb}
use Rattle.cells.proofs.Search.{down-next, down-hit, down-end}
use Rattle.fields.proofs.last_text.Goals as goal

pub returns-then-chars-i-ne32 : goal.returns-then-chars-i-ne32
returns-then-chars-i-ne32 c = down-hit c.loop-i.invariant (omega arith) (ap not (ne_eqb _ _ c.if-chars-i-ne32.true)) (omega arith)

pub loop-i-preserved : goal.loop-i-preserved
loop-i-preserved c = down-next c.loop-i.invariant (omega arith) (ap not (eq-eqb _ _ c.if-chars-i-ne32.false)) (omega arith)

pub returns : goal.returns
returns c = down-end c.loop-i.invariant (omega arith)
