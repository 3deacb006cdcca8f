-- `fields::last_mark` meets its contract: from the cell at hand on none is marked. Assumes nothing.
use mathlib.Core.Path.{◌∙◌}
use native.Mathlib.Omega.{arith}
use Rattle.cells.proofs.Search.{down-next, down-hit, down-end}
use Rattle.fields.proofs.Scans.{last-marks}
use Rattle.fields.proofs.last_mark.Goals as goal

pub loop-cell-preserved : goal.loop-cell-preserved
loop-cell-preserved c = (omega arith, down-next c.loop-cell.invariant.1 (omega arith) (cc) (omega arith))

pub returns-then-end-from : goal.returns-then-end-from
returns-then-end-from c = down-end c.rows.invariant.2 (omega arith) ∙ last-marks _ _ _ _

pub returns-then-has_mark : goal.returns-then-has_mark
returns-then-has_mark c = down-hit c.loop-cell.invariant.1 (omega arith) (cc) (omega arith) ∙ last-marks _ _ _ _
