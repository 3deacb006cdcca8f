-- `fields::first_mark` meets its contract: up to the cell at hand none is marked. Assumes nothing.
use mathlib.Core.Path.{refl, ◌∙◌}
use native.Mathlib.Omega.{arith}
use Rattle.cells.proofs.Search.{upto_next, upto-hit, upto-end}
use Rattle.fields.proofs.Scans.{first_marks}
use Rattle.fields.proofs.first_mark.Goals as goal

pub loop-cell-preserved : goal.loop-cell-preserved
loop-cell-preserved c = upto_next c.loop-cell.invariant (omega arith) (cc) refl

pub returns-then-to-start : goal.returns-then-to-start
returns-then-to-start c = upto-end c.rows.invariant.1 (omega arith) ∙ first_marks _ _ _ _

pub returns-then-has_mark : goal.returns-then-has_mark
returns-then-has_mark c = upto-hit c.loop-cell.invariant (omega arith) (cc) ∙ first_marks _ _ _ _
