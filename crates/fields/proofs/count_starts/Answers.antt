-- `fields::count_starts` meets its contract: the count at hand is that of the cells passed. Assumes nothing.
use mathlib.Core.Path.{refl, ap, ◌∙◌}
use native.Mathlib.Omega.{arith}
use Rattle.cells.specs.Search.{count_in}
use Rattle.cells.proofs.Search.{counted_start, counted-hit, counted-miss}
use Rattle.fields.proofs.Scans.{has_mark, count-marks}
use Rattle.fields.proofs.count_starts.Goals as goal
use Rattle.fields.proofs.count_starts.Goals.{then-has_mark, else-has_mark}

pub loop-k-init : goal.loop-k-init
loop-k-init c = (omega arith, counted_start (omega arith) refl)

pub loop-k-preserved : goal.loop-k-preserved
loop-k-preserved c =
    let l = c.loop-k in
    elim c.if-has_mark.branch [
      | then-has_mark w ↦ (omega arith, counted-hit l.invariant.1 (omega arith) (omega arith) (cc) (omega arith) (omega arith))
      | else-has_mark w ↦ (omega arith, counted-miss l.invariant.1 (omega arith) (omega arith) (cc) (omega arith) (omega arith))
    ]

pub returns : goal.returns
returns c = c.loop-k.invariant.1.same ∙ ap (count_in (has_mark 3) _ _) (omega arith) ∙ count-marks _ _ _ _
