-- `fields::nth_field` meets its contract: the field sought from cell 0 on is the one with `left` before it from cell `i` on. Assumes nothing.
use mathlib.Core.Path.{refl, sym, ◌∙◌}
use native.Mathlib.Omega.{arith}
use Rattle.cells.proofs.Search.{passed-miss, passed-next, passed-count, passed-hit, passed-end}
use Rattle.fields.specs.Fields.{nth_field}
use Rattle.fields.proofs.Scans.{count-marks, nth-marks}
use Rattle.fields.proofs.nth_field.Goals as goal
use Rattle.fields.proofs.nth_field.Goals.{then-has_mark+else-left-eq0, else-has_mark}

pub returns-then-left-eq0 : goal.returns-then-left-eq0
unfolding nth_field
returns-then-left-eq0 c = passed-hit c.loop-i-2.invariant.1 (omega arith) (sym c.has_mark.ensures ∙ c.if-has_mark.true) (omega arith) ∙ nth-marks _ _ _

pub loop-i-2-preserved : goal.loop-i-2-preserved
unfolding nth_field
loop-i-2-preserved c =
    let l = c.loop-i-2 in (
      omega arith,
      elim c.if-has_mark.branch [
        | then-has_mark+else-left-eq0 w ↦ passed-next l.invariant.1 (omega arith) (cc) (omega arith) refl w.left-is
        | else-has_mark w ↦ passed-miss l.invariant.1 (omega arith) (cc) refl w.left-is
      ],
    )

pub loop-i-3-preserved : goal.loop-i-3-preserved
unfolding nth_field
loop-i-3-preserved c =
    let e = c.count_starts-count.ensures ∙ sym (count-marks _ _ _ _) in (
      omega arith,
      omega arith,
      passed-count c.loop-i-3.invariant.2 (omega arith) (omega arith) (omega (arith, e)) (omega (arith, e)),
    )

pub returns : goal.returns
unfolding nth_field
returns c = passed-end c.loop-i.invariant.1 (omega arith) ∙ nth-marks _ _ _
