-- `clearing::clear_unprotected` meets its contract: the cells up to `i` are cleared where unprotected, and `kind` with cell `i`'s mark gives its kind.
-- Assumes nothing.
use Prim.Native.Nat.{ℕ}
use mathlib.Core.Path.{refl, ap, sym, ◌∙◌}
use native.Mathlib.Omega.{arith}
use Rattle.cells.proofs.Patch.{none, stored, skip, done-where}
use Rattle.fields.specs.Fields.{mark_of, stripped}
use Rattle.fields.specs.Walk.{kind_after}
use Rattle.fields.proofs.Scans.{onward-start, onward-next, unprotected-by}
use Rattle.clearing.proofs.clear_unprotected.Goals as goal
use Rattle.clearing.proofs.clear_unprotected.Goals.{else-is_in, then-is_in}

pub loop-i-init : goal.loop-i-init
loop-i-init c = (onward-start c.kind_at-kind.ensures, none refl, none refl)

pub loop-i-preserved : goal.loop-i-preserved
loop-i-preserved c =
    let l = c.loop-i in
    let a = l.invariant.2.high l.i (omega arith) in
    let k = c.kind_after-kind.ensures ∙ ap (λ (a : ℕ). kind_after l.i l.kind (mark_of a)) a ∙ l.invariant.0.gives in
    let e = unprotected-by _ l.i k c.is_in.ensures in
    elim c.if-is_in.branch [
      | then-is_in w ↦ (
        onward-next l.i k refl,
        rw w.chars-is (stored w.clear_cell.ensures.0 l.invariant.1 (omega arith) (omega arith) (sym (simp (e ∙ w.if-is_in.true))) refl),
        rw w.attrs-is (stored w.clear_cell.ensures.1 l.invariant.2 (omega arith) (omega arith) (ap stripped a ∙ sym (simp (e ∙ w.if-is_in.true))) refl),
      )
      | else-is_in w ↦ (
        onward-next l.i k refl,
        rw w.chars-is (skip l.invariant.1 (sym (simp (e ∙ w.if-is_in.false))) refl),
        rw w.attrs-is (skip l.invariant.2 (sym (simp (e ∙ w.if-is_in.false))) refl),
      )
    ]

pub returns : goal.returns
returns c = (done-where _ _ c.loop-i.invariant.1 (omega arith), done-where _ stripped c.loop-i.invariant.2 (omega arith))
