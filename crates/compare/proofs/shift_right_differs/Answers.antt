-- `compare::shift_right_differs` meets its contract, by its two tests: the first cell, and the later ones as a part. Assumes nothing.
use Prim.Native.Nat.{ℕ, ◌+◌, ◌-◌, ◌<◌}
use mathlib.Core.Path.{◌≡◌, refl, sym, ap, ◌∙◌}
use mathlib.Core.Bool.{cond, not}
use mathlib.Core.List.{List}
use native.Mathlib.Omega.{arith}
use lib.ListN.{get_or}
use lib.Dec.{eqb}
use borrow.Author.Tests.{eq-eqb, ne_eqb}
use Rattle.cells.specs.Memory.{shifted_right}
use Rattle.changes.specs.Differing.{differs}
use Rattle.compare.proofs.Patches.{altered, patch-from, parts-told}
use Rattle.compare.proofs.shift_right_differs.Goals as goal

abbrev moved : List ℕ → ℕ → ℕ → ℕ → ℕ
moved s from v k = cond (eqb k from) v (get_or s (k - 1) 0)

first : (s : List ℕ) (from v k : ℕ) → k ≡ from → moved s from v k ≡ v
first s from v k e = simp (eq-eqb k from e)

later : (s : List ℕ) (from v k : ℕ) → from < k → moved s from v k ≡ get_or s (from + (k - (from + 1))) 0
later s from v k h = let e : k - 1 ≡ from + (k - (from + 1)) = omega arith in simp (ne_eqb k from (λ q. omega arith)) (ap (λ (i : ℕ). get_or s i 0) e)

pub returns-then-s-from : goal.returns-then-s-from
unfolding shifted_right
returns-then-s-from c =
    let a = c.args in
    ap not (ne_eqb _ _ c.if-s-from.true) ∙ altered a.s.now a.from a.to (moved a.s.now a.from a.v) (omega arith) a.from (omega arith) (omega arith) (λ e. c.if-s-from.true (e ∙ first a.s.now a.from a.v a.from refl))

pub returns-else-s-from : goal.returns-else-s-from
unfolding shifted_right
returns-else-s-from c =
    let a = c.args in
    let s = a.s.now in
    let f = moved s a.from a.v in
    parts-told s s (a.from + 1) a.to a.from (a.to - (a.from + 1)) (a.to - 1 - a.from) f refl (omega arith) (omega arith) (omega arith) (omega arith) (λ k p q. later s a.from a.v k (omega arith)) c.ne.ensures
    ∙ ap (differs s) (sym (patch-from s a.from a.to f (omega arith) (a.from + 1) (omega arith) (omega arith) (λ k p q. let e : k ≡ a.from = omega arith in rw e (c.if-s-from.false ∙ sym (first s a.from a.v a.from refl)))))
