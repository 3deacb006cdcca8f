-- `compare::shift_left_differs` meets its contract, by its two tests: the last cell, and the cells before it as a part. Assumes nothing.
use Prim.Native.Nat.{ℕ, ◌+◌, ◌-◌, ◌≤◌, ◌<◌}
use mathlib.Core.Path.{◌≡◌, refl, sym, ap, ◌∙◌}
use mathlib.Core.Bool.{cond, not}
use mathlib.Core.List.{List}
use native.Mathlib.Omega.{arith}
use lib.ListN.{get_or}
use lib.Dec.{eqb}
use borrow.Author.Tests.{eq-eqb, ne_eqb}
use Rattle.cells.specs.Memory.{shifted_left}
use Rattle.changes.specs.Differing.{differs}
use Rattle.compare.proofs.Patches.{altered, patch-upto, parts-told}
use Rattle.compare.proofs.shift_left_differs.Goals as goal

abbrev moved : List ℕ → ℕ → ℕ → ℕ → ℕ
moved s to v k = cond (eqb (k + 1) to) v (get_or s (k + 1) 0)

last_one : (s : List ℕ) (to v k : ℕ) → k + 1 ≡ to → moved s to v k ≡ v
last_one s to v k e = simp (eq-eqb (k + 1) to e)

before : (s : List ℕ) (from to v k : ℕ) → from ≤ k → k + 1 < to → moved s to v k ≡ get_or s (from + 1 + (k - from)) 0
before s from to v k b h = let e : k + 1 ≡ from + 1 + (k - from) = omega arith in simp (ne_eqb (k + 1) to (λ q. omega arith)) (ap (λ (i : ℕ). get_or s i 0) e)

pub returns-then-s-to : goal.returns-then-s-to
unfolding shifted_left
returns-then-s-to c =
    let a = c.args in
    ap not (ne_eqb _ _ c.if-s-to.true) ∙ altered a.s.now a.from a.to (moved a.s.now a.to a.v) (omega arith) (a.to - 1) (omega arith) (omega arith) (λ e. c.if-s-to.true (e ∙ last_one a.s.now a.to a.v (a.to - 1) (omega arith)))

pub returns-else-s-to : goal.returns-else-s-to
unfolding shifted_left
returns-else-s-to c =
    let a = c.args in
    let s = a.s.now in
    let f = moved s a.to a.v in
    parts-told s s a.from (a.to - 1) (a.from + 1) (a.to - 1 - a.from) (a.to - (a.from + 1)) f refl (omega arith) (omega arith) (omega arith) (omega arith) (λ k p q. before s a.from a.to a.v k p (omega arith)) c.ne.ensures
    ∙ ap (differs s) (sym (patch-upto s a.from a.to f (omega arith) (a.to - 1) (omega arith) (omega arith) (λ k p q. let e : k ≡ a.to - 1 = omega arith in rw e (c.if-s-to.false ∙ sym (last_one s a.to a.v (a.to - 1) (omega arith))))))
