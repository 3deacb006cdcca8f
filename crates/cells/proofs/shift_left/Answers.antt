-- `cells::shift_left` meets its contract: the copied cells, then the one where `v` enters, above them. Assumes nothing.
use mathlib.Core.Path.{◌≡◌, ap, refl, sym, ◌∙◌}
use mathlib.Core.Bool.{cond}
use Prim.Native.Nat.{ℕ, ◌+◌, ◌-◌}
use native.Mathlib.Omega.{arith}
use borrow.Author.Tests.{eq-eqb, ne_eqb}
use lib.Dec.{eqb}
use lib.ListN.{get_or}
use Rattle.cells.specs.Memory.{shifted_left}
use Rattle.cells.proofs.Patch.{moved, up, done}
use Rattle.cells.proofs.shift_left.Goals as goal

pub returns : goal.returns
unfolding shifted_left
returns c =
    let a = c.args in
    let m = moved (λ k. cond (eqb (k + 1) a.to) a.v (get_or a.s.now (k + 1) 0)) (a.from + 1) a.from (a.to - (a.from + 1)) (a.to - 1) c.copy_within.ensures.len c.copy_within.ensures.by_index (omega arith)
    (λ k l w. let i : a.from + 1 + (k - a.from) ≡ k + 1 = omega arith in ap (λ (j : ℕ). get_or a.s.now j 0) i ∙ sym (simp (ne_eqb (k + 1) a.to (λ e. omega arith)))) in
    done (up {j = a.to} m (omega arith) (omega arith) (sym (simp (eq-eqb (a.to - 1 + 1) a.to (omega arith)))) (omega arith)) refl refl
