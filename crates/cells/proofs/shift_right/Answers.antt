-- `cells::shift_right` meets its contract: the copied cells, then the one where `v` enters, below them. Assumes nothing.
use mathlib.Core.Path.{◌≡◌, ap, refl, sym, ◌∙◌}
use mathlib.Core.Bool.{cond}
use Prim.Native.Nat.{ℕ, ◌+◌, ◌-◌}
use native.Mathlib.Omega.{arith}
use borrow.Author.Tests.{eq-eqb, ne_eqb}
use lib.Dec.{eqb}
use lib.ListN.{get_or}
use Rattle.cells.specs.Memory.{shifted_right}
use Rattle.cells.proofs.Patch.{moved, down, done}
use Rattle.cells.proofs.shift_right.Goals as goal

pub returns : goal.returns
unfolding shifted_right
returns c =
    let a = c.args in
    let m = moved (λ k. cond (eqb k a.from) a.v (get_or a.s.now (k - 1) 0)) a.from (a.from + 1) (a.to - 1 - a.from) a.to c.copy_within.ensures.len c.copy_within.ensures.by_index (omega arith)
    (λ k l w. let i : a.from + (k - (a.from + 1)) ≡ k - 1 = omega arith in ap (λ (j : ℕ). get_or a.s.now j 0) i ∙ sym (simp (ne_eqb k a.from (λ e. omega arith)))) in
    done (down m (omega arith) (omega arith) (sym (simp (eq-eqb a.from a.from refl))) refl) refl refl
