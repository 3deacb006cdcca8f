-- One cell that is set; the edits of one row leave the other rows. Assumes nothing.
use Prim.Native.Nat.{ℕ, ◌+◌, ◌-◌, ◌*◌, ◌≤◌, ◌<◌}
use mathlib.Core.Path.{◌≡◌, sym, ap, ◌∙◌}
use mathlib.Core.Bool.{not}
use mathlib.Core.Logic.{inl, inr}
use mathlib.Core.List.{List}
use native.Mathlib.Omega.{arith}
use lib.ListN.{length, get_or, set, length-set}
use lib.Seq.{get_or-set_same, get_or-set_other, set-get_or}
use lib.Dec.{eqb, ltb}
use borrow.Author.Tests.{eqb-true, eqb-false}
use Rattle.cells.specs.Memory.{filled, changed_where, shifted_left, posted}
use Rattle.cells.proofs.Splice.{posted-patch}
use Rattle.changes.specs.Differing.{differs}
use Rattle.changes.proofs.Differing.{true-or, differs-same, differs-cell, Beside}
use Rattle.compare.proofs.Patches.{patch-changed, patch-beside}

-- ---- one cell
pub set-differs : (xs : List ℕ) (k v : ℕ) → k < length xs → not (eqb (get_or xs k 0) v) ≡ differs xs (set xs k v)
set-differs xs k v h =
    elim (true-or (eqb (get_or xs k 0) v)) [
      | inl e ↦ ap not e ∙ sym (ap (differs xs) (sym (ap (set xs k) (eqb-true _ _ e)) ∙ set-get_or xs k 0) ∙ differs-same xs)
      | inr e ↦ ap not e ∙ sym (differs-cell xs (set xs k v) k (λ q. eqb-false _ _ e (q ∙ get_or-set_same xs k v 0 h)))
    ]

-- ---- edits within row r of a memory of n rows
module _ (n r : ℕ) (xs : List ℕ) (here : r < n) (long : length xs ≡ n * 80) where
  pub set-beside : (k v : ℕ) → r * 80 ≤ k → k < r * 80 + 80 → Beside n r xs (set xs k v)
  set-beside k v a b =
      record {
        here = here;
        long = long;
        same-long = length-set xs k v ∙ long;
        kept = λ i o. sym (get_or-set_other xs k i v 0 (elim o [ inl u ↦ (λ e. omega arith) | inr u ↦ (λ e. omega arith) ]));
      }

  module _ (from to : ℕ) (a : r * 80 ≤ from) (b : to ≤ r * 80 + 80) where
    pub filled_beside : (v : ℕ) → Beside n r xs (filled xs from to v)
    unfolding filled
    filled_beside v = patch-beside n r xs (λ k. v) here long from to a b

    pub changed-beside : (f : ℕ → ℕ) → Beside n r xs (changed_where xs from (λ k. ltb k to) f)
    changed-beside f = rw (← patch-changed xs from to f (omega arith)) (patch-beside n r xs (λ k. f (get_or xs k 0)) here long from to a b)

    pub shifted_left-beside : (v : ℕ) → Beside n r xs (shifted_left xs from to v)
    unfolding shifted_left
    shifted_left-beside v = patch-beside n r xs _ here long from to a b

    pub posted-beside : (text : List ℕ) → from ≤ to → length text ≤ to - from → Beside n r xs (posted xs from to text)
    posted-beside text h s = rw (posted-patch xs from to text h (omega arith) s) (patch-beside n r xs _ here long from to a b)
