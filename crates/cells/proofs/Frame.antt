-- Cells outside the range of an operation are kept; memories that agree outside a set. Assumes nothing.
use mathlib.Core.Path.{◌≡◌, ap, ◌∙◌}
use mathlib.Core.Logic.{◌⊎◌}
use mathlib.Core.List.{List}
use Prim.Native.Nat.{ℕ, ◌-◌, ◌≤◌, ◌<◌}
use lib.ListN.{length, get_or}
use Rattle.cells.specs.Memory.{shifted_right, shifted_left, posted}
use Rattle.cells.proofs.Patch.{patch-out}
use Rattle.cells.proofs.Splice.{posted-patch}

-- ---- cells outside the range
module _ (xs : List ℕ) (from to v : ℕ) (fits : to ≤ length xs) (k : ℕ) (out : (k < from) ⊎ (to ≤ k)) where
  pub shifted_right-out : get_or (shifted_right xs from to v) k 0 ≡ get_or xs k 0
  unfolding shifted_right
  shifted_right-out = patch-out xs from to _ fits k out

  pub shifted_left-out : get_or (shifted_left xs from to v) k 0 ≡ get_or xs k 0
  unfolding shifted_left
  shifted_left-out = patch-out xs from to _ fits k out

pub posted-out : (xs : List ℕ) (from to : ℕ) (text : List ℕ) → from ≤ to → to ≤ length xs → length text ≤ to - from → (k : ℕ) → (k < from) ⊎ (to ≤ k) → get_or (posted xs from to text) k 0 ≡ get_or xs k 0
posted-out xs from to text order fits short k out = ap (λ (t : List ℕ). get_or t k 0) (posted-patch xs from to text order fits short) ∙ patch-out xs from to _ fits k out

-- ---- two memories that agree outside the set P
pub record Agree (P : ℕ → Type 0) (xs ys : List ℕ) : Type 0 where
  pub len : length xs ≡ length ys
  pub cell : (k : ℕ) → (P k → ⊥) → get_or xs k 0 ≡ get_or ys k 0
