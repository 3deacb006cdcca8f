-- What each operation leaves: the memory's length, and every cell in one equation. Assumes nothing.
use mathlib.Core.Path.{◌≡◌}
use mathlib.Core.Bool.{cond}
use mathlib.Core.List.{List}
use Prim.Native.Nat.{ℕ, ◌+◌, ◌-◌, ◌≤◌}
use native.Mathlib.Omega.{arith}
use lib.ListN.{length, get_or}
use lib.Dec.{ltb, eqb}
use Rattle.cells.specs.Memory.{inside, filled, shifted_right, shifted_left, moved_up, moved_down, written, posted}
use Rattle.cells.proofs.Patch.{length-patch, patch-cell, cells_at, patched}
use Rattle.cells.proofs.Splice.{written-patch, posted-patch, moved_up-patch, moved_down-patch}

-- ---- lengths
module _ (xs : List ℕ) (from to v : ℕ) where
  pub length-filled : length (filled xs from to v) ≡ length xs
  unfolding filled
  length-filled = length-patch xs from to _

  pub length-shifted_right : length (shifted_right xs from to v) ≡ length xs
  unfolding shifted_right
  length-shifted_right = length-patch xs from to _

  pub length-shifted_left : length (shifted_left xs from to v) ≡ length xs
  unfolding shifted_left
  length-shifted_left = length-patch xs from to _

-- ---- cells
module _ (xs : List ℕ) (from to v : ℕ) (fits : to ≤ length xs) (k : ℕ) where
  pub filled-cell : get_or (filled xs from to v) k 0 ≡ cond (inside from to k) v (get_or xs k 0)
  unfolding filled
  filled-cell = patch-cell xs from to _ fits k

  pub shifted_right-cell : get_or (shifted_right xs from to v) k 0 ≡ cond (inside from to k) (cond (eqb k from) v (get_or xs (k - 1) 0)) (get_or xs k 0)
  unfolding shifted_right
  shifted_right-cell = patch-cell xs from to _ fits k

  pub shifted_left-cell : get_or (shifted_left xs from to v) k 0 ≡ cond (inside from to k) (cond (eqb (k + 1) to) v (get_or xs (k + 1) 0)) (get_or xs k 0)
  unfolding shifted_left
  shifted_left-cell = patch-cell xs from to _ fits k

pub written-cell : (xs : List ℕ) (at : ℕ) (bytes : List ℕ) → at + length bytes ≤ length xs → (k : ℕ) → get_or (written xs at bytes) k 0 ≡ cond (inside at (at + length bytes) k) (get_or bytes (k - at) 0) (get_or xs k 0)
written-cell xs at bytes fits k = cells_at (patched (written-patch xs at bytes fits) fits) k

pub posted-cell : (xs : List ℕ) (from to : ℕ) (text : List ℕ) → from ≤ to → to ≤ length xs → length text ≤ to - from → (k : ℕ) → get_or (posted xs from to text) k 0 ≡ cond (inside from to k) (cond (ltb (k - from) (length text)) (get_or text (k - from) 0) 32) (get_or xs k 0)
posted-cell xs from to text order fits short k = cells_at (patched (posted-patch xs from to text order fits short) fits) k

module _ (xs : List ℕ) (from v : ℕ) (fits : from + 80 ≤ length xs) (k : ℕ) where
  pub moved_up-cell : get_or (moved_up xs from v) k 0 ≡ cond (inside from (length xs) k) (cond (ltb (k + 80) (length xs)) (get_or xs (k + 80) 0) v) (get_or xs k 0)
  moved_up-cell = cells_at (patched (moved_up-patch xs from v fits) (omega arith)) k

  pub moved_down-cell : get_or (moved_down xs from v) k 0 ≡ cond (inside from (length xs) k) (cond (ltb k (from + 80)) v (get_or xs (k - 80) 0)) (get_or xs k 0)
  moved_down-cell = cells_at (patched (moved_down-patch xs from v fits) (omega arith)) k
