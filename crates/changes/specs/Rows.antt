-- Only proofs and inner contracts need this: one row of a memory, and the set of one row or none. Assumes nothing.
use Rattle.std.specs.Prelude.{ℕ, ◌*◌, Bool, false, List, take, drop, set, replicate}

-- row r of a memory
unfoldable pub row_of : ℕ → List ℕ → List ℕ
row_of r xs = take 80 (drop (r * 80) xs)

-- of n rows the row r, or none
unfoldable pub only : ℕ → ℕ → Bool → List Bool
only n r on = set (replicate n false) r on
