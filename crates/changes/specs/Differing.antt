-- The rows in which two memories differ. Rows have 80 cells. Assumes nothing.
use Rattle.std.specs.Prelude.{ℕ, zero, suc, Bool, true, false, ◌||◌, not, List, [], ◌∷◌, take, drop, eqb}
use Rattle.changes.specs.Sets.{either}

-- whether two lists differ: in a cell, or in their length
unfoldable pub differs : List ℕ → List ℕ → Bool
differs [] [] = false
differs [] (y ∷ ys) = true
differs (x ∷ xs) [] = true
differs (x ∷ xs) (y ∷ ys) = not (eqb x y) || differs xs ys

-- for each of n rows whether it differs, the first row first
unfoldable pub differing : ℕ → List ℕ → List ℕ → List Bool
differing zero xs ys = []
differing (suc n) xs ys = differs (take 80 xs) (take 80 ys) ∷ differing n (drop 80 xs) (drop 80 ys)

-- in characters or attributes: before and after
unfoldable pub differing_both : ℕ → List ℕ → List ℕ → List ℕ → List ℕ → List Bool
differing_both n chars attrs chars' attrs' = either (differing n chars chars') (differing n attrs attrs')
