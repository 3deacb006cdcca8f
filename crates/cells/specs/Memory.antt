-- What the writing loops leave in a memory, a list of bytes. Assumes nothing.
use Rattle.std.specs.Prelude.{ℕ, suc, ◌+◌, ◌-◌, Bool, cond, ◌&&◌, List, [], ◌∷◌, ◌++◌, length, get_or, take, drop, replicate, ltb, leb, eqb}

-- lo ≤ k < hi
abbrev pub inside : ℕ → ℕ → ℕ → Bool
inside lo hi k = leb lo k && ltb k hi

-- the list with cell k, for lo ≤ k < hi, replaced by f k; from cell k on, and whole. The `let` waits, so that a cell outside costs no call of f
unfoldable pub patch_from : ℕ → List ℕ → ℕ → ℕ → (ℕ → ℕ) → List ℕ
patch_from k [] lo hi f = []
patch_from k (x ∷ xs) lo hi f = let v = f k in cond (inside lo hi k) v x ∷ patch_from (suc k) xs lo hi f

unfoldable pub patch : List ℕ → ℕ → ℕ → (ℕ → ℕ) → List ℕ
patch xs lo hi f = patch_from 0 xs lo hi f

-- cells from, .., to - 1 become v
unfoldable pub filled : List ℕ → ℕ → ℕ → ℕ → List ℕ
filled xs from to v = patch xs from to (λ k. v)

-- v enters at `from`, each later cell up to `to` takes the one before it, and the last is lost
unfoldable pub shifted_right : List ℕ → ℕ → ℕ → ℕ → List ℕ
shifted_right xs from to v = patch xs from to (λ k. cond (eqb k from) v (get_or xs (k - 1) 0))

-- each cell from `from` on takes the one after it, the one at `from` is lost, and v enters at to - 1
unfoldable pub shifted_left : List ℕ → ℕ → ℕ → ℕ → List ℕ
shifted_left xs from to v = patch xs from to (λ k. cond (eqb (k + 1) to) v (get_or xs (k + 1) 0))

-- each cell from `from` on whose number passes the test is changed by f; from cell k on, and whole
unfoldable pub changed_where_from : ℕ → List ℕ → ℕ → (ℕ → Bool) → (ℕ → ℕ) → List ℕ
changed_where_from k [] from test f = []
changed_where_from k (x ∷ xs) from test f = cond (leb from k && test k) (f x) x ∷ changed_where_from (suc k) xs from test f

unfoldable pub changed_where : List ℕ → ℕ → (ℕ → Bool) → (ℕ → ℕ) → List ℕ
changed_where xs from test f = changed_where_from 0 xs from test f

-- rows of 80 cells: the row that begins at cell `from` goes, the rows below it move up, and the last becomes v
unfoldable pub moved_up : List ℕ → ℕ → ℕ → List ℕ
moved_up xs from v = take from xs ++ (drop (from + 80) xs ++ replicate 80 v)

-- a row of v enters at cell `from`, the rows from there on move down, and the last is lost
unfoldable pub moved_down : List ℕ → ℕ → ℕ → List ℕ
moved_down xs from v = take from xs ++ (replicate 80 v ++ take (length xs - (from + 80)) (drop from xs))

-- bytes are written over a memory from a cell on
unfoldable pub written : List ℕ → ℕ → List ℕ → List ℕ
written xs at bytes = take at xs ++ (bytes ++ drop (at + length bytes) xs)

-- a post: the text, then blanks, in the cells from, .., to - 1
unfoldable pub posted : List ℕ → ℕ → ℕ → List ℕ → List ℕ
posted xs from to text = written xs from (text ++ replicate (to - from - length text) 32)
