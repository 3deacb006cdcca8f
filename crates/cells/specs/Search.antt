-- Searches of a memory: the first, the last, all, the n-th and the number of the cells whose value passes a test. Each walks the list once.
-- Assumes nothing.
use Rattle.std.specs.Prelude.{ℕ, suc, ◌-◌, Bool, cond, List, [], ◌∷◌, eqb, Option, Some, None}
use Rattle.std.specs.Option.{option_or}
use Rattle.std.proofs.Math.Seq.{slice}

module _ {A : Type 0} where
  -- the first that passes, of the values of the cells i, i + 1, ..
  unfoldable pub first_of : (A → Bool) → ℕ → List A → Option ℕ
  first_of p i [] = None
  first_of p i (x ∷ xs) = cond (p x) (Some i) (first_of p (suc i) xs)

  -- the last that passes
  unfoldable pub last_of : (A → Bool) → ℕ → List A → Option ℕ
  last_of p i [] = None
  last_of p i (x ∷ xs) = option_or (last_of p (suc i) xs) (cond (p x) (Some i) None)

  -- all that pass, in order
  unfoldable pub all_of : (A → Bool) → ℕ → List A → List ℕ
  all_of p i [] = []
  all_of p i (x ∷ xs) =
      let rest = all_of p (suc i) xs in
      cond (p x) (i ∷ rest) rest

  -- how many pass
  unfoldable pub count_of : (A → Bool) → List A → ℕ
  count_of p [] = 0
  count_of p (x ∷ xs) =
      let n = count_of p xs in
      cond (p x) (suc n) n

  -- the one that passes and has n that pass before it. The `let`s wait, so that each cell costs one call
  unfoldable pub nth_of : (A → Bool) → ℕ → ℕ → List A → Option ℕ
  nth_of p n i [] = None
  nth_of p n i (x ∷ xs) =
      let less = nth_of p (n - 1) (suc i) xs in
      let same = nth_of p n (suc i) xs in
      cond (p x) (cond (eqb n 0) (Some i) less) same

  -- the same of the cells lo, .., hi - 1 of a memory
  unfoldable pub first_in : (A → Bool) → List A → ℕ → ℕ → Option ℕ
  first_in p xs lo hi = first_of p lo (slice lo hi xs)

  unfoldable pub last_in : (A → Bool) → List A → ℕ → ℕ → Option ℕ
  last_in p xs lo hi = last_of p lo (slice lo hi xs)

  unfoldable pub count_in : (A → Bool) → List A → ℕ → ℕ → ℕ
  count_in p xs lo hi = count_of p (slice lo hi xs)
