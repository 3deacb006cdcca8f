-- Refusals (document 01, the table of 'Keys and posts'): each call has its tests in their order, a number beside each test. Assumes nothing.
use Rattle.std.specs.Prelude.{ℕ, Bool, cond, List, [], ◌∷◌}

-- a number, and the test that gives it
infixl 60 ◌when◌
pub data Refusal : Type 0 where
  ◌when◌ : ℕ → Bool → Refusal

-- the number of the first test that applies; 0, done, where none does
unfoldable pub first_refusal : List Refusal → ℕ
first_refusal [] = 0
first_refusal ((n when applies) ∷ later) = cond applies n (first_refusal later)
