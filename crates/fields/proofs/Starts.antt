-- What the searches for field starts find: a start, which lies in the memory and is unprotected; and what it means that they find nothing.
-- Assumes nothing.
use Prim.Native.Nat.{ℕ, ◌+◌, ◌<◌}
use mathlib.Core.Path.{◌≡◌, refl, sym, ◌∙◌}
use mathlib.Core.Bool.{Bool, true, false, cond}
use mathlib.Core.List.{List}
use native.Mathlib.Omega.{arith}
use native.Mathlib.Decide.{dec_lt}
use lib.ListN.{length, get_or, get_or-eq_default}
use Rattle.std.specs.Option.{option_or}
use Rattle.std.specs.Prelude.{Option, Some, None}
use Rattle.cells.specs.Search.{first_in, last_in}
use Rattle.cells.proofs.Search.{not-both, last-cut, first_found, last_found, nth-found}
use Rattle.fields.specs.Fields.{is_in, unprotected, first_start, next_start, prev_start, nth_field, target}
use Rattle.fields.proofs.Marks.{out-low, marked-inside}
use Rattle.fields.proofs.Fields.{start-unprotected, unprotected-field}

-- a cell of the memory that is unprotected
pub record Open (ms : List ℕ) (cell : ℕ) : Type 0 where
  pub inside : cell < length ms
  pub is_open : unprotected ms cell ≡ true

pub start-open : (ms : List ℕ) (start : ℕ) → is_in 3 (get_or ms start 0) ≡ true → Open ms start
start-open ms start t = record { inside = marked-inside 3 ms start t; is_open = start-unprotected ms start t }

-- ---- what is found is a start
-- of two searches, one where the other finds nothing: what each finds is so
either-finds : (P : ℕ → Type 0) (a b : Option ℕ) {k : ℕ} → ((i : ℕ) → a ≡ Some i → P i) → ((i : ℕ) → b ≡ Some i → P i) → option_or a b ≡ Some k → P k
either-finds P (Some i) b f g e = f _ e
either-finds P None b f g e = g _ e

neither-finds : (a b : Option ℕ) → option_or a b ≡ None → (a ≡ None) × (b ≡ None)
neither-finds (Some i) b e = let z : ◌≡◌ {A = ℕ} 0 1 = cc in absurd (omega arith)
neither-finds None b e = (refl, e)

module _ (ms : List ℕ) where
  -- what the search for the first, and for the last, finds passes
  first-hits : (highest lo : ℕ) {k : ℕ} → first_in (is_in highest) ms lo (length ms) ≡ Some k → is_in highest (get_or ms k 0) ≡ true
  first-hits highest lo e = (first_found (is_in highest) 0 ms lo (length ms) (omega arith) e).hit

  last-hits : (highest hi : ℕ) {k : ℕ} → last_in (is_in highest) ms 0 hi ≡ Some k → is_in highest (get_or ms k 0) ≡ true
  last-hits highest hi {k} e = go (dec_lt (length ms) hi)
    where
      go : Dec (length ms < hi) → is_in highest (get_or ms k 0) ≡ true
      go (yes h) = (last_found (is_in highest) 0 ms 0 (length ms) (omega arith) (sym (last-cut (is_in highest) ms 0 hi (omega arith)) ∙ e)).hit
      go (no h) = (last_found (is_in highest) 0 ms 0 hi (omega arith) e).hit

  pub first-is-start : (highest k : ℕ) → first_start highest ms ≡ Some k → is_in highest (get_or ms k 0) ≡ true
  unfolding first_start
  first-is-start highest k e = first-hits highest 0 e

  pub next-is-start : (cell k : ℕ) → next_start ms cell ≡ Some k → is_in 3 (get_or ms k 0) ≡ true
  unfolding next_start
  next-is-start cell k e =
      either-finds (λ (i : ℕ). is_in 3 (get_or ms i 0) ≡ true) (first_in (is_in 3) ms (cell + 1) (length ms)) (first_in (is_in 3) ms 0 (length ms))
      (λ i q. first-hits 3 (cell + 1) q) (λ i q. first-hits 3 0 q) e

  pub prev-is-start : (cell k : ℕ) → prev_start ms cell ≡ Some k → is_in 3 (get_or ms k 0) ≡ true
  unfolding prev_start
  prev-is-start cell k e =
      either-finds (λ (i : ℕ). is_in 3 (get_or ms i 0) ≡ true) (last_in (is_in 3) ms 0 cell) (last_in (is_in 3) ms 0 (length ms))
      (λ i q. last-hits 3 cell q) (λ i q. last-hits 3 (length ms) q) e

  pub nth-is-start : (n k : ℕ) → nth_field ms n ≡ Some k → is_in 3 (get_or ms k 0) ≡ true
  unfolding nth_field
  nth-is-start n k e = (nth-found (is_in 3) 0 ms n e).hit

  -- ---- so it lies in the memory and is unprotected
  pub first-inside : (highest k : ℕ) → first_start highest ms ≡ Some k → k < length ms
  first-inside highest k e = marked-inside highest ms k (first-is-start highest k e)

  pub first-open : (k : ℕ) → first_start 3 ms ≡ Some k → Open ms k
  first-open k e = start-open ms k (first-is-start 3 k e)

  pub next-open : (cell k : ℕ) → next_start ms cell ≡ Some k → Open ms k
  next-open cell k e = start-open ms k (next-is-start cell k e)

  pub prev-open : (cell k : ℕ) → prev_start ms cell ≡ Some k → Open ms k
  prev-open cell k e = start-open ms k (prev-is-start cell k e)

  pub nth-open : (n k : ℕ) → nth_field ms n ≡ Some k → Open ms k
  nth-open n k e = start-open ms k (nth-is-start n k e)

  -- so is a target, which lies in the memory where the cell does
  pub target-is-unprotected : (cell k : ℕ) → target ms cell ≡ Some k → unprotected ms k ≡ true
  unfolding target
  target-is-unprotected cell k e = go (unprotected ms cell) refl e
    where
      go : (b : Bool) → unprotected ms cell ≡ b → cond b (Some cell) (next_start ms cell) ≡ Some k → unprotected ms k ≡ true
      go true t q = let s : cell ≡ k = cc in rw (← s) t
      go false t q = (next-open cell k q).is_open

  pub target-open : (cell k : ℕ) → cell < length ms → target ms cell ≡ Some k → Open ms k
  unfolding target
  target-open cell k h e = record { inside = go (unprotected ms cell) e; is_open = target-is-unprotected cell k e }
    where
      go : (b : Bool) → cond b (Some cell) (next_start ms cell) ≡ Some k → k < length ms
      go true q = let s : cell ≡ k = cc in rw (← s) h
      go false q = (next-open cell k q).inside

  -- ---- where nothing is found no cell is a start, and none is unprotected
  none-starts : (highest : ℕ) → first_in (is_in highest) ms 0 (length ms) ≡ None → (cell : ℕ) → is_in highest (get_or ms cell 0) ≡ false
  none-starts highest e cell = go (dec_lt cell (length ms))
    where
      go : Dec (cell < length ms) → is_in highest (get_or ms cell 0) ≡ false
      go (yes h) = first_found (is_in highest) 0 ms 0 (length ms) (omega arith) e cell (omega arith) h
      go (no h) = rw (get_or-eq_default ms 0 {n = cell} (omega arith)) (out-low highest)

  pub first-nothing : (highest : ℕ) → first_start highest ms ≡ None → (cell : ℕ) → is_in highest (get_or ms cell 0) ≡ false
  unfolding first_start
  first-nothing highest e = none-starts highest e

  pub next-nothing : (cell : ℕ) → next_start ms cell ≡ None → (k : ℕ) → is_in 3 (get_or ms k 0) ≡ false
  unfolding next_start
  next-nothing cell e =
      none-starts 3 (neither-finds (first_in (is_in 3) ms (cell + 1) (length ms)) (first_in (is_in 3) ms 0 (length ms)) e).1

  pub none-unprotected : ((k : ℕ) → is_in 3 (get_or ms k 0) ≡ false) → (cell : ℕ) → unprotected ms cell ≡ false
  none-unprotected h cell = go (unprotected ms cell) refl
    where
      go : (b : Bool) → unprotected ms cell ≡ b → b ≡ false
      go true t = let f = unprotected-field ms cell t in absurd (not-both f.1 (h f.0))
      go false t = refl
