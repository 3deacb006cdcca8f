-- The kind of a cell, step by step: its own mark, or the kind of the cell before it in its row.
-- Assumes nothing.
use Prim.Native.Nat.{ℕ, suc, ◌+◌, ◌-◌, ◌*◌, ◌%◌, ◌≤◌, ◌<◌}
use mathlib.Core.Path.{◌≡◌, refl, ap, ap₂, sym, ◌∙◌}
use mathlib.Core.Bool.{Bool, true, false}
use mathlib.Core.List.{List}
use native.Mathlib.Omega.{arith}
use native.Mathlib.Decide.{dec_lt, ℕ_discrete, le_ind}
use borrow.Author.Tests.{eq-eqb, ne_eqb}
use lib.ListN.{length, get_or}
use Rattle.cells.specs.Search.{last_in}
use Rattle.cells.proofs.Search.{last-hit, last-miss, last-cut, last_done}
use Rattle.fields.specs.Fields.{is_in, start_of_row, end_of_row, mark_found, kind_at}
use Rattle.fields.specs.Walk.{kind_after}
use Rattle.fields.proofs.Marks.{marked-inside}

module _ (ms : List ℕ) (cell : ℕ) where
  -- ---- the three cases: a marked cell, the first cell of a row, and any other
  pub kind-marked : is_in 5 (get_or ms cell 0) ≡ true → kind_at ms cell ≡ get_or ms cell 0
  unfolding kind_at
  kind-marked t = ap (mark_found ms) (last-hit (is_in 5) 0 ms (start_of_row cell) cell (omega arith) (marked-inside 5 ms cell t) t)

  -- a cell that bears no mark does not enter
  passed_over : is_in 5 (get_or ms cell 0) ≡ false → last_in (is_in 5) ms (start_of_row cell) (cell + 1) ≡ last_in (is_in 5) ms (start_of_row cell) cell
  passed_over t = go (dec_lt cell (length ms))
    where
      go : Dec (cell < length ms) → last_in (is_in 5) ms (start_of_row cell) (cell + 1) ≡ last_in (is_in 5) ms (start_of_row cell) cell
      go (yes h) = last-miss (is_in 5) 0 ms (start_of_row cell) cell (omega arith) h t
      go (no h) = last-cut (is_in 5) ms (start_of_row cell) (cell + 1) (omega arith) ∙ sym (last-cut (is_in 5) ms (start_of_row cell) cell (omega arith))

  pub kind-first : is_in 5 (get_or ms cell 0) ≡ false → cell % 80 ≡ 0 → kind_at ms cell ≡ 0
  unfolding kind_at
  kind-first t e = ap (mark_found ms) (passed_over t ∙ last_done (is_in 5) ms (start_of_row cell) cell (omega arith))

  pub kind-later : is_in 5 (get_or ms cell 0) ≡ false → (cell % 80 ≡ 0 → ⊥) → kind_at ms cell ≡ kind_at ms (cell - 1)
  unfolding kind_at
  kind-later t e =
      let l : start_of_row cell ≡ start_of_row (cell - 1) = omega arith in
      let h : cell ≡ cell - 1 + 1 = omega arith in
      ap (mark_found ms) (passed_over t ∙ ap₂ (last_in (is_in 5) ms) l h)

  -- ---- the step: a cell's kind is found from the kind before it and its mark. At cell 0 what stands before does not enter
  pub kind-step : kind_at ms cell ≡ kind_after cell (kind_at ms (cell - 1)) (get_or ms cell 0)
  kind-step = go (is_in 5 (get_or ms cell 0)) refl (ℕ_discrete (cell % 80) 0)
    where
      go : (b : Bool) → is_in 5 (get_or ms cell 0) ≡ b → Dec (cell % 80 ≡ 0) → kind_at ms cell ≡ kind_after cell (kind_at ms (cell - 1)) (get_or ms cell 0)
      go true t z = kind-marked t ∙ rw t refl
      go false t (yes z) = kind-first t z ∙ rw (t, eq-eqb (cell % 80) 0 z) refl
      go false t (no z) = kind-later t z ∙ rw (t, ne_eqb (cell % 80) 0 z) refl

  -- past a memory of whole rows there is none
  pub kind-past : (rows : ℕ) → length ms ≡ rows * 80 → length ms ≤ cell → kind_at ms cell ≡ 0
  unfolding kind_at
  kind-past rows n h =
      ap (mark_found ms) (last-cut (is_in 5) ms (start_of_row cell) (cell + 1) (omega arith) ∙ last_done (is_in 5) ms (start_of_row cell) (length ms) (omega arith))

-- along a row the kind stays up to the next mark
pub kind-along : (ms : List ℕ) (t k : ℕ) → t ≤ k → k < end_of_row t → ((j : ℕ) → t < j → j ≤ k → is_in 5 (get_or ms j 0) ≡ false) → kind_at ms k ≡ kind_at ms t
kind-along ms t k l r none = le_ind (λ (m : ℕ). m ≤ k → kind_at ms m ≡ kind_at ms t) (λ _. refl) step k l (omega arith)
  where
    step : (m : ℕ) → t ≤ m → (m ≤ k → kind_at ms m ≡ kind_at ms t) → suc m ≤ k → kind_at ms (suc m) ≡ kind_at ms t
    step m a ih b =
        let e : suc m - 1 ≡ m = omega arith in
        kind-later ms (suc m) (none (suc m) (omega arith) b) (λ z. omega arith) ∙ ap (kind_at ms) e ∙ ih (omega arith)

-- the kind depends on the marks of its row up to the cell alone
pub kind-same : (xs ys : List ℕ) (k : ℕ) → ((j : ℕ) → start_of_row k ≤ j → j ≤ k → get_or xs j 0 ≡ get_or ys j 0) → kind_at xs k ≡ kind_at ys k
kind-same xs ys k h = le_ind (λ (m : ℕ). m ≤ k → kind_at xs m ≡ kind_at ys m) (λ _. base) step k (omega arith) (omega arith)
  where
    first : (before other : ℕ) → kind_after (start_of_row k) before (get_or xs (start_of_row k) 0) ≡ kind_after (start_of_row k) other (get_or ys (start_of_row k) 0)
    first before other = rw (h (start_of_row k) (omega arith) (omega arith), eq-eqb (start_of_row k % 80) 0 (omega arith)) refl

    base : kind_at xs (start_of_row k) ≡ kind_at ys (start_of_row k)
    base = kind-step xs (start_of_row k) ∙ first (kind_at xs (start_of_row k - 1)) (kind_at ys (start_of_row k - 1)) ∙ sym (kind-step ys (start_of_row k))

    step : (m : ℕ) → start_of_row k ≤ m → (m ≤ k → kind_at xs m ≡ kind_at ys m) → suc m ≤ k → kind_at xs (suc m) ≡ kind_at ys (suc m)
    step m a ih b =
        let e : suc m - 1 ≡ m = omega arith in
        let q : kind_at xs (suc m - 1) ≡ kind_at ys (suc m - 1) = rw e (ih (omega arith)) in
        kind-step xs (suc m) ∙ ap₂ (kind_after (suc m)) q (h (suc m) (omega arith) b) ∙ sym (kind-step ys (suc m))
