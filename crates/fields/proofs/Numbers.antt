-- Posts count unprotected fields: a field's number and its place are inverse, and the cells of field n are those from its start up to its end.
-- Assumes nothing.
use Prim.Native.Nat.{ℕ, zero, suc, ◌+◌, ◌-◌, ◌≤◌, ◌<◌}
use mathlib.Core.Path.{◌≡◌, refl, ap, sym, ◌∙◌}
use mathlib.Core.Bool.{Bool, true, false, and-eq-true_iff}
use mathlib.Core.List.{List}
use native.Mathlib.Omega.{arith}
use native.Mathlib.Decide.{dec_lt, le_ind}
use lib.Dec.{eqb}
use borrow.Author.Tests.{eq-eqb, eqb-true}
use lib.ListN.{length, get_or}
use Rattle.std.specs.Prelude.{Option, Some, None}
use Rattle.cells.specs.Search.{nth_of, count_in}
use Rattle.cells.proofs.Finds.{NthIs, FindsNth}
use Rattle.cells.proofs.Search.{not-both, count-hit, count-miss, count_cut, count-alike, count-all, nth-finds, nth-is, nth-found}
use Rattle.fields.specs.Fields.{is_in, field_end, unprotected, nth_field, field_number, holds}
use Rattle.fields.proofs.Marks.{in-high, in-more, marked-inside}
use Rattle.fields.proofs.Fields.{InField, field-ends, unprotected-in, unprotected-field, start-unprotected}
use Rattle.fields.proofs.Starts.{nth-is-start}

module _ (ms : List ℕ) where
  -- ---- the number counts the starts before: at a start it is their count, and only a mark 1 to 3 changes it
  pub number-start : (start : ℕ) → is_in 3 (get_or ms start 0) ≡ true → field_number ms start ≡ count_in (is_in 3) ms 0 start
  unfolding field_number
  number-start start t = omega (arith, count-hit (is_in 3) 0 ms 0 start (omega arith) (marked-inside 3 ms start t) t)

  pub number-kept : (cell : ℕ) → is_in 3 (get_or ms cell 0) ≡ false → field_number ms cell ≡ field_number ms (cell - 1)
  unfolding field_number
  number-kept zero t = refl
  number-kept (suc cell) t =
      let e : suc cell ≡ suc cell - 1 + 1 = omega arith in
      ap (λ (n : ℕ). n - 1) (go (dec_lt (suc cell) (length ms)) ∙ ap (count_in (is_in 3) ms 0) e)
    where
      go : Dec (suc cell < length ms) → count_in (is_in 3) ms 0 (suc cell + 1) ≡ count_in (is_in 3) ms 0 (suc cell)
      go (yes h) = count-miss (is_in 3) 0 ms 0 (suc cell) (omega arith) h t
      go (no h) = count_cut (is_in 3) ms 0 (suc cell + 1) (omega arith) ∙ sym (count_cut (is_in 3) ms 0 (suc cell) (omega arith))

  -- a transmit-only field is not counted: its start keeps the number of the cell before it, and is no field that posts find
  pub transmit-kept : (start : ℕ) → get_or ms start 0 ≡ 4 → field_number ms start ≡ field_number ms (start - 1)
  unfolding is_in
  transmit-kept start e = number-kept start (ap (is_in 3) e)

  pub transmit-not-found : (n start : ℕ) → nth_field ms n ≡ Some start → get_or ms start 0 ≡ 4 → ⊥
  transmit-not-found n start e f = omega (arith, in-high 3 (get_or ms start 0) (nth-is-start ms n start e))

  -- ---- the cells from t up to the field's end have one number
  pub number_in : (t k : ℕ) → t ≤ k → k < field_end ms t → field_number ms k ≡ field_number ms t
  number_in t k l u = le_ind (λ (m : ℕ). m ≤ k → field_number ms m ≡ field_number ms t) (λ _. refl) step k l (omega arith)
    where
      unmarked : (j : ℕ) → t < j → j ≤ k → (b : Bool) → is_in 3 (get_or ms j 0) ≡ b → b ≡ false
      unmarked j a c true s = absurd (not-both (in-more 3 5 (get_or ms j 0) (omega arith) s) ((field-ends ms t).none j a (omega arith)))
      unmarked j a c false s = refl

      step : (m : ℕ) → t ≤ m → (m ≤ k → field_number ms m ≡ field_number ms t) → suc m ≤ k → field_number ms (suc m) ≡ field_number ms t
      step m a ih b =
          let e : suc m - 1 ≡ m = omega arith in
          number-kept (suc m) (unmarked (suc m) (omega arith) b (is_in 3 (get_or ms (suc m) 0)) refl)
          ∙ ap (field_number ms) e
          ∙ ih (omega arith)

  -- ---- number and n-th field are inverse
  pub nth_number : (n start : ℕ) → nth_field ms n ≡ Some start → field_number ms start ≡ n
  unfolding nth_field
  nth_number n start e =
      let r : NthIs (is_in 3) 0 ms n start = nth-found (is_in 3) 0 ms n e in
      number-start start r.hit ∙ r.before

  pub start-nth : (start : ℕ) → is_in 3 (get_or ms start 0) ≡ true → nth_field ms (field_number ms start) ≡ Some start
  unfolding nth_field
  start-nth start t =
      nth-is (is_in 3) 0 ms (field_number ms start) (Some start) (record { high = marked-inside 3 ms start t; hit = t; before = sym (number-start start t) })

  pub number-nth : (cell : ℕ) → unprotected ms cell ≡ true → (start : ℕ) × (nth_field ms (field_number ms cell) ≡ Some start) × (start ≤ cell) × (cell < field_end ms start)
  number-nth cell t =
      let f = unprotected-field ms cell t in
      let i : InField ms f.0 cell = f.2 in
      (f.0, ap (nth_field ms) (number_in f.0 cell i.from i.upto) ∙ start-nth f.0 f.1, i.from, i.upto)

  -- ---- field n holds a cell: it is unprotected and has that number
  pub holds-unprotected : (n cell : ℕ) → holds ms n cell ≡ true → unprotected ms cell ≡ true
  unfolding holds
  holds-unprotected n cell t = ((and-eq-true_iff (unprotected ms cell) (eqb (field_number ms cell) n)).0 t).0

  pub holds-number : (n cell : ℕ) → holds ms n cell ≡ true → field_number ms cell ≡ n
  unfolding holds
  holds-number n cell t = eqb-true (field_number ms cell) n ((and-eq-true_iff (unprotected ms cell) (eqb (field_number ms cell) n)).0 t).1

  pub is_held : (n cell : ℕ) → unprotected ms cell ≡ true → field_number ms cell ≡ n → holds ms n cell ≡ true
  unfolding holds
  is_held n cell t e = rw (t, eq-eqb (field_number ms cell) n e) refl

  -- one field at most holds it
  pub one-holder : (n m cell : ℕ) → holds ms n cell ≡ true → holds ms m cell ≡ true → n ≡ m
  one-holder n m cell a b = sym (holds-number n cell a) ∙ holds-number m cell b

  -- a field holds all its cells or none
  pub holds-in : (n t k : ℕ) → t ≤ k → k < field_end ms t → holds ms n k ≡ holds ms n t
  unfolding holds
  holds-in n t k l u = rw (unprotected-in ms t k l u, number_in t k l u) refl

  -- ---- the cells that field n holds are those from its start up to its end
  pub nth-holds : (n start : ℕ) → nth_field ms n ≡ Some start → holds ms n start ≡ true
  nth-holds n start e = is_held n start (start-unprotected ms start (nth-is-start ms n start e)) (nth_number n start e)

  pub field-holds : (n start cell : ℕ) → nth_field ms n ≡ Some start → start ≤ cell → cell < field_end ms start → holds ms n cell ≡ true
  field-holds n start cell e l u = holds-in n start cell l u ∙ nth-holds n start e

  pub holds-field : (n cell : ℕ) → holds ms n cell ≡ true → (start : ℕ) × (nth_field ms n ≡ Some start) × (start ≤ cell) × (cell < field_end ms start)
  holds-field n cell t =
      let r = number-nth cell (holds-unprotected n cell t) in
      (r.0, ap (nth_field ms) (sym (holds-number n cell t)) ∙ r.1, r.2, r.3)

-- ---- numbers and places depend on which cells are starts of unprotected fields alone, so on no transmit-only field
module _ (xs ys : List ℕ) (n : length xs ≡ length ys) (alike : (j : ℕ) → is_in 3 (get_or xs j 0) ≡ is_in 3 (get_or ys j 0)) where
  count_same : (hi : ℕ) → hi ≤ length xs → count_in (is_in 3) xs 0 hi ≡ count_in (is_in 3) ys 0 hi
  count_same hi h = count-alike (is_in 3) 0 xs (is_in 3) 0 ys 0 hi (λ j a b. alike j) h (omega arith)

  pub number_same : (cell : ℕ) → cell < length xs → field_number xs cell ≡ field_number ys cell
  unfolding field_number
  number_same cell h = ap (λ (k : ℕ). k - 1) (count_same (cell + 1) (omega arith))

  pub nth-same : (i : ℕ) → nth_field xs i ≡ nth_field ys i
  unfolding nth_field
  nth-same i = sym (nth-is (is_in 3) 0 ys i (nth_of (is_in 3) i 0 xs) (same (nth_of (is_in 3) i 0 xs) (nth-finds (is_in 3) 0 xs i)))
    where
      same : (f : Option ℕ) → FindsNth (is_in 3) 0 xs i f → FindsNth (is_in 3) 0 ys i f
      same (Some k) r =
          record { high = omega (arith, r.high); hit = sym (alike k) ∙ r.hit; before = sym (count_same k (omega (arith, r.high))) ∙ r.before }
      same None r = omega (arith, count-all (is_in 3) 0 xs, count-all (is_in 3) 0 ys, count_same (length xs) (omega arith), ap (count_in (is_in 3) ys 0) n)
