-- Fields: where a field ends, which cells it has, that all its cells have one kind and one end, and that a cell belongs to one field at most.
-- Assumes nothing.
use Prim.Native.Nat.{ℕ, zero, suc, ◌+◌, ◌-◌, ◌*◌, ◌/◌, ◌%◌, ◌≤◌, ◌<◌}
use mathlib.Core.Path.{◌≡◌, refl, ap, sym, ◌∙◌}
use mathlib.Core.Bool.{Bool, true, false}
use mathlib.Core.List.{List}
use native.Mathlib.Omega.{arith}
use native.Mathlib.Decide.{dec_lt, ℕ_discrete}
use lib.ListN.{length, get_or, get_or-eq_default}
use Rattle.std.specs.Prelude.{Option, Some, None, unwrap_or}
use Rattle.cells.specs.Search.{first_in}
use Rattle.cells.proofs.Finds.{FindsFirst}
use Rattle.cells.proofs.Search.{not-both, first-cut, first_finds}
use Rattle.fields.specs.Fields.{is_in, end_of_row, field_end, kind_at, unprotected}
use Rattle.fields.proofs.Marks.{in-low, in-more, out-low, marked-inside}
use Rattle.fields.proofs.Kind.{kind-past, kind-marked, kind-first, kind-later, kind-along}

-- ---- the field's end: past the cell, within its row, no mark between, and a mark at the end unless that is the row's
pub record Ends (ms : List ℕ) (cell end : ℕ) : Type 0 where
  pub past : cell < end
  pub within : end ≤ end_of_row cell
  pub none : (j : ℕ) → cell < j → j < end → is_in 5 (get_or ms j 0) ≡ false
  pub stop : end < end_of_row cell → is_in 5 (get_or ms end 0) ≡ true

pub field-ends : (ms : List ℕ) (cell : ℕ) → Ends ms cell (field_end ms cell)
unfolding field_end
field-ends ms cell = go (dec_lt (length ms) (end_of_row cell))
  where
    past_end : (j : ℕ) → length ms ≤ j → is_in 5 (get_or ms j 0) ≡ false
    past_end j h = rw (get_or-eq_default ms 0 {n = j} h) (out-low 5)

    whole : (hi : ℕ) → hi ≤ end_of_row cell → ((j : ℕ) → hi ≤ j → j < end_of_row cell → is_in 5 (get_or ms j 0) ≡ false) → (f : Option ℕ) → FindsFirst (is_in 5) 0 ms (cell + 1) hi f → Ends ms cell (unwrap_or f (end_of_row cell))
    whole hi l above (Some e) r = record { past = omega (arith, r.low); within = omega (arith, r.high); none = λ j a b. r.none j (omega arith) b; stop = λ _. r.hit }
    whole hi l above None r = record { past = omega arith; within = omega arith; none = λ j a b. either j a b (dec_lt j hi); stop = λ w. absurd (omega arith) }
      where
        either : (j : ℕ) → cell < j → j < end_of_row cell → Dec (j < hi) → is_in 5 (get_or ms j 0) ≡ false
        either j a b (yes h) = r j (omega arith) h
        either j a b (no h) = above j (omega arith) b

    go : Dec (length ms < end_of_row cell) → Ends ms cell (unwrap_or (first_in (is_in 5) ms (cell + 1) (end_of_row cell)) (end_of_row cell))
    go (yes h) =
        rw (first-cut (is_in 5) ms (cell + 1) (end_of_row cell) (omega arith))
        (whole (length ms) (omega arith) (λ j a b. past_end j a) (first_in (is_in 5) ms (cell + 1) (length ms)) (first_finds (is_in 5) 0 ms (cell + 1) (length ms) (omega arith)))
    go (no h) =
        whole (end_of_row cell) (omega arith) (λ j a b. absurd (omega arith)) (first_in (is_in 5) ms (cell + 1) (end_of_row cell))
        (first_finds (is_in 5) 0 ms (cell + 1) (end_of_row cell) (omega arith))

-- no second end is so
pub one_end : {ms : List ℕ} {cell e f : ℕ} → Ends ms cell e → Ends ms cell f → e ≡ f
one_end {ms} {cell} {e} {f} a b =
    let g : e < f → ⊥ = λ l. not-both (a.stop (omega (arith, b.within))) (b.none e a.past l) in
    let h : f < e → ⊥ = λ l. not-both (b.stop (omega (arith, a.within))) (a.none f b.past l) in
    omega arith

-- in a memory of whole rows the field ends within it
pub end-inside : (ms : List ℕ) (rows cell : ℕ) → length ms ≡ rows * 80 → cell < length ms → field_end ms cell ≤ length ms
end-inside ms rows cell n h = omega (arith, (field-ends ms cell).within)

-- ---- the cell belongs to the field that starts at start
pub record InField (ms : List ℕ) (start cell : ℕ) : Type 0 where
  pub starts : is_in 4 (get_or ms start 0) ≡ true
  pub from : start ≤ cell
  pub upto : cell < field_end ms start

-- all cells of a field lie in a memory of whole rows
pub field-inside : (ms : List ℕ) (rows start cell : ℕ) → length ms ≡ rows * 80 → InField ms start cell → cell < length ms
field-inside ms rows start cell n f = omega (arith, end-inside ms rows start n (marked-inside 4 ms start f.starts), f.upto)

-- the end depends on the later marks of the row alone
pub end_same : (xs ys : List ℕ) (cell : ℕ) → ((j : ℕ) → cell < j → j < end_of_row cell → get_or xs j 0 ≡ get_or ys j 0) → field_end xs cell ≡ field_end ys cell
end_same xs ys cell h = one_end same (field-ends ys cell)
  where
    r : Ends xs cell (field_end xs cell)
    r = field-ends xs cell

    same : Ends ys cell (field_end xs cell)
    same =
        record { past = r.past; within = r.within; none = λ j a b. sym (ap (is_in 5) (h j a (omega (arith, r.within)))) ∙ r.none j a b; stop = λ l. sym (ap (is_in 5) (h (field_end xs cell) r.past l)) ∙ r.stop l }

-- ---- the cells from t up to the field's end: one row, one kind, one end
module _ (ms : List ℕ) (t k : ℕ) (from : t ≤ k) (upto : k < field_end ms t) where
  pub row_in : k / 80 ≡ t / 80
  row_in = omega (arith, (field-ends ms t).within)

  pub kind-in : kind_at ms k ≡ kind_at ms t
  kind-in = kind-along ms t k from (omega (arith, (field-ends ms t).within)) (λ j a b. (field-ends ms t).none j a (omega arith))

  pub unprotected-in : unprotected ms k ≡ unprotected ms t
  unfolding unprotected
  unprotected-in = ap (is_in 3) kind-in

  pub end-in : field_end ms k ≡ field_end ms t
  end-in = one_end (field-ends ms k) same
    where
      r : Ends ms t (field_end ms t)
      r = field-ends ms t

      same : Ends ms k (field_end ms t)
      same = record { past = upto; within = omega (arith, r.within); none = λ j a b. r.none j (omega arith) b; stop = λ l. r.stop (omega (arith, r.within)) }

-- ---- an unprotected cell lies in a memory of whole rows
pub unprotected-inside : (ms : List ℕ) (rows cell : ℕ) → length ms ≡ rows * 80 → unprotected ms cell ≡ true → cell < length ms
unfolding unprotected
unprotected-inside ms rows cell n t = go (dec_lt cell (length ms))
  where
    go : Dec (cell < length ms) → cell < length ms
    go (yes h) = h
    go (no h) = omega (arith, in-low 3 (kind_at ms cell) t, kind-past ms cell rows n (omega arith))

-- ---- a field's start: it belongs to its field, has its mark's kind, and is unprotected where that is 1 to 3
pub start-in : (ms : List ℕ) (start : ℕ) → is_in 4 (get_or ms start 0) ≡ true → InField ms start start
start-in ms start t = record { starts = t; from = omega arith; upto = (field-ends ms start).past }

pub start-unprotected : (ms : List ℕ) (start : ℕ) → is_in 3 (get_or ms start 0) ≡ true → unprotected ms start ≡ true
unfolding unprotected
start-unprotected ms start t = ap (is_in 3) (kind-marked ms start (in-more 3 5 (get_or ms start 0) (omega arith) t)) ∙ t

-- ---- a cell of a field has the kind that is its start's mark
pub field-kind : (ms : List ℕ) (start cell : ℕ) → InField ms start cell → kind_at ms cell ≡ get_or ms start 0
field-kind ms start cell f = kind-in ms start cell f.from f.upto ∙ kind-marked ms start (in-more 4 5 (get_or ms start 0) (omega arith) f.starts)

-- ---- a cell belongs to one field at most
before-not : (ms : List ℕ) (s t cell : ℕ) → InField ms s cell → InField ms t cell → s < t → ⊥
before-not ms s t cell a b l =
    not-both (in-more 4 5 (get_or ms t 0) (omega arith) b.starts) ((field-ends ms s).none t l (omega (arith, b.from, a.upto)))

pub one_field : (ms : List ℕ) (s t cell : ℕ) → InField ms s cell → InField ms t cell → s ≡ t
one_field ms s t cell a b =
    let f : s < t → ⊥ = before-not ms s t cell a b in
    let g : t < s → ⊥ = before-not ms t s cell b a in
    omega arith

-- ---- a cell of kind 1 to 4 belongs to a field
none-of-0 : (ms : List ℕ) (cell : ℕ) → kind_at ms cell ≡ 0 → is_in 4 (kind_at ms cell) ≡ true → ⊥
none-of-0 ms cell e t = omega (arith, in-low 4 (kind_at ms cell) t)

pub kind-field : (ms : List ℕ) (cell : ℕ) → is_in 4 (kind_at ms cell) ≡ true → (start : ℕ) × InField ms start cell
kind-field ms zero t = go (is_in 5 (get_or ms 0 0)) refl
  where
    go : (b : Bool) → is_in 5 (get_or ms 0 0) ≡ b → (start : ℕ) × InField ms start 0
    go true u = (0, start-in ms 0 (ap (is_in 4) (sym (kind-marked ms 0 u)) ∙ t))
    go false u = absurd (none-of-0 ms 0 (kind-first ms 0 u refl) t)
kind-field ms (suc cell) t = go (is_in 5 (get_or ms (suc cell) 0)) refl (ℕ_discrete (suc cell % 80) 0) (kind-field ms cell)
  where
    go :
        (b : Bool) → is_in 5 (get_or ms (suc cell) 0) ≡ b → Dec (suc cell % 80 ≡ 0) → (is_in 4 (kind_at ms cell) ≡ true → (start : ℕ) × InField ms start cell) →
        (start : ℕ) × InField ms start (suc cell)
    go true u z ih = (suc cell, start-in ms (suc cell) (ap (is_in 4) (sym (kind-marked ms (suc cell) u)) ∙ t))
    go false u (yes z) ih = absurd (none-of-0 ms (suc cell) (kind-first ms (suc cell) u z) t)
    go false u (no z) ih = (r.0, record { starts = f.starts; from = omega (arith, f.from); upto = up (dec_lt (suc cell) (field_end ms r.0)) })
      where
        e : suc cell - 1 ≡ cell
        e = omega arith

        same : kind_at ms (suc cell) ≡ kind_at ms cell
        same = kind-later ms (suc cell) u z ∙ ap (kind_at ms) e

        r : (start : ℕ) × InField ms start cell
        r = ih (ap (is_in 4) (sym same) ∙ t)

        f : InField ms r.0 cell
        f = r.1

        up : Dec (suc cell < field_end ms r.0) → suc cell < field_end ms r.0
        up (yes l) = l
        up (no l) =
            let w = field-ends ms r.0 in
            let g : field_end ms r.0 ≡ suc cell = omega (arith, f.upto) in
            let s : is_in 5 (get_or ms (field_end ms r.0) 0) ≡ true = w.stop (omega (arith, w.within, f.from)) in
            absurd (not-both (rw g at s) u)

-- an unprotected cell belongs to a field whose mark is 1 to 3
pub unprotected-field : (ms : List ℕ) (cell : ℕ) → unprotected ms cell ≡ true → (start : ℕ) × (is_in 3 (get_or ms start 0) ≡ true) × InField ms start cell
unfolding unprotected
unprotected-field ms cell t =
    let r = kind-field ms cell (in-more 3 4 (kind_at ms cell) (omega arith) t) in
    (r.0, ap (is_in 3) (sym (field-kind ms r.0 cell r.1)) ∙ t, r.1)
