-- What the scans cite: a search of the marks is one of the attribute bytes; a cell's kind, back from the cell and onward; tab and back tab.
-- Assumes nothing.
use Prim.Native.Nat.{ℕ, ◌+◌, ◌-◌, ◌%◌, ◌≤◌, ◌<◌}
use mathlib.Core.Path.{◌≡◌, refl, ap, sym, ◌∙◌}
use mathlib.Core.Bool.{Bool, true, false, cond}
use mathlib.Core.List.{List}
use native.Mathlib.Omega.{arith}
use lib.Dec.{eqb}
use lib.ListN.{length, get_or}
use Rattle.cells.specs.Search.{first_in, last_in, count_in, nth_of}
use Rattle.cells.proofs.Search.{first-map, last-map, count_map, nth-map, first_short, last-short, else-first, else-second, Downto, down-hit, down-end}
use Rattle.std.specs.Prelude.{Option, Some, None}
use Rattle.std.specs.Option.{option_or}
use Rattle.fields.specs.Fields.{mark_of, marks, is_in, start_of_row, mark_found, kind_at, unprotected, next_start, prev_start}
use Rattle.fields.specs.Walk.{kind_after}
use Rattle.fields.proofs.Marks.{mark-at, length-marks}
use Rattle.fields.proofs.Kind.{kind-step}

-- the byte's mark is 1 to highest
abbrev pub has_mark : ℕ → ℕ → Bool
has_mark highest a = is_in highest (mark_of a)

module _ (highest : ℕ) (attrs : List ℕ) where
  pub first_marks : (lo hi : ℕ) → first_in (has_mark highest) attrs lo hi ≡ first_in (is_in highest) (marks attrs) lo hi
  unfolding marks
  first_marks lo hi = sym (first-map (is_in highest) mark_of attrs lo hi)

  pub last-marks : (lo hi : ℕ) → last_in (has_mark highest) attrs lo hi ≡ last_in (is_in highest) (marks attrs) lo hi
  unfolding marks
  last-marks lo hi = sym (last-map (is_in highest) mark_of attrs lo hi)

  pub count-marks : (lo hi : ℕ) → count_in (has_mark highest) attrs lo hi ≡ count_in (is_in highest) (marks attrs) lo hi
  unfolding marks
  count-marks lo hi = sym (count_map (is_in highest) mark_of attrs lo hi)

  pub nth-marks : (n : ℕ) → nth_of (has_mark highest) n 0 attrs ≡ nth_of (is_in highest) n 0 (marks attrs)
  unfolding marks
  nth-marks n = sym (nth-map (is_in highest) mark_of n 0 attrs)

-- ---- back from the cell: the first mark met governs it, and none where its row has none up to it
module _ {attrs : List ℕ} {i : ℕ} (cell : ℕ) (d : Downto (has_mark 5) 0 attrs (start_of_row cell) (cell + 1) i) where
  pub kind-hit : start_of_row cell < i → has_mark 5 (get_or attrs (i - 1) 0) ≡ true → mark_of (get_or attrs (i - 1) 0) ≡ kind_at (marks attrs) cell
  unfolding kind_at
  kind-hit l t = sym (mark-at attrs (i - 1)) ∙ ap (mark_found (marks attrs)) (down-hit {j = i - 1} d (omega arith) t (omega arith) ∙ last-marks 5 attrs (start_of_row cell) (cell + 1))

  pub kind-none : i ≤ start_of_row cell → 0 ≡ kind_at (marks attrs) cell
  unfolding kind_at
  kind-none l = ap (mark_found (marks attrs)) (down-end d l ∙ last-marks 5 attrs (start_of_row cell) (cell + 1))

-- ---- onward from a cell: the kind at hand, with the mark of cell i, gives the kind of cell i
pub record Onward (attrs : List ℕ) (i kind : ℕ) : Type 0 where
  pub gives : kind_after i kind (mark_of (get_or attrs i 0)) ≡ kind_at (marks attrs) i

again : (i before m : ℕ) → kind_after i (kind_after i before m) m ≡ kind_after i before m
again i before m = go (is_in 5 m) (eqb (i % 80) 0)
  where
    go : (a b : Bool) → cond a m (cond b 0 (cond a m (cond b 0 before))) ≡ cond a m (cond b 0 before)
    go true b = refl
    go false true = refl
    go false false = refl

at-cell : (attrs : List ℕ) (i : ℕ) → kind_at (marks attrs) i ≡ kind_after i (kind_at (marks attrs) (i - 1)) (mark_of (get_or attrs i 0))
at-cell attrs i = kind-step (marks attrs) i ∙ ap (kind_after i (kind_at (marks attrs) (i - 1))) (mark-at attrs i)

pub onward-start : {attrs : List ℕ} {i kind : ℕ} → kind ≡ kind_at (marks attrs) i → Onward attrs i kind
onward-start {attrs} {i} e =
    record {
      gives =
          ap (λ (k : ℕ). kind_after i k (mark_of (get_or attrs i 0))) (e ∙ at-cell attrs i)
          ∙ again i (kind_at (marks attrs) (i - 1)) (mark_of (get_or attrs i 0))
          ∙ sym (at-cell attrs i);
    }

pub onward-next : {attrs : List ℕ} (i : ℕ) {j kind : ℕ} → kind ≡ kind_at (marks attrs) i → j ≡ i + 1 → Onward attrs j kind
onward-next {attrs} i {j} e n =
    let q : i ≡ j - 1 = omega arith in
    record { gives = ap (λ (k : ℕ). kind_after j k (mark_of (get_or attrs j 0))) (e ∙ ap (kind_at (marks attrs)) q) ∙ sym (at-cell attrs j) }

-- ---- tab and back tab in two searches that share no cell
module _ (attrs : List ℕ) (cell : ℕ) where
  next-after : {i : ℕ} → first_in (is_in 3) (marks attrs) (cell + 1) (length attrs) ≡ Some i → Some i ≡ next_start (marks attrs) cell
  unfolding next_start
  next-after e = else-first _ (ap (first_in (is_in 3) (marks attrs) (cell + 1)) (length-marks attrs) ∙ e)

  next-around : cell < length attrs → first_in (is_in 3) (marks attrs) (cell + 1) (length attrs) ≡ None → first_in (is_in 3) (marks attrs) 0 (cell + 1) ≡ next_start (marks attrs) cell
  unfolding next_start
  next-around h e =
      let n : first_in (is_in 3) (marks attrs) (cell + 1) (length (marks attrs)) ≡ None = ap (first_in (is_in 3) (marks attrs) (cell + 1)) (length-marks attrs) ∙ e in
      sym (first_short (is_in 3) (marks attrs) 0 (cell + 1) (length (marks attrs)) (omega arith) (omega (arith, length-marks attrs)) (omega arith) n)
      ∙ else-second _ n

  prev-before : {i : ℕ} → last_in (is_in 3) (marks attrs) 0 cell ≡ Some i → Some i ≡ prev_start (marks attrs) cell
  unfolding prev_start
  prev-before e = else-first _ e

  prev-around : cell < length attrs → last_in (is_in 3) (marks attrs) 0 cell ≡ None → last_in (is_in 3) (marks attrs) cell (length attrs) ≡ prev_start (marks attrs) cell
  unfolding prev_start
  prev-around h e =
      ap (last_in (is_in 3) (marks attrs) cell) (sym (length-marks attrs))
      ∙ sym (last-short (is_in 3) (marks attrs) 0 cell (length (marks attrs)) (omega arith) (omega (arith, length-marks attrs)) (omega arith) e)
      ∙ else-second _ e

  pub next-of : cell < length attrs → (o : Option ℕ) → o ≡ first_in (is_in 3) (marks attrs) (cell + 1) (length attrs) → option_or o (first_in (is_in 3) (marks attrs) 0 (cell + 1)) ≡ next_start (marks attrs) cell
  next-of h (Some i) e = next-after (sym e)
  next-of h None e = next-around h (sym e)

  pub prev-of : cell < length attrs → (o : Option ℕ) → o ≡ last_in (is_in 3) (marks attrs) 0 cell → option_or o (last_in (is_in 3) (marks attrs) cell (length attrs)) ≡ prev_start (marks attrs) cell
  prev-of h (Some i) e = prev-before (sym e)
  prev-of h None e = prev-around h (sym e)

-- ---- a cell of an unprotected kind is unprotected
pub unprotected-by : (ms : List ℕ) (cell : ℕ) {kind : ℕ} {b : Bool} → kind ≡ kind_at ms cell → b ≡ is_in 3 kind → unprotected ms cell ≡ b
unfolding unprotected
unprotected-by ms cell k e = sym (e ∙ ap (is_in 3) k)
