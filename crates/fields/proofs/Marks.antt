-- The test of a mark against its bounds, and the marks of a memory.
-- Assumes nothing.
use Prim.Native.Nat.{ℕ, zero, suc, ◌+◌, ◌*◌, ◌≤◌, ◌<◌}
use mathlib.Core.Path.{◌≡◌, refl, ap, sym, ◌∙◌}
use mathlib.Core.Bool.{true, false, and-eq-true_iff, and-false}
use mathlib.Core.List.{List, [], ◌∷◌}
use native.Mathlib.Omega.{arith}
use native.Mathlib.Decide.{dec_lt}
use borrow.Author.Tests.{le-leb, lt-leb, leb-true}
use lib.Dec.{leb}
use lib.ListN.{length, get_or, set, length-map, get_or-map, get_or-eq_default}
use lib.Seq.{ext_get_or, map-set_same}
use Rattle.fields.specs.Fields.{mark_of, marks, is_in}

-- ---- the test against its bounds
pub in-low : (highest mark : ℕ) → is_in highest mark ≡ true → 1 ≤ mark
unfolding is_in
in-low highest mark t = leb-true 1 mark ((and-eq-true_iff (leb 1 mark) (leb mark highest)).0 t).0

pub in-high : (highest mark : ℕ) → is_in highest mark ≡ true → mark ≤ highest
unfolding is_in
in-high highest mark t = leb-true mark highest ((and-eq-true_iff (leb 1 mark) (leb mark highest)).0 t).1

pub is-in : (highest mark : ℕ) → 1 ≤ mark → mark ≤ highest → is_in highest mark ≡ true
unfolding is_in
is-in highest mark a b = rw (le-leb 1 mark a, le-leb mark highest b)

pub out-low : (highest : ℕ) → is_in highest 0 ≡ false
unfolding is_in
out-low highest = refl

pub out-high : (highest mark : ℕ) → highest < mark → is_in highest mark ≡ false
unfolding is_in
out-high highest mark h = rw (lt-leb mark highest h) (and-false (leb 1 mark))

pub in-more : (highest wider mark : ℕ) → highest ≤ wider → is_in highest mark ≡ true → is_in wider mark ≡ true
in-more highest wider mark l t = is-in wider mark (in-low highest mark t) (omega (arith, in-high highest mark t))

-- a marked cell lies in the memory
pub marked-inside : (highest : ℕ) (ms : List ℕ) (cell : ℕ) → is_in highest (get_or ms cell 0) ≡ true → cell < length ms
marked-inside highest ms cell t = go (dec_lt cell (length ms))
  where
    go : Dec (cell < length ms) → cell < length ms
    go (yes h) = h
    go (no h) = omega (arith, in-low highest (get_or ms cell 0) t, get_or-eq_default ms 0 {n = cell} (omega arith))

-- ---- the marks of a memory, cell by cell
pub mark-of : (enhancement mark : ℕ) → mark < 16 → mark_of (16 * enhancement + mark) ≡ mark
mark-of enhancement mark h = omega arith

pub length-marks : (attrs : List ℕ) → length (marks attrs) ≡ length attrs
unfolding marks
length-marks attrs = length-map attrs mark_of

pub mark-at : (attrs : List ℕ) (cell : ℕ) → get_or (marks attrs) cell 0 ≡ mark_of (get_or attrs cell 0)
unfolding marks
mark-at attrs cell = get_or-map mark_of attrs cell 0

-- memories with the same mark in each cell, whatever their enhancements, have the same marks
pub marks_same : (xs ys : List ℕ) → length xs ≡ length ys → ((cell : ℕ) → cell < length xs → mark_of (get_or xs cell 0) ≡ mark_of (get_or ys cell 0)) → marks xs ≡ marks ys
marks_same xs ys n h =
    ext_get_or 0 (marks xs) (marks ys) (length-marks xs ∙ n ∙ sym (length-marks ys))
    (λ cell l. mark-at xs cell ∙ h cell (omega (arith, length-marks xs)) ∙ sym (mark-at ys cell))

-- one attribute is set: its mark is; and where that is the mark the cell has, no mark changes
pub marks-set : (attrs : List ℕ) (cell a : ℕ) → marks (set attrs cell a) ≡ set (marks attrs) cell (mark_of a)
unfolding marks
marks-set [] cell a = refl
marks-set (x ∷ xs) zero a = refl
marks-set (x ∷ xs) (suc cell) a = ap (λ (l : List ℕ). mark_of x ∷ l) (marks-set xs cell a)

pub marks-set-same : (attrs : List ℕ) (cell a : ℕ) → mark_of a ≡ mark_of (get_or attrs cell 0) → marks (set attrs cell a) ≡ marks attrs
unfolding marks
marks-set-same attrs cell a e = map-set_same mark_of attrs cell a 0 e
