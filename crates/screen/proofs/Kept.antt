-- Each edit keeps a whole page whole, and each move that looks at the memory keeps the cursor in place. Assumes nothing.
use Prim.Native.Nat.{ℕ, ◌+◌, ◌*◌, ◌/◌, ◌≤◌, ◌<◌}
use mathlib.Core.Path.{◌≡◌, refl, ◌∙◌}
use mathlib.Core.Bool.{Bool, true, false}
use mathlib.Core.List.{List}
use native.Mathlib.Omega.{arith}
use lib.ListN.{length, get_or, length-set}
use lib.Dec.{ltb}
use borrow.Author.Tests.{ltb-true}
use Rattle.std.specs.Prelude.{Option, Some, None, unwrap_or}
use Rattle.cells.specs.Search.{last_in}
use Rattle.cells.proofs.Choices.{choose-by}
use Rattle.cells.proofs.Patch.{length-changed_where}
use Rattle.cells.proofs.Splice.{length-moved_up, length-moved_down}
use Rattle.cells.proofs.Values.{length-filled, length-shifted_right, length-shifted_left}
use Rattle.cursor.specs.declared.Cursor.{Cursor}
use Rattle.cursor.specs.Cursor.{InPlace, cell_of}
use Rattle.cursor.proofs.Place.{gone-in, cell_in, down-in, column-in, home-in, row_in}
use Rattle.fields.specs.Fields.{mark_of, is_in, kind_at, unprotected, field_end, first_start, next_start, prev_start, target, allowed, non_blank, row_under, row_under_text}
use Rattle.fields.proofs.Marks.{length-marks}
use Rattle.fields.proofs.Fields.{end-inside}
use Rattle.fields.proofs.Starts.{first-inside, next-open, prev-open, target-open}
use Rattle.screen.specs.Page.{Page, page, cell, marks_of}
use Rattle.screen.specs.Whole.{Whole}
use Rattle.screen.specs.Edits.{scrolled, line_fed, homed, homed_down, gone_found, tabbed_in, back_tabbed_in, put, onward, typed_free, cell_after, typed_at_cell, typed_in, typed, cleared, display_cleared, line_cleared, char_deleted, row_inserted, row_deleted, mark_set, mark_turned, enhanced}

-- ---- lengths
pub length-put : (insert : Bool) (xs : List ℕ) (k e v : ℕ) → length (put insert xs k e v) ≡ length xs
unfolding put
length-put true xs k e v = length-shifted_right xs k e v
length-put false xs k e v = length-set xs k v

pub length-mark_set : (format : Bool) (m : ℕ) (attrs : List ℕ) (k : ℕ) → length (mark_set format m attrs k) ≡ length attrs
unfolding mark_set
length-mark_set true m attrs k = refl
length-mark_set false m attrs k = length-set attrs k (get_or attrs k 0 / 16 * 16 + m)

pub length-mark_turned : (format : Bool) (m : ℕ) (attrs : List ℕ) (k : ℕ) → length (mark_turned format m attrs k) ≡ length attrs
unfolding mark_turned
length-mark_turned format m attrs k =
    choose-by (λ (xs : List ℕ). length xs ≡ length attrs) (is_in 3 (mark_of (get_or attrs k 0))) (λ _. length-mark_set format m attrs k) (λ _. refl)

pub length-enhanced : (format : Bool) (e : ℕ) (attrs : List ℕ) (k : ℕ) → length (enhanced format e attrs k) ≡ length attrs
unfolding enhanced
length-enhanced true e attrs k = refl
length-enhanced false e attrs k = length-set attrs k (e * 16 + mark_of (get_or attrs k 0))

-- ---- moves over a memory of `rows` rows: a cell that a search finds is one of its cells
found-or : (n d : ℕ) (f : Option ℕ) → ((k : ℕ) → f ≡ Some k → k < n) → d < n → unwrap_or f d < n
found-or n d (Some k) h l = h k refl
found-or n d None h l = l

found_in : {rows : ℕ} {c : Cursor} → InPlace rows c → (f : Option ℕ) → ((k : ℕ) → f ≡ Some k → k < rows * 80) → InPlace rows (gone_found c f)
unfolding gone_found
found_in g (Some k) h = cell_in g (h k refl)
found_in g None h = g

module _ {rows : ℕ} {c : Cursor} (g : InPlace rows c) (ms : List ℕ) (long : length ms ≡ rows * 80) where
  pub homed-in : (format : Bool) (highest : ℕ) → InPlace rows (homed format highest ms)
  unfolding homed
  homed-in format highest =
      home-in (omega (arith, g))
      (choose-by (λ (k : ℕ). k < rows * 80) format
      (λ _. found-or (rows * 80) 0 (first_start highest ms) (λ k e. omega (arith, first-inside ms highest k e)) (omega (arith, g)))
      (λ _. omega (arith, g)))

  pub tabbed_in-in : InPlace rows (tabbed_in ms c)
  unfolding tabbed_in
  tabbed_in-in = found_in g (next_start ms (cell_of c)) (λ k e. omega (arith, (next-open ms (cell_of c) k e).inside))

  pub back_tabbed_in-in : InPlace rows (back_tabbed_in ms c)
  unfolding back_tabbed_in
  back_tabbed_in-in = found_in g (prev_start ms (cell_of c)) (λ k e. omega (arith, (prev-open ms (cell_of c) k e).inside))

row-under-in : (rows : ℕ) (f : Option ℕ) → 0 < rows → row_under rows f < rows
row-under-in rows (Some k) h = omega arith
row-under-in rows None h = h

pub homed_down-in : {rows : ℕ} {c : Cursor} → InPlace rows c → (chars : List ℕ) → InPlace rows (homed_down rows chars c)
unfolding homed_down row_under_text
homed_down-in {rows} {c} g chars =
    gone-in g (row-under-in rows (last_in non_blank chars 0 (length chars)) (omega (arith, g))) (omega arith)

-- ---- edits
module _ {rows : ℕ} {p : Page} (w : Whole rows p) where
  -- another cursor, and memories as long as before
  pub whole_with : {c : Cursor} {xs ys : List ℕ} → InPlace rows c → length xs ≡ length p.chars → length ys ≡ length p.attrs → Whole rows (page c xs ys)
  whole_with g e f = record { few = w.few; chars_long = e ∙ w.chars_long; attrs_long = f ∙ w.attrs_long; place = g }

  -- the marks are as many as the cells
  pub marks-long : length (marks_of p) ≡ rows * 80
  marks-long = length-marks p.attrs ∙ w.attrs_long

  scrolled-whole : Whole rows (scrolled p)
  unfolding scrolled
  scrolled-whole =
      whole_with w.place (length-moved_up p.chars 0 32 (omega (arith, w.place, w.chars_long)))
      (length-moved_up p.attrs 0 0 (omega (arith, w.place, w.attrs_long)))

  pub line_fed-whole : (format : Bool) → Whole rows (line_fed rows format p)
  unfolding line_fed
  line_fed-whole format =
      choose-by (Whole rows) (ltb (p.cursor.row + 1) rows) (λ _. whole_with (down-in w.place) refl refl)
      (λ _. choose-by (Whole rows) format (λ _. w) (λ _. scrolled-whole))

  after-in : (k : ℕ) → k < rows * 80 → cell_after (marks_of p) k < rows * 80
  unfolding cell_after
  after-in k h =
      choose-by (λ (n : ℕ). n < rows * 80) (ltb (k + 1) (field_end (marks_of p) k))
      (λ t. omega (arith, ltb-true (k + 1) (field_end (marks_of p) k) t, marks-long, end-inside (marks_of p) rows k marks-long (omega (arith, marks-long))))
      (λ _. found-or (rows * 80) k (next_start (marks_of p) k) (λ n e. omega (arith, marks-long, (next-open (marks_of p) k n e).inside)) h)

  typed-at-whole : (insert : Bool) (v k : ℕ) → k < rows * 80 → Whole rows (typed_at_cell insert v k p)
  unfolding typed_at_cell
  typed-at-whole insert v k h = whole_with (cell_in w.place (after-in k h)) (length-put insert p.chars k (field_end (marks_of p) k) v) refl

  typed-in-whole : (insert : Bool) (v : ℕ) (f : Option ℕ) → ((k : ℕ) → f ≡ Some k → k < rows * 80) → Whole rows (typed_in insert v f p)
  unfolding typed_in
  typed-in-whole insert v (Some k) h =
      choose-by (Whole rows) (allowed (kind_at (marks_of p) k) v) (λ _. typed-at-whole insert v k (h k refl)) (λ _. w)
  typed-in-whole insert v None h = w

  cleared-whole : (test : ℕ → Bool) → Whole rows (cleared test p)
  unfolding cleared
  cleared-whole test = whole_with w.place (length-changed_where p.chars (cell p) test _) (length-changed_where p.attrs (cell p) test _)

  pub display_cleared-whole : (format : Bool) → Whole rows (display_cleared format p)
  unfolding display_cleared
  display_cleared-whole true = cleared-whole (unprotected (marks_of p))
  display_cleared-whole false = whole_with w.place (length-filled p.chars _ _ _) (length-filled p.attrs _ _ _)

  pub line_cleared-whole : (format : Bool) → Whole rows (line_cleared format p)
  unfolding line_cleared
  line_cleared-whole true =
      choose-by (Whole rows) (unprotected (marks_of p) (cell p)) (λ _. cleared-whole (λ k. ltb k (field_end (marks_of p) (cell p)))) (λ _. w)
  line_cleared-whole false = whole_with w.place (length-filled p.chars _ _ _) (length-filled p.attrs _ _ _)

  pub char_deleted-whole : (format : Bool) → Whole rows (char_deleted format p)
  unfolding char_deleted
  char_deleted-whole true =
      choose-by (Whole rows) (unprotected (marks_of p) (cell p)) (λ _. whole_with w.place (length-shifted_left p.chars _ _ _) refl) (λ _. w)
  char_deleted-whole false = whole_with w.place (length-shifted_left p.chars _ _ _) refl

  -- the cursor's row lies in both memories
  row_fits : (xs : List ℕ) → length xs ≡ rows * 80 → p.cursor.row * 80 + 80 ≤ length xs
  row_fits xs e = omega (arith, row_in w.place)

  pub row_inserted-whole : (format : Bool) → Whole rows (row_inserted format p)
  unfolding row_inserted
  row_inserted-whole true = w
  row_inserted-whole false =
      whole_with (column-in w.place (omega arith)) (length-moved_down p.chars _ 32 (row_fits p.chars w.chars_long))
      (length-moved_down p.attrs _ 0 (row_fits p.attrs w.attrs_long))

  pub row_deleted-whole : (format : Bool) → Whole rows (row_deleted format p)
  unfolding row_deleted
  row_deleted-whole true = w
  row_deleted-whole false =
      whole_with (column-in w.place (omega arith)) (length-moved_up p.chars _ 32 (row_fits p.chars w.chars_long))
      (length-moved_up p.attrs _ 0 (row_fits p.attrs w.attrs_long))

-- ---- text
module _ {rows : ℕ} {p : Page} (w : Whole rows p) where
  onward-whole : Whole rows (onward rows p)
  unfolding onward
  onward-whole =
      choose-by (Whole rows) (ltb (cell p + 1) (rows * 80)) (λ t. whole_with w (cell_in w.place (ltb-true _ _ t)) refl refl)
      (λ _. let q = line_fed-whole w false in whole_with q (column-in q.place (omega arith)) refl refl)

typed-free-whole : {rows : ℕ} {p : Page} → Whole rows p → (insert : Bool) (v : ℕ) → Whole rows (typed_free rows insert v p)
unfolding typed_free
typed-free-whole {p = p} w insert v = onward-whole (whole_with w w.place (length-put insert p.chars _ _ _) refl)

pub typed-whole : {rows : ℕ} {p : Page} → Whole rows p → (format insert : Bool) (v : ℕ) → Whole rows (typed rows format insert v p)
unfolding typed
typed-whole {p = p} w true insert v =
    typed-in-whole w insert v (target (marks_of p) (cell p)) (λ k e. omega (arith, marks-long w, (target-open (marks_of p) (cell p) k (omega (arith, marks-long w, w.place)) e).inside))
typed-whole w false insert v = typed-free-whole w insert v
