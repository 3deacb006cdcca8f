-- What each edit and each move that looks at the memory does to a page (document 01, 'Moves and edits'). `format` says whether format mode is on.
-- Assumes nothing.
use Rattle.std.specs.Prelude.{ℕ, ◌+◌, ◌*◌, ◌/◌, Bool, true, false, cond, List, length, set, get_or, ltb, Option, Some, None, unwrap_or}
use Rattle.cells.specs.Memory.{filled, changed_where, shifted_right, shifted_left, moved_up, moved_down}
use Rattle.cursor.specs.declared.Cursor.{Cursor}
use Rattle.cursor.specs.Cursor.{cell_of, gone, at_cell, gone_down, in_column, home_at}
use Rattle.fields.specs.Fields.{mark_of, stripped, is_in, end_of_row, kind_at, unprotected, field_end, first_start, next_start, prev_start, target, allowed, row_under_text}
use Rattle.screen.specs.Page.{Page, page, with_cursor, cell, marks_of}

-- ---- line feed: next row, same column; at the last row with format off all rows with attributes move up, the last becomes blank with attributes 0;
-- with format on nothing
unfoldable pub scrolled : Page → Page
scrolled p = page p.cursor (moved_up p.chars 0 32) (moved_up p.attrs 0 0)

unfoldable pub line_fed : ℕ → Bool → Page → Page
line_fed rows format p = cond (ltb (p.cursor.row + 1) rows) (with_cursor (gone_down rows p.cursor) p) (cond format p (scrolled p))

-- ---- home: top 0, the cursor at the first field whose mark is 1 to highest, or at (0,0) with format off or none
unfoldable pub homed : Bool → ℕ → List ℕ → Cursor
homed format highest ms = home_at (cond format (unwrap_or (first_start highest ms) 0) 0)

-- ---- home down: column 0 of the row under the last row that has a non-blank
unfoldable pub homed_down : ℕ → List ℕ → Cursor → Cursor
homed_down rows chars c = gone c (row_under_text rows chars) 0

-- ---- tab and back tab with format on. No field: no move
unfoldable pub gone_found : Cursor → Option ℕ → Cursor
gone_found c (Some k) = at_cell c k
gone_found c None = c

unfoldable pub tabbed_in : List ℕ → Cursor → Cursor
tabbed_in ms c = gone_found c (next_start ms (cell_of c))

unfoldable pub back_tabbed_in : List ℕ → Cursor → Cursor
back_tabbed_in ms c = gone_found c (prev_start ms (cell_of c))

-- ---- text: v at cell k; insert mode first shifts the characters up to cell e right, the last lost
unfoldable pub put : Bool → List ℕ → ℕ → ℕ → ℕ → List ℕ
put true xs k e v = shifted_right xs k e v
put false xs k e v = set xs k v

-- right, and from the last cell as a line feed with column 0
unfoldable pub onward : ℕ → Page → Page
onward rows p =
    cond (ltb (cell p + 1) (rows * 80)) (with_cursor (at_cell p.cursor (cell p + 1)) p)
    (let q = line_fed rows false p in with_cursor (in_column 0 q.cursor) q)

-- format off: written at the cursor, then right
unfoldable pub typed_free : ℕ → Bool → ℕ → Page → Page
typed_free rows insert v p = onward rows (page p.cursor (put insert p.chars (cell p) (end_of_row (cell p)) v) p.attrs)

-- format on: the cursor goes to the next cell of that field, or from its last cell to the next field start, as for tab
unfoldable pub cell_after : List ℕ → ℕ → ℕ
cell_after ms k = cond (ltb (k + 1) (field_end ms k)) (k + 1) (unwrap_or (next_start ms k) k)

unfoldable pub typed_at_cell : Bool → ℕ → ℕ → Page → Page
typed_at_cell insert v k p =
    page (at_cell p.cursor (cell_after (marks_of p) k)) (put insert p.chars k (field_end (marks_of p) k) v) p.attrs

-- no target, or a character that the field's kind does not allow: nothing changes
unfoldable pub typed_in : Bool → ℕ → Option ℕ → Page → Page
typed_in insert v (Some k) p = cond (allowed (kind_at (marks_of p) k) v) (typed_at_cell insert v k p) p
typed_in insert v None p = p

unfoldable pub typed : ℕ → Bool → Bool → ℕ → Page → Page
typed rows true insert v p = typed_in insert v (target (marks_of p) (cell p)) p
typed rows false insert v p = typed_free rows insert v p

-- ---- clearing with format on, of the cells from the cursor on that pass the test: the character becomes 32, the mark stays with enhancement 0
unfoldable pub cleared : (ℕ → Bool) → Page → Page
cleared test p = page p.cursor (changed_where p.chars (cell p) test (λ v. 32)) (changed_where p.attrs (cell p) test stripped)

-- ---- clear display: format off, cursor to end becomes 32 with attribute 0; format on, unprotected cells from the cursor on are cleared
unfoldable pub display_cleared : Bool → Page → Page
display_cleared true p = cleared (unprotected (marks_of p)) p
display_cleared false p = page p.cursor (filled p.chars (cell p) (length p.chars) 32) (filled p.attrs (cell p) (length p.attrs) 0)

-- ---- clear line: likewise to the row's end; format on, to the field's end if the cursor is unprotected, else nothing
unfoldable pub line_cleared : Bool → Page → Page
line_cleared true p =
    let end = field_end (marks_of p) (cell p) in
    cond (unprotected (marks_of p) (cell p)) (cleared (λ k. ltb k end) p) p
line_cleared false p =
    page p.cursor (filled p.chars (cell p) (end_of_row (cell p)) 32) (filled p.attrs (cell p) (end_of_row (cell p)) 0)

-- ---- delete character: the rest of the row (format on: of the unprotected field, else nothing) moves left, a blank enters; attributes stay
unfoldable pub char_deleted : Bool → Page → Page
char_deleted true p =
    cond (unprotected (marks_of p) (cell p)) (page p.cursor (shifted_left p.chars (cell p) (field_end (marks_of p) (cell p)) 32) p.attrs) p
char_deleted false p = page p.cursor (shifted_left p.chars (cell p) (end_of_row (cell p)) 32) p.attrs

-- ---- insert and delete row: format off only; rows with attributes move, a blank row with attributes 0 enters, the last row is lost on insert; column 0
unfoldable pub row_inserted : Bool → Page → Page
row_inserted true p = p
row_inserted false p =
    page (in_column 0 p.cursor) (moved_down p.chars (p.cursor.row * 80) 32) (moved_down p.attrs (p.cursor.row * 80) 0)

unfoldable pub row_deleted : Bool → Page → Page
row_deleted true p = p
row_deleted false p =
    page (in_column 0 p.cursor) (moved_up p.chars (p.cursor.row * 80) 32) (moved_up p.attrs (p.cursor.row * 80) 0)

-- ---- marks and enhancements are set or turned only with format off. An attribute byte is 16 × enhancement + mark, and each part is set alone
unfoldable pub mark_set : Bool → ℕ → List ℕ → ℕ → List ℕ
mark_set true m attrs k = attrs
mark_set false m attrs k = set attrs k (get_or attrs k 0 / 16 * 16 + m)

-- turn a mark 1 to 3 there into m
unfoldable pub mark_turned : Bool → ℕ → List ℕ → ℕ → List ℕ
mark_turned format m attrs k = cond (is_in 3 (mark_of (get_or attrs k 0))) (mark_set format m attrs k) attrs

unfoldable pub enhanced : Bool → ℕ → List ℕ → ℕ → List ℕ
enhanced true e attrs k = attrs
enhanced false e attrs k = set attrs k (e * 16 + mark_of (get_or attrs k 0))
