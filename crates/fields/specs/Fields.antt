-- Fields (document 01, 'Memory and state'), said of the marks alone, one for each cell in reading order: enhancements do not enter. Rows have 80 cells.
-- Assumes nothing.
use Rattle.std.specs.Option.{option_or}
use Rattle.std.specs.Prelude.{ℕ, ◌+◌, ◌-◌, ◌*◌, ◌/◌, ◌%◌, min, Bool, true, cond, ◌&&◌, ◌||◌, not, List, map, length, get_or, eqb, Option, Some, None, unwrap_or}
use Rattle.cells.specs.Range.{within}
use Rattle.cells.specs.Search.{first_in, last_in, count_in, nth_of}

-- an attribute byte is 16 × enhancement + mark
abbrev pub mark_of : ℕ → ℕ
mark_of a = a % 16

unfoldable pub marks : List ℕ → List ℕ
marks attrs = map mark_of attrs

-- clearing with format on leaves of an attribute byte its mark, with enhancement 0
abbrev pub stripped : ℕ → ℕ
stripped a = mark_of a

-- a mark of 1 to highest: 1 to 3 start an unprotected field, 4 a transmit-only field, 5 ends a field; 0 and 6 to 15 are no mark
unfoldable pub is_in : ℕ → ℕ → Bool
is_in highest mark = within 1 highest mark

abbrev pub start_of_row : ℕ → ℕ
start_of_row cell = cell / 80 * 80

abbrev pub end_of_row : ℕ → ℕ
end_of_row cell = cell / 80 * 80 + 80

-- the cell past the field's last: the next mark 1 to 5 in that row, or the row's end
unfoldable pub field_end : List ℕ → ℕ → ℕ
field_end ms cell = unwrap_or (first_in (is_in 5) ms (cell + 1) (end_of_row cell)) (end_of_row cell)

-- the kind of a cell: the last mark 1 to 5 in its row at or before it, which is 1 to 4 in a field and 5 behind one; 0 where there is none
abbrev pub mark_found : List ℕ → Option ℕ → ℕ
mark_found ms (Some k) = get_or ms k 0
mark_found ms None = 0

unfoldable pub kind_at : List ℕ → ℕ → ℕ
kind_at ms cell = mark_found ms (last_in (is_in 5) ms (start_of_row cell) (cell + 1))

-- fields of marks 1 to 3 are unprotected; all other cells are protected
unfoldable pub unprotected : List ℕ → ℕ → Bool
unprotected ms cell = is_in 3 (kind_at ms cell)

-- home: the first field whose mark is 1 to highest
unfoldable pub first_start : ℕ → List ℕ → Option ℕ
first_start highest ms = first_in (is_in highest) ms 0 (length ms)

-- tab: the first unprotected field start after the cell in reading order, else the first of all
unfoldable pub next_start : List ℕ → ℕ → Option ℕ
next_start ms cell = option_or (first_in (is_in 3) ms (cell + 1) (length ms)) (first_in (is_in 3) ms 0 (length ms))

-- back tab mirrors this: the last unprotected field start before the cell, else the last of all
unfoldable pub prev_start : List ℕ → ℕ → Option ℕ
prev_start ms cell = option_or (last_in (is_in 3) ms 0 cell) (last_in (is_in 3) ms 0 (length ms))

-- posts count unprotected fields from 0 in reading order: where field n starts
unfoldable pub nth_field : List ℕ → ℕ → Option ℕ
nth_field ms n = nth_of (is_in 3) n 0 ms

-- the number of the unprotected field that holds a cell; and whether field n holds it
unfoldable pub field_number : List ℕ → ℕ → ℕ
field_number ms cell = count_in (is_in 3) ms 0 (cell + 1) - 1

unfoldable pub holds : List ℕ → ℕ → ℕ → Bool
holds ms n cell = unprotected ms cell && eqb (field_number ms cell) n

-- text, format on: the cell that takes it is the cursor cell if unprotected, else the next field start as for tab
unfoldable pub target : List ℕ → ℕ → Option ℕ
target ms cell = cond (unprotected ms cell) (Some cell) (next_start ms cell)

-- letters fields take A-Z, a-z and blank; digits fields 0-9, `+` `,` `-` `.` (43 to 46) and blank; any other field every character
unfoldable pub letters_take : ℕ → Bool
letters_take v = within 65 90 v || within 97 122 v || eqb v 32

unfoldable pub digits_take : ℕ → Bool
digits_take v = within 48 57 v || within 43 46 v || eqb v 32

unfoldable pub allowed : ℕ → ℕ → Bool
allowed kind v = cond (eqb kind 2) (letters_take v) (cond (eqb kind 3) (digits_take v) true)

-- home down: the row under the last row that has a non-blank, at most the last row; row 0 if all is blank
abbrev pub non_blank : ℕ → Bool
non_blank v = not (eqb v 32)

abbrev pub row_under : ℕ → Option ℕ → ℕ
row_under rows (Some i) = min (i / 80 + 1) (rows - 1)
row_under rows None = 0

unfoldable pub row_under_text : ℕ → List ℕ → ℕ
row_under_text rows chars = row_under rows (last_in non_blank chars 0 (length chars))
