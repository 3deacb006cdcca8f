-- The cursor and the window's top (document 01, 'Moves and edits'). `rows` is the number of rows of the memory; a row has 80 cells, the window 24 rows.
-- Assumes nothing.
use Rattle.std.specs.Prelude.{ℕ, ◌+◌, ◌-◌, ◌*◌, ◌/◌, ◌%◌, ◌≤◌, ◌<◌, min, max, Bool, ◌&&◌, leb, ltb}
use Rattle.cursor.specs.declared.Cursor.{Cursor}

-- after each cursor change the top moves by the least amount that shows the cursor
abbrev pub top_for : ℕ → ℕ → ℕ
top_for row top = min row (max top (row - 23))

-- the cursor at a place
unfoldable pub gone : Cursor → ℕ → ℕ → Cursor
gone c row col = record { row = row; col = col; top = top_for row c.top }

-- cell number = row × 80 + column
abbrev pub cell_of : Cursor → ℕ
cell_of c = c.row * 80 + c.col

unfoldable pub at_cell : Cursor → ℕ → Cursor
at_cell c n = gone c (n / 80) (n % 80)

-- up and down stop at the first and the last row
unfoldable pub gone_up : Cursor → Cursor
gone_up c = gone c (c.row - 1) c.col

unfoldable pub gone_down : ℕ → Cursor → Cursor
gone_down rows c = gone c (min (c.row + 1) (rows - 1)) c.col

-- left and right pass row ends and stop at the memory's ends
unfoldable pub gone_left : Cursor → Cursor
gone_left c = at_cell c (cell_of c - 1)

unfoldable pub gone_right : ℕ → Cursor → Cursor
gone_right rows c = at_cell c (min (cell_of c + 1) (rows * 80 - 1))

unfoldable pub in_column : ℕ → Cursor → Cursor
in_column col c = record { row = c.row; col = col; top = c.top }

-- top 0, the cursor at a cell
unfoldable pub home_at : ℕ → Cursor
home_at n = at_cell (record { row = 0; col = 0; top = 0 }) n

-- top and row rise, or fall, by k or by what remains of the window's range 0 to rows - 24
unfoldable pub risen : ℕ → ℕ → Cursor → Cursor
risen rows k c =
    let d = min k (rows - 24 - c.top) in
    record { row = c.row + d; col = c.col; top = c.top + d }

unfoldable pub fallen : ℕ → Cursor → Cursor
fallen k c =
    let d = min k c.top in
    record { row = c.row - d; col = c.col; top = c.top - d }

-- in the memory and in the window, and the window in the memory: top ≤ row ≤ top + 23, all in range; as a test and as facts
unfoldable pub is_placed : ℕ → Cursor → Bool
is_placed rows c = ltb c.col 80 && (leb (c.top + 24) rows && (leb c.top c.row && leb c.row (c.top + 23)))

pub record InPlace (rows : ℕ) (c : Cursor) : Type 0 where
  pub col_in : c.col < 80
  pub top_in : c.top + 24 ≤ rows
  pub low : c.top ≤ c.row
  pub high : c.row ≤ c.top + 23
