-- Tab and back tab with format off: by the tab stops, eighty yes-or-no marks. Assumes nothing.
use Rattle.std.specs.Prelude.{ℕ, ◌+◌, Bool, cond, List, ltb, Option, Some, None, unwrap_or}
use Rattle.cells.specs.Search.{first_in, last_in}
use Rattle.cursor.specs.declared.Cursor.{Cursor}
use Rattle.cursor.specs.Cursor.{gone, in_column}

-- the column has a tab stop
abbrev pub is_stop : Bool → Bool
is_stop b = b

-- the column found, else column 0 of the next row (none at the last row)
abbrev pub at_stop : ℕ → Cursor → Option ℕ → Cursor
at_stop rows c (Some col) = in_column col c
at_stop rows c None = cond (ltb (c.row + 1) rows) (gone c (c.row + 1) 0) c

-- the next tab column
unfoldable pub tabbed : ℕ → List Bool → Cursor → Cursor
tabbed rows stops c = at_stop rows c (first_in is_stop stops (c.col + 1) 80)

-- the last tab column before, else column 0
unfoldable pub back_tabbed : List Bool → Cursor → Cursor
back_tabbed stops c = in_column (unwrap_or (last_in is_stop stops 0 c.col) 0) c
