-- Cursor addressing (document 01, ESC & a): a number as a place, or with a sign as a move from the cursor; results are held to range. Assumes nothing.
use Rattle.std.specs.Prelude.{ℕ, ◌+◌, ◌-◌, min, cond, eqb, ℤ, pos, negsuc, neg_ℤ, ◌+ℤ◌}
use Rattle.cursor.specs.declared.Cursor.{Cursor}
use Rattle.cursor.specs.Cursor.{gone, in_column}

-- the number with its sign, a move of minus 999 to 999: sign 1 is plus, 2 minus
abbrev pub signed : ℕ → ℕ → ℤ
signed sign value = cond (eqb sign 1) (pos value) (neg_ℤ (pos value))

-- with a sign the number is a move from `at`, else (sign 0) a place
unfoldable pub aimed : ℕ → ℕ → ℕ → ℤ
aimed sign at value = cond (eqb sign 0) (pos value) (pos at +ℤ signed sign value)

-- held to 0 to n - 1
unfoldable pub held_to : ℕ → ℤ → ℕ
held_to n (pos a) = min a (n - 1)
held_to n (negsuc a) = 0

-- `c`: column
unfoldable pub to_column : ℕ → ℕ → Cursor → Cursor
to_column sign value c = in_column (held_to 80 (aimed sign c.col value)) c

-- `r`: memory row
unfoldable pub to_row : ℕ → ℕ → ℕ → Cursor → Cursor
to_row rows sign value c = gone c (held_to rows (aimed sign c.row value)) c.col

-- `y`: window row. With no sign it means top plus the number, the number held to 0 to 23
unfoldable pub to_window_row : ℕ → ℕ → ℕ → Cursor → Cursor
to_window_row rows sign value c = cond (eqb sign 0) (gone c (min (c.top + min value 23) (rows - 1)) c.col) (to_row rows sign value c)
