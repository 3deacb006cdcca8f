-- Only proofs and inner contracts need this: the bytes of sequences, one after the other: all of them change the cursor, the reading state and the number alone.
-- Assumes nothing.
use Rattle.std.specs.Prelude.{ℕ, ◌+◌, ◌%◌, Bool, cond, ◌||◌, List, [], ◌∷◌, leb}
use Rattle.cells.specs.Range.{within}
use Rattle.cursor.specs.declared.Cursor.{Cursor}
use Rattle.cursor.specs.Addressing.{to_column, to_row, to_window_row}
use Rattle.reading.specs.declared.Number.{Number}
use Rattle.reading.specs.Action as Action
use Rattle.reading.specs.Reading.{action_of, settled, counted, next_reading}
use Rattle.runs.specs.declared.Reader.{Reader}

-- the actions of a sequence, ESC & a with its numbers among them, and `rest`: they change the cursor, the reading state and the number alone, and send nothing
unfoldable pub in_sequence : ℕ → Bool
in_sequence a = leb a Action.esc || within Action.to_group Action.stay a

-- the cursor after one of them
unfoldable pub addressed : ℕ → ℕ → Number → Cursor → Cursor
addressed rows a n c =
    cond (within Action.column_on Action.column_end a) (to_column n.sign n.value c)
    (cond (within Action.row_on Action.row_end a) (to_row rows n.sign n.value c)
    (cond (within Action.window_on Action.window_end a) (to_window_row rows n.sign n.value c)
    c))

abbrev pub reader : Cursor → Number → ℕ → ℕ → Reader
reader c n s at = record { cursor = c; number = n; reading = s; at = at }

-- the reader after a byte, a its action before a sign is settled, b the byte below 128, next the place of the byte after it: a byte of no sequence leaves the reader as it is
unfoldable pub turned : ℕ → ℕ → ℕ → ℕ → Reader → Reader
turned rows a b next r =
    let s = settled a r.number in
    cond (in_sequence s) (reader (addressed rows s r.number r.cursor) (counted s b r.number) (next_reading s) next) r

-- the reader after the bytes up to the first whose action is of no sequence
unfoldable pub followed : ℕ → List ℕ → Reader → Reader
followed rows [] r = r
followed rows (b ∷ bs) r =
    let a = action_of r.reading b in
    cond (in_sequence (settled a r.number)) (followed rows bs (turned rows a (b % 128) (r.at + 1) r)) r
