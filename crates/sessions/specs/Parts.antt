-- The records of a part of a session, as far as the lent room for lines goes: what `run_records` and `write_end` leave. Assumes nothing.
use Rattle.std.specs.Prelude.{ℕ, ◌+◌, cond, List, [], ◌∷◌, length, leb}
use Rattle.cells.specs.Memory.{written}
use Rattle.cursor.specs.declared.Cursor.{Cursor}
use Rattle.terminal.specs.State.{World, world}
use Rattle.records.specs.Records.{record_ran}
use Rattle.sessions.specs.Session.{split, next, three, end_text}
use Rattle.sessions.specs.declared.LinesAnswer.{LinesAnswer}

-- what running records leaves: the bytes taken, the bytes written to the lines, the number of the next record, the terminal, and the buffer for the lines
pub record Batch : Type 0 where
  pub taken : ℕ
  pub written : ℕ
  pub number : ℕ
  pub world : World
  pub lines : List ℕ

abbrev pub batch : ℕ → ℕ → ℕ → World → List ℕ → Batch
batch taken written number w lines = record { taken = taken; written = written; number = number; world = w; lines = lines }

abbrev pub lines_left : LinesAnswer → List ℕ → List ℕ → List ℕ → Batch
lines_left r chars attrs lines = batch r.taken r.written r.number (world r.state chars attrs) lines

-- record by record, `taken` bytes and `at` bytes of lines so far; it stops before a record whose line, at most three numbers of twenty digits, might not fit
unfoldable pub batch_on : ℕ → List (List ℕ) → ℕ → ℕ → ℕ → World → List ℕ → Batch
batch_on rows [] taken at number w lines = batch taken at number w lines
batch_on rows (r ∷ rs) taken at number w lines =
    let x = record_ran rows w r in
    let line = three number x.answer x.replied in
    cond (leb (at + 63) (length lines)) (batch_on rows rs (taken + length r) (at + length line) (next number) x.world (written lines at line))
    (batch taken at number w lines)

unfoldable pub records_run : ℕ → World → ℕ → List ℕ → List ℕ → Batch
records_run rows w number bytes lines = batch_on rows (split bytes) 0 0 number w lines

-- what writing the end line leaves: the bytes written, and the buffer. Nothing is written to under 67 bytes
pub record Ended : Type 0 where
  pub written : ℕ
  pub line : List ℕ

abbrev pub ended : ℕ → List ℕ → Ended
ended n line = record { written = n; line = line }

unfoldable pub end_written : Cursor → List ℕ → Ended
end_written c line = cond (leb 67 (length line)) (ended (length (end_text c)) (written line 0 (end_text c))) (ended 0 line)
