-- The promises of session records and of whole sessions (document 01, 'Session program'), whatever bytes come in. This holds of 24 to 96 rows.
-- Assumes nothing.
use Rattle.std.specs.Prelude.{ℕ, ◌+◌, ◌*◌, ◌≤◌, ◌<◌, min, ◌≡◌, ◌⊎◌, ◌↔◌, cond, List, [], ◌∷◌, length, drop, get_or, eqb}
use Rattle.cursor.specs.declared.Cursor.{Cursor}
use Rattle.terminal.specs.State.{World, fresh_world, Good}
use Rattle.streams.specs.Streams.{stepped}
use Rattle.records.specs.declared.PartAnswer.{PartAnswer}
use Rattle.records.specs.declared.RanAnswer.{RanAnswer}
use Rattle.records.specs.Records.{kind_of, length_of, number_of, data_of, part_left, record_part, ran, ran_left, emptied, record_ran}
use Rattle.sessions.specs.declared.LinesAnswer.{LinesAnswer}
use Rattle.sessions.specs.Session.{split, next, Line, went, session}
use Rattle.sessions.specs.Parts.{lines_left, records_run, ended, end_written}
use Rattle.sessions.specs.Loop.{Ends, Resumed}
use Rattle.mixing.specs.Event.{run}
use Rattle.promises.specs.Refusals.{GoodShown}
use Rattle.promises.specs.Numbers.{Entry, ◌for◌, Given, WrongSize, NotGood, sent, key_table, post_table, host_table}

-- ---- the form of a record

-- 12: a part under 84 bytes
abbrev pub ShortRecord : List ℕ → Type 0
ShortRecord r = length r < 84

-- kind H, K or P; length 0 to 80; a number of two bytes (0 for H); 80 data bytes, unused ones 0. K has length 0
pub record WellFormed (r : List ℕ) : Type 0 where
  pub whole : length r ≡ 84
  pub length_in : length_of r ≤ 80
  pub kind_fits : ((kind_of r ≡ 72) × (number_of r ≡ 0)) ⊎ (((kind_of r ≡ 75) × (length_of r ≡ 0)) ⊎ (kind_of r ≡ 80))
  pub unused_zero : (i : ℕ) → 4 + length_of r ≤ i → i < 84 → get_or r i 0 ≡ 0

-- 11: another form
abbrev pub OtherForm : List ℕ → Type 0
OtherForm r = ¬ WellFormed r

-- ---- the numbers of `run_from` and of `run`, in the order of their tests: 12, 11, then those of the call that the record asks for
abbrev pub part_table : ℕ → World → List ℕ → ℕ → List ℕ → List Entry
part_table rows w r at reply =
    (12 for ShortRecord r)
    ∷ (11 for OtherForm r)
    ∷ cond (eqb (kind_of r) 72) (host_table rows w (drop at (data_of r)) reply)
    (cond (eqb (kind_of r) 75) (key_table rows w reply (number_of r)) (post_table rows w (number_of r) (data_of r)))

abbrev pub PartNumbers : ℕ → Type 0
PartNumbers rows = (w : World) (r : List ℕ) (at : ℕ) (reply : List ℕ) (n : ℕ) → ((record_part rows w r at reply).number ≡ n) ↔ Given (part_table rows w r at reply) n

-- an H record answers 1 or 2 or is done, never 7
abbrev pub record_table : ℕ → World → List ℕ → List Entry
record_table rows w r =
    (12 for ShortRecord r)
    ∷ (11 for OtherForm r)
    ∷ cond (eqb (kind_of r) 72) ((1 for WrongSize rows w.chars w.attrs) ∷ (2 for NotGood rows w.state) ∷ [])
    (cond (eqb (kind_of r) 75) (key_table rows w (emptied rows) (number_of r)) (post_table rows w (number_of r) (data_of r)))

abbrev pub RecordNumbers : ℕ → Type 0
RecordNumbers rows = (w : World) (r : List ℕ) (n : ℕ) → ((record_ran rows w r).answer ≡ n) ↔ Given (record_table rows w r) n

-- ---- what an H record does, and what a refused record does

-- from a good state over memories of the right size an H record is done: each of its bytes in turn, and its reply bytes are those that the bytes send
abbrev pub HostRecords : ℕ → Type 0
HostRecords rows =
    (w : World) (r : List ℕ) → Good rows w.state → length w.chars ≡ rows * 80 → length w.attrs ≡ rows * 80 → WellFormed r → kind_of r ≡ 72
    → record_ran rows w r ≡ ran 0 (sent rows (data_of r) w) (run (stepped rows) (data_of r) w)

-- a refused record, 11 and 12 too, changes nothing and replies nothing
abbrev pub RecordRefusals : ℕ → Type 0
RecordRefusals rows = (w : World) (r : List ℕ) → ¬ ((record_ran rows w r).answer ≡ 0) → ((record_ran rows w r).world ≡ w) × ((record_ran rows w r).replied ≡ 0)

-- ---- each contract leaves no choice: r and q are two answers of one call, and c and c', a and a', o and o' the buffers that they leave
abbrev pub PartOnce : ℕ → Type 0
PartOnce rows =
    (w : World) (bytes : List ℕ) (at : ℕ) (reply : List ℕ) (r q : PartAnswer) (c c' a a' o o' : List ℕ)
    → part_left r c a o ≡ record_part rows w bytes at reply → part_left q c' a' o' ≡ record_part rows w bytes at reply
    → (r ≡ q) × (c ≡ c') × (a ≡ a') × (o ≡ o')

abbrev pub RecordOnce : ℕ → Type 0
RecordOnce rows =
    (w : World) (bytes : List ℕ) (r q : RanAnswer) (c c' a a' : List ℕ) → ran_left r c a ≡ record_ran rows w bytes → ran_left q c' a' ≡ record_ran rows w bytes
    → (r ≡ q) × (c ≡ c') × (a ≡ a')

abbrev pub LinesOnce : ℕ → Type 0
LinesOnce rows =
    (w : World) (number : ℕ) (bytes lines : List ℕ) (r q : LinesAnswer) (c c' a a' o o' : List ℕ)
    → lines_left r c a o ≡ records_run rows w number bytes lines → lines_left q c' a' o' ≡ records_run rows w number bytes lines
    → (r ≡ q) × (c ≡ c') × (a ≡ a') × (o ≡ o')

abbrev pub EndOnce : Type 0
EndOnce = (c : Cursor) (line : List ℕ) (n m : ℕ) (o o' : List ℕ) → ended n o ≡ end_written c line → ended m o' ≡ end_written c line → (n ≡ m) × (o ≡ o')

-- ---- sessions

-- each record has one line, with its number; its answer is given exactly as the table says, and its reply bytes are its own
abbrev pub Lined : ℕ → ℕ → World → List (List ℕ) → List Line → Type 0
Lined rows number w [] ls = ls ≡ []
Lined rows number w (r ∷ rs) [] = ⊥
Lined rows number w (r ∷ rs) (l ∷ ls) =
    (l.number ≡ number) × Given (record_table rows w r) l.answer × (l.replied ≡ (record_ran rows w r).replied) × Lined rows (next number) (record_ran rows w r).world rs ls

abbrev pub SessionLines : ℕ → Type 0
SessionLines rows = (bytes : List ℕ) → Lined rows 0 (fresh_world rows) (split bytes) (session rows bytes).lines

-- lines are numbered from 0, up to 2⁶⁴ - 1
abbrev pub SessionNumbered : ℕ → Type 0
SessionNumbered rows =
    (bytes : List ℕ) (i : ℕ) (l : Line) → i < length (session rows bytes).lines → (get_or (session rows bytes).lines i l).number ≡ min i 18446744073709551615

-- from a good state the state after any records is good, whatever memory is lent; so after every session from a fresh terminal
abbrev pub SessionGood : ℕ → Type 0
SessionGood rows =
    ((number : ℕ) (w : World) (rs : List (List ℕ)) → Good rows w.state → GoodShown rows (went rows number w rs).world)
    × ((bytes : List ℕ) → GoodShown rows (session rows bytes).world)

-- a part of a session that was run, and what is left of it, print what all would, however it is cut between records and whatever room is lent
abbrev pub SessionInParts : ℕ → Type 0
SessionInParts rows = (number : ℕ) (w : World) (part more room : List ℕ) → Ends part more → Resumed rows number w part more room (records_run rows w number part room)
