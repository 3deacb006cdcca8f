-- The promises of the two readers of host bytes, the table and the plain decisions: in every reading state both make the same of every byte, and so the two host calls leave the
-- same of every stream. Assumes nothing.
use Rattle.std.specs.Prelude.{ℕ, ◌+◌, ◌*◌, ◌%◌, ◌<◌, ◌≡◌, List, get_or}
use Rattle.reading.specs.declared.Number.{Number}
use Rattle.reading.specs.Reading.{settled, counted, next_reading}
use Rattle.table.specs.Table.{Tabled}
use Rattle.decisions.specs.Decisions.{Step, step, decided}
use Rattle.terminal.specs.State.{World}
use Rattle.streams.specs.declared.HostAnswer.{HostAnswer}
use Rattle.streams.specs.Streams.{stepped, answer_to, host_left, fed}
use Rattle.plain.specs.Plain.{plainly_stepped, plain_answer, plainly_fed}

-- ---- one byte

-- what the table's reader makes of a byte: the table's entry for the reading state and the byte modulo 128, a sign that is not first settled; then the reading state and the
-- number after that action
abbrev pub looked_up : List ℕ → ℕ → Number → ℕ → Step
looked_up table s n byte =
    let action = settled (get_or table (s * 128 + byte % 128) 0) n in
    step action (next_reading action) (counted action (byte % 128) n)

-- in every reading state and for every byte the table's entry and the decisions come to the same: the action, the reading state after it, and the number. The table that the
-- program has is such a table by the contract of `table::actions`
abbrev pub ReadersAgree : Type 0
ReadersAgree =
    (table : List ℕ) → Tabled table → (s byte : ℕ) (n : Number) → s < 7 → byte < 256 → looked_up table s n byte ≡ decided s n byte

-- so one byte leaves the same memory and state, whatever they were, and sends the same
abbrev pub BytesAgree : ℕ → Type 0
BytesAgree rows = (w : World) (byte : ℕ) → (stepped rows byte w ≡ plainly_stepped rows byte w) × (answer_to byte w ≡ plain_answer byte w)

-- ---- a stream

-- what `host` leaves and what `plain::host` leaves, of every stream, state, memory and room: the answers r and q with their counts and states, the characters, the attributes and the reply
-- buffers
abbrev pub HostsAgree : ℕ → Type 0
HostsAgree rows =
    (w : World) (bytes reply : List ℕ) (r q : HostAnswer) (c c' a a' o o' : List ℕ)
    → host_left r c a o ≡ fed rows w bytes reply → host_left q c' a' o' ≡ plainly_fed rows w bytes reply
    → (r ≡ q) × (c ≡ c') × (a ≡ a') × (o ≡ o')
