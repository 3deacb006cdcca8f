-- The promise that a lent reply buffer counts by its room alone: with two buffers of one length a call answers the same, counts the same, leaves the same state and memory, and
-- writes the same bytes. So a buffer that is lent again need not be cleared. Assumes nothing.
use Rattle.std.specs.Prelude.{ℕ, ◌≡◌, List, length}
use Rattle.terminal.specs.State.{World}
use Rattle.key.specs.Keys as Keys
use Rattle.streams.specs.Streams as Streams
use Rattle.readers.specs.Owners as Owners
use Rattle.records.specs.Records as Records

-- `delivered` is all that a call leaves, with those bytes of the reply buffer alone that it wrote
abbrev pub KeyRooms : ℕ → Type 0
KeyRooms rows =
    (w : World) (reply other : List ℕ) (code : ℕ) → length reply ≡ length other → Keys.delivered (Keys.keyed rows w reply code) ≡ Keys.delivered (Keys.keyed rows w other code)

abbrev pub HostRooms : ℕ → Type 0
HostRooms rows =
    (w : World) (bytes reply other : List ℕ) → length reply ≡ length other → Streams.delivered (Streams.fed rows w bytes reply) ≡ Streams.delivered (Streams.fed rows w bytes other)

abbrev pub ReadBackRooms : ℕ → Type 0
ReadBackRooms rows =
    (w : World) (owners : List ℕ) (reader field : ℕ) (out other : List ℕ) → length out ≡ length other
    → Owners.delivered (Owners.read_back_of rows w owners reader field out) ≡ Owners.delivered (Owners.read_back_of rows w owners reader field other)

abbrev pub PartRooms : ℕ → Type 0
PartRooms rows =
    (w : World) (r : List ℕ) (at : ℕ) (reply other : List ℕ) → length reply ≡ length other
    → Records.delivered (Records.record_part rows w r at reply) ≡ Records.delivered (Records.record_part rows w r at other)
