-- What a part of a record answers, leaves and sends turns on the room of its reply buffer alone, not on what the buffer held. Assumes nothing.
use Prim.Native.Nat.{ℕ, ◌+◌}
use mathlib.Core.Path.{◌≡◌, refl, ap}
use mathlib.Core.List.{List}
use lib.ListN.{length, drop}
use lib.Dec.{eqb}
use Rattle.cells.proofs.Choices.{choose-both}
use Rattle.terminal.specs.State.{World}
use Rattle.key.specs.Keys.{Keyed}
use Rattle.key.proofs.Rooms.{keyed-room}
use Rattle.streams.specs.Streams.{Hosted}
use Rattle.streams.proofs.Rooms.{fed-room}
use Rattle.records.specs.Records.{kind_of, number_of, data_of, form_refusal, Part, part, delivered, host_part, key_part, post_part, record_part}

-- the two calls answer, leave and send the same
abbrev Alike : Part → Part → Type 0
Alike p q = delivered p ≡ delivered q

pub part_room : (rows : ℕ) (w : World) (r : List ℕ) (at : ℕ) (reply other : List ℕ) → length reply ≡ length other → delivered (record_part rows w r at reply) ≡ delivered (record_part rows w r at other)
unfolding record_part host_part key_part post_part
part_room rows w r at reply other e =
    choose-both Alike (eqb (form_refusal r) 0)
    (λ _. choose-both Alike (eqb (kind_of r) 72)
    (λ _. ap (λ (h : Hosted). part h.number (at + h.taken) h.written h.world h.reply) (fed-room rows w (drop at (data_of r)) reply other e))
    (λ _. choose-both Alike (eqb (kind_of r) 75) (λ _. ap (λ (k : Keyed). part k.number at k.written k.world k.reply) (keyed-room rows w reply other (number_of r) e)) (λ _. refl)))
    (λ _. refl)
