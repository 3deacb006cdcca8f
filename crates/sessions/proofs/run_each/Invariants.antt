-- `sessions::run_each` meets its contract. The loop's invariant: the records of the bytes left, run with the lines left, leave what all records leave. Assumes nothing.
use Prim.Native.Nat.{◌+◌, ◌≤◌}
use mathlib.Core.Path.{◌≡◌}
use lib.ListN.{length}
use Rattle.std.specs.Slice.Iter.{chunks_rest, chunks_size}
use Rattle.terminal.specs.State.{world}
use Rattle.sessions.specs.Session.{split}
use Rattle.sessions.specs.Parts.{batch_on, records_run}
use Rattle.sessions.proofs.run_each.Given as goal

abbrev pub invariant-loop-record : goal.invariant-loop-record
invariant-loop-record l =
    (goal.iterator-loop-record).can_next l.record-iterator × (goal.iterator-loop-record).is_finite l.record-iterator × (chunks_size l.record-iterator ≡ 84)
    × (l.taken + length (chunks_rest l.record-iterator) ≡ length l.bytes) × (l.to ≤ length l.lines) × (l.n ≤ 18446744073709551615)
    × (length l.chars ≡ length l.initial.chars) × (length l.attrs ≡ length l.initial.attrs) × (length l.lines ≡ length l.initial.lines) × (length l.reply ≡ length l.initial.reply)
    × (batch_on l.rows (split (chunks_rest l.record-iterator)) l.taken l.to l.n (world l.u l.chars l.attrs) l.lines ≡ records_run l.rows (world l.initial.u l.initial.chars l.initial.attrs) l.number l.bytes l.initial.lines)
