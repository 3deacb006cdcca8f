-- `plain::feed_on` meets its contract. The loop's invariant: the bytes sent fit, the world is sound, and the bytes left, run from here, leave what all bytes leave from the start.
-- Assumes nothing.
use Prim.Native.Nat.{◌≤◌}
use mathlib.Core.Path.{◌≡◌}
use lib.ListN.{length, drop}
use Rattle.terminal.specs.State.{world, Sound}
use Rattle.streams.specs.Streams.{fed_on}
use Rattle.plain.proofs.feed_on.Given as goal

abbrev pub invariant-loop-i : goal.invariant-loop-i
invariant-loop-i l =
    (l.at ≤ length l.reply) × Sound l.rows (world l.u l.chars l.attrs)
    × (fed_on l.rows (drop l.i l.bytes) l.i l.at (world l.u l.chars l.attrs) l.reply ≡ fed_on l.rows l.bytes 0 0 (world l.initial.u l.initial.chars l.initial.attrs) l.initial.reply)
