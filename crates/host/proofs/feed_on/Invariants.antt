-- `host::feed_on` meets its contract. The loop's invariant: the world is sound, the bytes sent fit, and the bytes left, run from here, leave what all bytes leave from the start.
-- A run of text, the bytes of sequences, and any other byte each keep it. The measure is what is left of the bytes. Assumes nothing.
use lib.ListN.{length, drop}
use mathlib.Core.Path.{◌≡◌}
use Prim.Native.Nat.{◌-◌, ◌≤◌}
use Rattle.terminal.specs.State.{world, Sound}
use Rattle.streams.specs.Streams.{fed_on}
use Rattle.host.proofs.feed_on.Given as goal

abbrev pub invariant-loop-i : goal.invariant-loop-i
invariant-loop-i l =
    (l.i ≤ length l.bytes) × (l.at ≤ length l.reply) × (length l.reply ≡ length l.initial.reply) × Sound l.rows (world l.u l.chars l.attrs)
    × (fed_on l.rows (drop l.i l.bytes) l.i l.at (world l.u l.chars l.attrs) l.reply ≡ fed_on l.rows l.bytes 0 0 (world l.initial.u l.initial.chars l.initial.attrs) l.initial.reply)

abbrev pub decreases-loop-i : goal.decreases-loop-i
decreases-loop-i l = length l.bytes - l.i
