-- `replies::send_fields` meets its contract: the loop's invariant is `Sending`. Assumes nothing.
use Prim.Native.Nat.{◌-◌, ◌≤◌}
use lib.Dec.{ltb}
use lib.ListN.{length}
use Rattle.replies.proofs.Blocks.{Sending}
use Rattle.replies.proofs.send_fields.Given as goal

abbrev pub invariant-loop-i : goal.invariant-loop-i
invariant-loop-i l = (l.at ≤ l.n) × Sending l.chars l.attrs l.initial.reply l.at l.reply l.n l.i (ltb l.at l.n)

abbrev pub decreases-loop-i : goal.decreases-loop-i
decreases-loop-i l = length l.attrs - l.i
