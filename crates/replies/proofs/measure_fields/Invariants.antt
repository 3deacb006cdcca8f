-- `replies::measure_fields` meets its contract: the bytes counted and those left from cell `i` on are together all of them. Assumes nothing.
use Prim.Native.Nat.{◌+◌, ◌-◌, ◌*◌, ◌≤◌}
use mathlib.Core.Path.{◌≡◌}
use lib.Dec.{ltb}
use lib.ListN.{length}
use Rattle.replies.specs.Replies.{fields_reply}
use Rattle.replies.proofs.Blocks.{fields_left}
use Rattle.replies.proofs.measure_fields.Given as goal

abbrev pub invariant-loop-i : goal.invariant-loop-i
invariant-loop-i l = (1 ≤ l.n) × (l.n ≤ 2 * l.i + 1) × (l.n + length (fields_left l.chars l.attrs l.i (ltb 1 l.n)) ≡ 1 + length (fields_reply l.chars l.attrs))

abbrev pub decreases-loop-i : goal.decreases-loop-i
decreases-loop-i l = length l.attrs - l.i
