-- `fields::nth_field` meets its contract: the field sought from cell 0 on is the one with `left` before it from cell `i` on. Assumes nothing.
use Prim.Native.Nat.{◌-◌, ◌≤◌}
use lib.ListN.{length}
use Rattle.cells.proofs.Search.{Passed}
use Rattle.fields.proofs.Scans.{has_mark}
use Rattle.fields.proofs.nth_field.Given as goal

abbrev pub invariant-loop-i : goal.invariant-loop-i
invariant-loop-i l = (l.i ≤ length l.attrs) × Passed (has_mark 3) 0 l.attrs l.n l.i l.left

abbrev pub decreases-loop-i : goal.decreases-loop-i
decreases-loop-i l = length l.attrs - l.i

abbrev pub invariant-loop-i-2 : goal.invariant-loop-i-2
invariant-loop-i-2 l = (l.i ≤ l.end) × Passed (has_mark 3) 0 l.attrs l.n l.i l.left

abbrev pub decreases-loop-i-2 : goal.decreases-loop-i-2
decreases-loop-i-2 l = l.end - l.i

abbrev pub invariant-loop-i-3 : goal.invariant-loop-i-3
invariant-loop-i-3 l = (l.end ≤ l.i) × (l.i ≤ length l.attrs) × Passed (has_mark 3) 0 l.attrs l.n l.i l.left

abbrev pub decreases-loop-i-3 : goal.decreases-loop-i-3
decreases-loop-i-3 l = length l.attrs - l.i
