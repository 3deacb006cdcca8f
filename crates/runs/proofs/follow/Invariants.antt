-- `runs::follow` meets its contract. The loop's invariant: the bytes left, followed from here, leave what all leave from the start. The measure is what is left of the bytes. Assumes nothing.
use Prim.Native.Nat.{◌-◌, ◌≤◌}
use mathlib.Core.Path.{◌≡◌}
use lib.ListN.{length, drop}
use Rattle.runs.specs.Sequences.{followed}
use Rattle.runs.proofs.Sequences.{Reads}
use Rattle.runs.proofs.follow.Given as goal

abbrev pub invariant-loop-r : goal.invariant-loop-r
invariant-loop-r l = (l.r.at ≤ length l.bytes) × Reads l.rows l.r × (followed l.rows (drop l.r.at l.bytes) l.r ≡ followed l.rows (drop l.initial.r.at l.bytes) l.initial.r)

abbrev pub decreases-loop-r : goal.decreases-loop-r
decreases-loop-r l = length l.bytes - l.r.at
