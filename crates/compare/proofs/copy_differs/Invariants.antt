-- `compare::copy_differs` meets its contract: the loop's invariant is `Seen`. Assumes nothing.
use Prim.Native.Nat.{◌+◌, ◌-◌}
use lib.ListN.{get_or}
use Rattle.compare.proofs.Patches.{Seen}
use Rattle.compare.proofs.copy_differs.Given as goal

abbrev pub invariant-loop-i : goal.invariant-loop-i
invariant-loop-i l = Seen l.s l.a (l.a + l.i) (λ k. get_or l.s (l.b + (k - l.a)) 0) l.seen
