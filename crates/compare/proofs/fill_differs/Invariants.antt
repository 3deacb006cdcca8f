-- `compare::fill_differs` meets its contract: the loop's invariant is `Seen`. Assumes nothing.
use Prim.Native.Nat.{◌+◌}
use Rattle.compare.proofs.Patches.{Seen}
use Rattle.compare.proofs.fill_differs.Given as goal

abbrev pub invariant-loop-b : goal.invariant-loop-b
invariant-loop-b l = Seen l.s l.from (l.from + l.b-index) (λ k. l.v) l.seen
