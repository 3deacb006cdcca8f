-- `compare::strip_differs` meets its contract: the loop's invariant is `Seen`. Assumes nothing.
use Prim.Native.Nat.{◌+◌}
use lib.ListN.{get_or}
use Rattle.fields.specs.Fields.{stripped}
use Rattle.compare.proofs.Patches.{Seen}
use Rattle.compare.proofs.strip_differs.Given as goal

abbrev pub invariant-loop-a : goal.invariant-loop-a
invariant-loop-a l = Seen l.s l.from (l.from + l.a-index) (λ k. stripped (get_or l.s k 0)) l.seen
