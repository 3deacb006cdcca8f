-- `fields::count_starts` meets its contract: the count at hand is that of the cells passed. Assumes nothing.
use Prim.Native.Nat.{◌+◌, ◌≤◌}
use Rattle.cells.proofs.Search.{Counted}
use Rattle.fields.proofs.Scans.{has_mark}
use Rattle.fields.proofs.count_starts.Given as goal

abbrev pub invariant-loop-k : goal.invariant-loop-k
invariant-loop-k l = (l.count ≤ l.k) × Counted (has_mark 3) 0 l.attrs l.from (l.from + l.k) l.count
