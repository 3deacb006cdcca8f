-- `fields::first_mark` meets its contract: up to the cell at hand none is marked. Assumes nothing.
use Prim.Native.Nat.{◌-◌, ◌≤◌}
use Rattle.cells.proofs.Search.{Upto}
use Rattle.fields.proofs.Scans.{has_mark}
use Rattle.fields.proofs.first_mark.Given as goal

abbrev pub invariant-loop-cell : goal.invariant-loop-cell
invariant-loop-cell l = Upto (has_mark l.highest) 0 l.attrs l.from l.to l.cell

abbrev pub invariant-rows : goal.invariant-rows
invariant-rows l = (l.start ≤ l.to) × Upto (has_mark l.highest) 0 l.attrs l.from l.to l.start

abbrev pub decreases-rows : goal.decreases-rows
decreases-rows l = l.to - l.start
