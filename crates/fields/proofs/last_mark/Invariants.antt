-- `fields::last_mark` meets its contract: from the cell at hand on none is marked. Assumes nothing.
use Prim.Native.Nat.{◌-◌, ◌≤◌}
use Rattle.cells.proofs.Search.{Downto}
use Rattle.fields.proofs.Scans.{has_mark}
use Rattle.fields.proofs.last_mark.Given as goal

abbrev pub invariant-loop-cell : goal.invariant-loop-cell
invariant-loop-cell l = (l.start ≤ l.cell) × Downto (has_mark l.highest) 0 l.attrs l.from l.to l.cell

abbrev pub invariant-rows : goal.invariant-rows
invariant-rows l = (l.end ≤ l.to) × (l.from ≤ l.end) × Downto (has_mark l.highest) 0 l.attrs l.from l.to l.end

abbrev pub decreases-rows : goal.decreases-rows
decreases-rows l = l.end - l.from
