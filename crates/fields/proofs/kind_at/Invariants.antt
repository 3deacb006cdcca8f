-- `fields::kind_at` meets its contract: from the cell at hand up to the cell none is marked. Assumes nothing.
use Prim.Native.Nat.{◌+◌}
use Rattle.cells.proofs.Search.{Downto}
use Rattle.fields.specs.Fields.{start_of_row}
use Rattle.fields.proofs.Scans.{has_mark}
use Rattle.fields.proofs.kind_at.Given as goal

abbrev pub invariant-loop-i : goal.invariant-loop-i
invariant-loop-i l = Downto (has_mark 5) 0 l.attrs (start_of_row l.cell) (l.cell + 1) l.i
