-- `fields::field_end` meets its contract: up to the cell at hand none is marked. Assumes nothing.
use Prim.Native.Nat.{◌+◌}
use Rattle.cells.proofs.Search.{Upto}
use Rattle.fields.proofs.Scans.{has_mark}
use Rattle.fields.proofs.field_end.Given as goal

abbrev pub invariant-loop-i : goal.invariant-loop-i
invariant-loop-i l = Upto (has_mark 5) 0 l.attrs (l.cell + 1) l.end l.i
