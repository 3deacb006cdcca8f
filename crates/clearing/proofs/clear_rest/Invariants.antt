-- `clearing::clear_rest` meets its contract: the cells before `i` are cleared. Assumes nothing.
use lib.ListN.{get_or}
use Rattle.cells.proofs.Patch.{Cells}
use Rattle.fields.specs.Fields.{stripped}
use Rattle.clearing.proofs.clear_rest.Given as goal

abbrev pub invariant-loop-i : goal.invariant-loop-i
invariant-loop-i l = Cells l.initial.chars l.chars l.cell l.i (λ k. 32) × Cells l.initial.attrs l.attrs l.cell l.i (λ k. stripped (get_or l.initial.attrs k 0))
