-- `clearing::clear_unprotected` meets its contract: the cells up to `i` are cleared where unprotected, and `kind` with cell `i`'s mark gives its kind.
-- Assumes nothing.
use mathlib.Core.Bool.{cond}
use lib.ListN.{get_or}
use Rattle.cells.proofs.Patch.{Cells}
use Rattle.fields.specs.Fields.{marks, stripped, unprotected}
use Rattle.fields.proofs.Scans.{Onward}
use Rattle.clearing.proofs.clear_unprotected.Given as goal

abbrev pub invariant-loop-i : goal.invariant-loop-i
invariant-loop-i l =
    Onward l.initial.attrs l.i l.kind
    × Cells l.initial.chars l.chars l.from l.i (λ k. cond (unprotected (marks l.initial.attrs) k) 32 (get_or l.initial.chars k 0))
    × Cells l.initial.attrs l.attrs l.from l.i (λ k. cond (unprotected (marks l.initial.attrs) k) (stripped (get_or l.initial.attrs k 0)) (get_or l.initial.attrs k 0))
