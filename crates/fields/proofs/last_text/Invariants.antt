-- `fields::last_text` meets its contract: from the cell at hand on all is blank. Assumes nothing.
use Rattle.cells.proofs.Search.{Downto}
use Rattle.fields.specs.Fields.{non_blank}
use Rattle.fields.proofs.last_text.Given as goal

abbrev pub invariant-loop-i : goal.invariant-loop-i
invariant-loop-i l = Downto non_blank 0 l.chars l.from l.to l.i
