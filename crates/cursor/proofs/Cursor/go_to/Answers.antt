-- `Cursor::go_to` meets its contract, by what `go` gives. Assumes nothing.
use Rattle.cursor.specs.Cursor.{at_cell}
use Rattle.cursor.proofs.Cursor.go_to.Goals as goal

pub returns : goal.returns
unfolding at_cell
returns c = cc
