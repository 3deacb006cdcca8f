-- `Cursor::go_in` meets its contract, as it stands. Assumes nothing.
use Rattle.cursor.specs.Cursor.{in_column}
use Rattle.cursor.proofs.Cursor.go_in.Goals as goal

pub returns : goal.returns
unfolding in_column
returns c = cc
