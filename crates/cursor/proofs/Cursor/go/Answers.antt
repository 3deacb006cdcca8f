-- `Cursor::go` meets its contract, by what `top_for` gives. Assumes nothing.
use Rattle.cursor.specs.Cursor.{gone}
use Rattle.cursor.proofs.Cursor.go.Goals as goal

pub returns : goal.returns
unfolding gone
returns c = cc
