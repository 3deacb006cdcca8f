-- `Cursor::go_down` meets its contract, by what its calls give. Assumes nothing.
use Rattle.cursor.specs.Cursor.{gone_down}
use Rattle.cursor.proofs.Cursor.go_down.Goals as goal

pub returns : goal.returns
unfolding gone_down
returns c = cc
