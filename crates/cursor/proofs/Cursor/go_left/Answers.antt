-- `Cursor::go_left` meets its contract, by what its calls give. Assumes nothing.
use Rattle.cursor.specs.Cursor.{gone_left}
use Rattle.cursor.proofs.Cursor.go_left.Goals as goal

pub returns : goal.returns
unfolding gone_left
returns c = cc
