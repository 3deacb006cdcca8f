-- `Cursor::go_right` meets its contract, by what its calls give. Assumes nothing.
use Rattle.cursor.specs.Cursor.{gone_right}
use Rattle.cursor.proofs.Cursor.go_right.Goals as goal

pub returns : goal.returns
unfolding gone_right
returns c = cc
