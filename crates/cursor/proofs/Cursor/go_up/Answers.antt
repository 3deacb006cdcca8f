-- `Cursor::go_up` meets its contract, by what its calls give. Assumes nothing.
use Rattle.cursor.specs.Cursor.{gone_up}
use Rattle.cursor.proofs.Cursor.go_up.Goals as goal

pub returns : goal.returns
unfolding gone_up
returns c = cc
