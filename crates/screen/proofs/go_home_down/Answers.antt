-- `screen::go_home_down` meets its contract, by what its calls give. Assumes nothing.
use Rattle.screen.specs.Edits.{homed_down}
use Rattle.screen.proofs.go_home_down.Goals as goal

pub returns : goal.returns
unfolding homed_down
returns c = rw (← c.row_under_text.ensures) c.go.ensures
