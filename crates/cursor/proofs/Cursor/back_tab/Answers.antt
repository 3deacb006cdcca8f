-- `Cursor::back_tab` meets its contract, by the stop that it finds and by what its calls give. Assumes nothing.
use Rattle.cursor.specs.Stops.{back_tabbed}
use Rattle.cursor.proofs.Cursor.back_tab.Goals as goal

pub returns : goal.returns
unfolding back_tabbed
returns c = rw (← c.last_stop.ensures, ← c.unwrap_or.ensures) c.go_in.ensures
