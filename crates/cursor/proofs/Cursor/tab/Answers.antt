-- `Cursor::tab` meets its contract, by the stop that it finds and by what its calls give. Assumes nothing.
use Rattle.cursor.specs.Stops.{tabbed}
use Rattle.cursor.proofs.Cursor.tab.Goals as goal

pub returns-in-Some : goal.returns-in-Some
unfolding tabbed
returns-in-Some c = rw (← c.next_stop-found.ensures, c.in-Some.is) c.go_in.ensures

pub returns-in-None : goal.returns-in-None
unfolding tabbed
returns-in-None c = rw (← c.next_stop-found.ensures, c.in-None.is) c.next_row.ensures
