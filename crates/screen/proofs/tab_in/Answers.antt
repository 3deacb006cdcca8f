-- `screen::tab_in` meets its contract: by what `next_start` finds. Assumes nothing.
use Rattle.screen.specs.Edits.{gone_found, tabbed_in}
use Rattle.screen.proofs.tab_in.Goals as goal

pub returns-in-Some : goal.returns-in-Some
unfolding tabbed_in gone_found
returns-in-Some c = rw (← c.cell.ensures, ← c.next_start-next.ensures, c.in-Some.is) c.go_to.ensures

pub returns-in-None : goal.returns-in-None
unfolding tabbed_in gone_found
returns-in-None c = rw (← c.cell.ensures, ← c.next_start-next.ensures, c.in-None.is)
