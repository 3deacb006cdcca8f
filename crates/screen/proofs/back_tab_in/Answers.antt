-- `screen::back_tab_in` meets its contract: by what `prev_start` finds. Assumes nothing.
use Rattle.screen.specs.Edits.{gone_found, back_tabbed_in}
use Rattle.screen.proofs.back_tab_in.Goals as goal

pub returns-in-Some : goal.returns-in-Some
unfolding back_tabbed_in gone_found
returns-in-Some c = rw (← c.cell.ensures, ← c.prev_start-before.ensures, c.in-Some.is) c.go_to.ensures

pub returns-in-None : goal.returns-in-None
unfolding back_tabbed_in gone_found
returns-in-None c = rw (← c.cell.ensures, ← c.prev_start-before.ensures, c.in-None.is)
