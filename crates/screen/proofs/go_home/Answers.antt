-- `screen::go_home` meets its contract: by the format and by what `first_start` finds. Assumes nothing.
use Rattle.screen.specs.Edits.{homed}
use Rattle.screen.proofs.go_home.Goals as goal

pub returns-in-Some : goal.returns-in-Some
unfolding homed
returns-in-Some c = rw (c.if-format.true, ← c.first_start-first.ensures, c.in-Some.is) c.home_to.ensures

pub returns-in-None : goal.returns-in-None
unfolding homed
returns-in-None c = rw (c.if-format.true, ← c.first_start-first.ensures, c.in-None.is) c.home_to-in-None.ensures

pub returns : goal.returns
unfolding homed
returns c = rw c.if-format.false c.home_to-2.ensures
