-- `screen::turn_mark` meets its contract: by the mark that is there, and by what `set_mark` gives. Assumes nothing.
use Rattle.screen.specs.Edits.{mark_turned}
use Rattle.screen.proofs.turn_mark.Goals as goal

pub returns-then-has_mark : goal.returns-then-has_mark
unfolding mark_turned
returns-then-has_mark c = rw (← c.has_mark.ensures, c.if-has_mark.true) (cc)

pub returns-else-has_mark : goal.returns-else-has_mark
unfolding mark_turned
returns-else-has_mark c = rw (← c.has_mark.ensures, c.if-has_mark.false)
