-- `screen::set_mark` meets its contract: by the format; an attribute is a byte. Assumes nothing.
use Rattle.screen.specs.Edits.{mark_set}
use Rattle.screen.proofs.set_mark.Goals as goal

pub returns-then-format : goal.returns-then-format
unfolding mark_set
returns-then-format c = rw c.if-format.true

pub returns : goal.returns
unfolding mark_set
returns c = rw c.if-format.false
