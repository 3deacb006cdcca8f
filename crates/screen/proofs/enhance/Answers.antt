-- `screen::enhance` meets its contract: by the format. Assumes nothing.
use Rattle.screen.specs.Edits.{enhanced}
use Rattle.screen.proofs.enhance.Goals as goal

pub returns-then-format : goal.returns-then-format
unfolding enhanced
returns-then-format c = rw c.if-format.true

pub returns : goal.returns
unfolding enhanced
returns c = rw c.if-format.false
