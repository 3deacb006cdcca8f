-- `screen::type_char` meets its contract, by cases on format mode. Assumes nothing.
use Rattle.screen.specs.Edits.{typed}
use Rattle.screen.proofs.type_char.Goals as goal

pub returns-then-format : goal.returns-then-format
unfolding typed
returns-then-format c = rw c.if-format.true c.type_in.ensures

pub returns : goal.returns
unfolding typed
returns c = rw c.if-format.false c.type_free.ensures
