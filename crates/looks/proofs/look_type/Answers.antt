-- `looks::look_type` meets its contract, by the format. Assumes nothing.
use Rattle.screen.specs.Edits.{typed}
use Rattle.looks.proofs.look_type.Goals as goal

pub returns-then-format : goal.returns-then-format
unfolding typed
returns-then-format c = rw c.if-format.true c.look_in.ensures

pub returns : goal.returns
unfolding typed
returns c = rw c.if-format.false c.look_free.ensures
