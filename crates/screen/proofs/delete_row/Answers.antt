-- `screen::delete_row` meets its contract: by the format, and by what its calls give. Assumes nothing.
use Rattle.screen.specs.Edits.{row_deleted}
use Rattle.screen.proofs.delete_row.Goals as goal

pub returns-then-format : goal.returns-then-format
unfolding row_deleted
returns-then-format c = rw c.if-format.true

pub returns : goal.returns
unfolding row_deleted
returns c = rw c.if-format.false (cc)
