-- `screen::insert_row` meets its contract: by the format, and by what its calls give. Assumes nothing.
use Rattle.screen.specs.Edits.{row_inserted}
use Rattle.screen.proofs.insert_row.Goals as goal

pub returns-then-format : goal.returns-then-format
unfolding row_inserted
returns-then-format c = rw c.if-format.true

pub returns : goal.returns
unfolding row_inserted
returns c = rw c.if-format.false (cc)
