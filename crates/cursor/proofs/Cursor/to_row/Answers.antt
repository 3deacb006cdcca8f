-- `Cursor::to_row` meets its contract, by what its calls give. Assumes nothing.
use Rattle.cursor.specs.Addressing.{to_row}
use Rattle.cursor.proofs.Cursor.to_row.Goals as goal

pub returns : goal.returns
unfolding to_row
returns c = cc
