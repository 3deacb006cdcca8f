-- `Cursor::to_column` meets its contract, by what its calls give. Assumes nothing.
use Rattle.cursor.specs.Addressing.{to_column}
use Rattle.cursor.proofs.Cursor.to_column.Goals as goal

pub returns : goal.returns
unfolding to_column
returns c = cc
