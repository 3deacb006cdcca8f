-- `Cursor::rise` meets its contract, by what `min` gives. Assumes nothing.
use Rattle.cursor.specs.Cursor.{risen}
use Rattle.cursor.proofs.Cursor.rise.Goals as goal

pub returns : goal.returns
unfolding risen
returns c = cc
