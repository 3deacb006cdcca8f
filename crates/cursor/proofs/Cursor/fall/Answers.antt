-- `Cursor::fall` meets its contract, by what `min` gives. Assumes nothing.
use Rattle.cursor.specs.Cursor.{fallen}
use Rattle.cursor.proofs.Cursor.fall.Goals as goal

pub returns : goal.returns
unfolding fallen
returns c = cc
