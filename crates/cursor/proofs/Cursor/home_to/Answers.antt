-- `Cursor::home_to` meets its contract, by what `go_to` gives. Assumes nothing.
use Rattle.cursor.specs.Cursor.{home_at}
use Rattle.cursor.proofs.Cursor.home_to.Goals as goal

pub returns : goal.returns
unfolding home_at
returns c = cc
