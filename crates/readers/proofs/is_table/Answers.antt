-- `is_table` meets its contract: the length is 256. Assumes nothing.
use mathlib.Core.Path.{refl}
use Rattle.readers.specs.Owners.{is_table}
use Rattle.readers.proofs.is_table.Goals as goal

pub returns : goal.returns
unfolding is_table
returns c = refl
