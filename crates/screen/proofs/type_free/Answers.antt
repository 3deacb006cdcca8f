-- `screen::type_free` meets its contract, by what its calls give. Assumes nothing.
use Rattle.screen.specs.Edits.{typed_free}
use Rattle.screen.proofs.type_free.Goals as goal

pub returns : goal.returns
unfolding typed_free
returns c = cc
