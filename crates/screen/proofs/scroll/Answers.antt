-- `screen::scroll` meets its contract, by what its calls leave in the two memories. Assumes nothing.
use Rattle.screen.specs.Edits.{scrolled}
use Rattle.screen.proofs.scroll.Goals as goal

pub returns : goal.returns
unfolding scrolled
returns c = cc
