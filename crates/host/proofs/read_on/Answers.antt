-- `host::read_on` meets its contract: the number counted, the reading state after it. Assumes nothing.
use Rattle.streams.specs.Streams.{read_on}
use Rattle.host.proofs.read_on.Goals as goal

pub returns : goal.returns
unfolding read_on
returns c = cc
