-- `host::action_for` meets its contract: the table's action, settled. Assumes nothing.
use Rattle.streams.specs.Streams.{action_for}
use Rattle.host.proofs.action_for.Goals as goal

pub returns : goal.returns
unfolding action_for
returns c = cc
