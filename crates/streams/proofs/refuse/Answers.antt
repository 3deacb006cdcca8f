-- `streams::refuse` meets its contract: the tests that calls begin with are a stream's. Assumes nothing.
use Rattle.streams.specs.Streams.{host_refusal}
use Rattle.streams.proofs.refuse.Goals as goal

pub returns : goal.returns
unfolding host_refusal
returns c = c.check.ensures
