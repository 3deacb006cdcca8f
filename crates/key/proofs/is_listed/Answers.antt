-- `key::is_listed` meets its contract: a code is listed where it has a key. Assumes nothing.
use Rattle.key.proofs.Named.{listed-by}
use Rattle.key.proofs.is_listed.Goals as goal

pub returns : goal.returns
returns c = λ insert. rw c.is_ok.ensures.value (listed-by c.args.code c.try_from.result c.try_from.ensures insert)
