-- `fields::is_in` meets its contract. Assumes nothing.
use Rattle.std.proofs.Common.{rules}
use Rattle.fields.specs.Fields.{is_in}
use Rattle.fields.proofs.is_in.Goals as goal

pub returns : goal.returns
unfolding is_in
returns c = search rules
