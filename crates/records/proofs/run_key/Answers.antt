-- `records::run_key` meets its contract: what the call of `key` leaves. Assumes nothing.
use mathlib.Core.Path.{ap}
use Rattle.key.specs.Keys.{Keyed}
use Rattle.records.specs.Records.{part, key_part}
use Rattle.records.proofs.run_key.Goals as goal

pub returns : goal.returns
unfolding key_part
returns c = ap (λ (h : Keyed). part h.number c.args.at h.written h.world h.reply) c.key_on-a.ensures
