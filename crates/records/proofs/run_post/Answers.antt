-- `records::run_post` meets its contract: what the call of `post` leaves. Assumes nothing.
use mathlib.Core.Path.{ap}
use Rattle.post.specs.Posts.{Posted}
use Rattle.records.specs.Records.{part, post_part}
use Rattle.records.proofs.run_post.Goals as goal

pub returns : goal.returns
unfolding post_part
returns c = let a = c.args in ap (λ (p : Posted). part p.number a.at 0 p.world a.reply.now) c.post_on-a.ensures
