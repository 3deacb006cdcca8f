-- `post_on` meets its contract: a post that names no reader may write every field. Assumes nothing.
use Rattle.terminal.specs.Refusals.{first_refusal}
use Rattle.post.specs.Posts.{post_refusal, posted_to}
use Rattle.post.specs.Field.{refusal_if, posted_if}
use Rattle.post.proofs.post_on.Goals as goal

pub returns : goal.returns
unfolding post_refusal posted_to refusal_if posted_if first_refusal
returns c = c.post_if.ensures
