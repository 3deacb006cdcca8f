-- `replies::report_cursor` meets its contract: each digit is the one that its call gives. Assumes nothing.
use Rattle.replies.specs.Replies.{cursor_reply, digits}
use Rattle.replies.proofs.report_cursor.Goals as goal

pub returns : goal.returns
unfolding cursor_reply digits
returns c = cc
