-- `replies::report_status` meets its contract: a flag is 0 or 1, so the sum fits a byte. Assumes nothing.
use mathlib.Core.Path.{◌≡◌, refl}
use mathlib.Core.Bool.{Bool, true, false}
use mir.Val.{bool_byte}
use Rattle.replies.specs.Replies.{bit, status_reply}
use Rattle.replies.proofs.report_status.Goals as goal

as_bit : (b : Bool) → bool_byte b ≡ bit b
as_bit true = refl
as_bit false = refl

pub returns : goal.returns
unfolding status_reply
returns c = let a = c.args in rw (as_bit a.format, as_bit a.insert, as_bit a.lock) refl
