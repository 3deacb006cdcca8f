-- `streams::measure_pending` meets its contract: the length of each pending transfer's reply. Assumes nothing.
use Rattle.std.proofs.Common.{arith}
use Rattle.terminal.specs.State.{world}
use Rattle.streams.proofs.Answers.{pending-place, pending-status, pending-block, pending-none}
use Rattle.replies.proofs.Longest.{status-length}
use lib.ListN.{length}
use mathlib.Core.Path.{sym, ap, ◌∙◌}
use Rattle.streams.proofs.measure_pending.Goals as goal

pub returns-in-1 : goal.returns-in-1
returns-in-1 c = sym (pending-place (world c.args.t c.args.chars.now c.args.attrs.now) (omega arith) (omega arith))

pub returns-in-3 : goal.returns-in-3
returns-in-3 c = sym (ap length (pending-status _ c.in-3.is) ∙ status-length _ _ _)

pub returns-in-4 : goal.returns-in-4
returns-in-4 c = c.measure_block.ensures ∙ sym (ap length (pending-block _ c.in-4.is))

pub returns-in_default : goal.returns-in_default
returns-in_default c = sym (ap length (pending-none (world c.args.t c.args.chars.now c.args.attrs.now) (omega arith) (omega arith) (omega arith) (omega arith)))
