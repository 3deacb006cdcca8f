-- `replies::send_field` meets its contract: the loop's invariant is `Copying`. Assumes nothing.
use Prim.Native.Nat.{◌+◌, ◌-◌}
use Rattle.replies.proofs.Blocks.{Copying}
use Rattle.replies.proofs.send_field.Given as goal

abbrev pub invariant-loop-i : goal.invariant-loop-i
invariant-loop-i l = Copying l.chars l.attrs l.from l.initial.reply (l.at + 1) l.reply (l.at + (l.i - l.from)) l.i
