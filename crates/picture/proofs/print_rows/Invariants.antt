-- `picture::print_rows`: at most the rows so far are left out.
use Rattle.std.proofs.Common.{◌≤◌, length}
use Rattle.picture.proofs.print_rows.Given as goal

abbrev pub invariant-loop-row : goal.invariant-loop-row
invariant-loop-row l = l.left_out ≤ length l.yielded
