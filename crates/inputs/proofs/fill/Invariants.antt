-- `inputs::fill`: what was read stands inside the array and is what the file lost, and each turn reads at least a byte.
use Rattle.std.proofs.Common.{length, ◌-◌, ◌≤◌, take}
use Rattle.std.specs.Io.KnownBytes.{Consumes}
use Rattle.inputs.proofs.fill.Given as goal

abbrev pub invariant-loop-size : goal.invariant-loop-size
invariant-loop-size g l = (l.size ≤ length l.bytes) × Consumes (g.R.Read.remaining l.initial.file) (g.R.Read.remaining l.file) (take l.size l.bytes)

abbrev pub decreases-loop-size : goal.decreases-loop-size
decreases-loop-size g l = length l.initial.bytes - l.size
