-- The cell that takes text with format on is one of the memory's. Assumes nothing.
use Prim.Native.Nat.{ℕ, ◌<◌}
use mathlib.Core.Path.{◌≡◌}
use mathlib.Core.List.{List}
use native.Mathlib.Omega.{arith}
use lib.ListN.{length}
use Rattle.std.specs.Prelude.{Some}
use Rattle.fields.specs.Fields.{marks, target}
use Rattle.fields.proofs.Marks.{length-marks}
use Rattle.fields.proofs.Starts.{target-open}

pub target-inside : (attrs : List ℕ) (cell k : ℕ) → cell < length attrs → target (marks attrs) cell ≡ Some k → k < length attrs
target-inside attrs cell k h e = omega (arith, length-marks attrs, (target-open (marks attrs) cell k (omega (arith, length-marks attrs)) e).inside)
