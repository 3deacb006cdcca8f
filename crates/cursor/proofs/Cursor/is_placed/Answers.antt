-- `Cursor::is_placed` meets its contract: each test that fails refutes `InPlace`, and all that pass make it. Assumes nothing.
use mathlib.Core.Path.{sym}
use native.Mathlib.Omega.{arith}
use Rattle.cursor.proofs.Place.{in_place, out-of-place}
use Rattle.cursor.proofs.Cursor.is_placed.Goals as goal

pub returns-then-self-gt79 : goal.returns-then-self-gt79
returns-then-self-gt79 c = sym (out-of-place _ _ (λ h. omega arith))

pub returns-then-rows-self : goal.returns-then-rows-self
returns-then-rows-self c = sym (out-of-place _ _ (λ h. omega arith))

pub returns-then-self : goal.returns-then-self
returns-then-self c = sym (out-of-place _ _ (λ h. omega arith))

pub returns-then-self-2 : goal.returns-then-self-2
returns-then-self-2 c = sym (out-of-place _ _ (λ h. omega arith))

pub returns : goal.returns
returns c = sym (in_place (omega arith))
