-- `fields::field_end` meets its contract: up to the cell at hand none is marked. Assumes nothing.
use Prim.Native.Nat.{ℕ}
use mathlib.Core.Path.{refl, ap, ◌∙◌}
use native.Mathlib.Omega.{arith}
use Rattle.std.specs.Prelude.{Option, unwrap_or}
use Rattle.cells.proofs.Search.{upto_next, upto-hit, upto-end}
use Rattle.fields.specs.Fields.{field_end, end_of_row}
use Rattle.fields.proofs.Scans.{first_marks}
use Rattle.fields.proofs.field_end.Goals as goal

pub returns-then-has_mark : goal.returns-then-has_mark
unfolding field_end
returns-then-has_mark c = ap (λ (f : Option ℕ). unwrap_or f (end_of_row c.args.cell)) (upto-hit c.loop-i.invariant (omega arith) (cc) ∙ first_marks _ _ _ _)

pub loop-i-preserved : goal.loop-i-preserved
loop-i-preserved c = upto_next c.loop-i.invariant (omega arith) (cc) refl

pub returns : goal.returns
unfolding field_end
returns c = ap (λ (f : Option ℕ). unwrap_or f (end_of_row c.args.cell)) (upto-end c.loop-i.invariant (omega arith) ∙ first_marks _ _ _ _)
