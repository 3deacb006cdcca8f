-- `fields::find_target` meets its contract, test by test. Assumes nothing.
use mathlib.Core.Path.{refl, sym, ◌∙◌}
use Rattle.fields.specs.Fields.{target}
use Rattle.fields.proofs.find_target.Goals as goal

pub returns-then-is_unprotected : goal.returns-then-is_unprotected
unfolding target
returns-then-is_unprotected c = rw (sym c.is_unprotected.ensures ∙ c.if-is_unprotected.true) refl

pub returns : goal.returns
unfolding target
returns c = rw (sym c.is_unprotected.ensures ∙ c.if-is_unprotected.false) c.next_start.ensures
