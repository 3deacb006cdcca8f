-- `key::refuse_text` meets its contract: the target, where there is one, is a cell of the memory. Assumes nothing.
use mathlib.Core.Path.{sym, ◌∙◌}
use native.Mathlib.Omega.{arith}
use Rattle.screen.proofs.Target.{target-inside}
use Rattle.terminal.specs.Refusals.{first_refusal}
use Rattle.key.specs.Keys.{disallows}
use Rattle.key.specs.Aim.{aim_refusal}
use Rattle.key.proofs.refuse_text.Goals as goal

pub returns-in_default : goal.returns-in_default
unfolding aim_refusal first_refusal disallows
returns-in_default c = rw (← c.find_target.ensures, c.in_default.is) c.number.ensures

pub kind_at-kind-requires : goal.kind_at-kind-requires
kind_at-kind-requires c = target-inside _ _ _ (omega arith) (sym c.find_target.ensures ∙ c.in-Some.is)

pub returns-then-allows : goal.returns-then-allows
unfolding aim_refusal first_refusal disallows
returns-then-allows c = rw (← c.find_target.ensures, c.in-Some.is, ← c.kind_at-kind.ensures, ← c.allows.ensures, c.if-allows.true)

pub returns-else-allows : goal.returns-else-allows
unfolding aim_refusal first_refusal disallows
returns-else-allows c = rw (← c.find_target.ensures, c.in-Some.is, ← c.kind_at-kind.ensures, ← c.allows.ensures, c.if-allows.false) c.number-else-allows.ensures
