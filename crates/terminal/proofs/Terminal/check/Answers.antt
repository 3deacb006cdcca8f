-- `check` meets its contract: each number by the tests before it. Assumes nothing.
use mathlib.Core.Path.{sym, ◌∙◌}
use Rattle.terminal.specs.Refusals.{first_refusal}
use Rattle.terminal.proofs.Terminal.check.Goals as goal

pub returns-then-not-is_sized : goal.returns-then-not-is_sized
unfolding first_refusal
returns-then-not-is_sized c = rw (sym c.is_sized.ensures ∙ c.if-not-is_sized.true)

pub returns-then-not-is_good : goal.returns-then-not-is_good
unfolding first_refusal
returns-then-not-is_good c = rw (sym c.is_sized.ensures ∙ c.if-not-is_sized.false, sym c.is_good.ensures ∙ c.if-not-is_good.true)

pub returns : goal.returns
unfolding first_refusal
returns c = rw (sym c.is_sized.ensures ∙ c.if-not-is_sized.false, sym c.is_good.ensures ∙ c.if-not-is_good.false)
