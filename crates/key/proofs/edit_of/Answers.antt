-- `key::edit_of` meets its contract: a text key by the test for it, an arm by its code. Assumes nothing.
use Rattle.std.proofs.Common.{rules, tests}
use mathlib.Core.Path.{refl, sym, ◌∙◌}
use native.Mathlib.Omega.{arith}
use borrow.Author.Rules.{rules}
use Rattle.key.specs.Pressed.{edits}
use Rattle.key.proofs.edit_of.Goals as goal

pub returns-then-is_text : goal.returns-then-is_text
unfolding edits
returns-then-is_text c = rw (sym c.is_text.ensures ∙ c.if-is_text.true) (refl, λ e. omega arith)

pub returns-in-264 : goal.returns-in-264
unfolding edits
returns-in-264 c = rw c.in-264.is (refl, λ e. omega arith)

pub returns-in-265 : goal.returns-in-265
unfolding edits
returns-in-265 c = rw c.in-265.is (refl, λ e. omega arith)

pub returns-in-267 : goal.returns-in-267
unfolding edits
returns-in-267 c = rw c.in-267.is (refl, λ e. omega arith)

pub returns-in_default : goal.returns-in_default
unfolding edits
returns-in_default c = search (tests, rules)
