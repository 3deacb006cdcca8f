-- `fields::allows` meets its contract, kind by kind. Assumes nothing.
use Rattle.fields.specs.Fields.{letters_take, digits_take, allowed}
use mathlib.Core.Path.{refl}
use borrow.Author.Tests.{eq-eqb, ne_eqb}
use Rattle.fields.proofs.allows.Goals as goal

pub returns-then-kind-eq2 : goal.returns-then-kind-eq2
unfolding letters_take digits_take allowed
returns-then-kind-eq2 c = rw (eq-eqb _ 2 c.if-kind-eq2.true, c.is_within.ensures, c.is_within-then-kind-eq2.ensures) refl

pub returns-then-kind-eq3 : goal.returns-then-kind-eq3
unfolding letters_take digits_take allowed
returns-then-kind-eq3 c = rw (ne_eqb _ 2 c.if-kind-eq2.false, eq-eqb _ 3 c.if-kind-eq3.true, c.is_within-then-kind-eq3.ensures, c.is_within-then-kind-eq3-2.ensures) refl

pub returns : goal.returns
unfolding letters_take digits_take allowed
returns c = rw (ne_eqb _ 2 c.if-kind-eq2.false, ne_eqb _ 3 c.if-kind-eq3.false) refl
