-- `screen::type_in` meets its contract, by what the search for the target finds and by the test of the character. Assumes nothing.
use mathlib.Core.Path.{sym, ◌∙◌}
use native.Mathlib.Omega.{arith}
use Rattle.screen.specs.Edits.{typed_in}
use Rattle.screen.proofs.Target.{target-inside}
use Rattle.screen.proofs.type_in.Goals as goal

pub kind_at-kind-requires : goal.kind_at-kind-requires
unfolding typed_in
kind_at-kind-requires c = target-inside c.args.attrs.now c.cell.result _ (omega arith) (sym c.find_target-to.ensures ∙ c.in-Some.is)

pub type_at-requires-clause-inside : goal.type_at-requires-clause-inside
unfolding typed_in
type_at-requires-clause-inside c = let w = c.requires in omega (arith, w.attrs_long, target-inside c.args.attrs.now c.cell.result _ (omega arith) (sym c.find_target-to.ensures ∙ c.in-Some.is))

pub returns-then-allows : goal.returns-then-allows
unfolding typed_in
returns-then-allows c = rw (← c.cell.ensures, ← c.find_target-to.ensures, c.in-Some.is, ← c.kind_at-kind.ensures, ← c.allows.ensures, c.if-allows.true) c.type_at.ensures

pub returns-else-allows : goal.returns-else-allows
unfolding typed_in
returns-else-allows c = rw (← c.cell.ensures, ← c.find_target-to.ensures, c.in-Some.is, ← c.kind_at-kind.ensures, ← c.allows.ensures, c.if-allows.false)

pub returns-in-None : goal.returns-in-None
unfolding typed_in
returns-in-None c = rw (← c.cell.ensures, ← c.find_target-to.ensures, c.in-None.is)
