-- `changes::Changes::is_good` meets its contract, by the number of rows and the second word. Assumes nothing.
use Prim.Native.Nat.{◌-◌}
use mathlib.Core.Path.{ap, ◌∙◌}
use native.Mathlib.Omega.{arith}
use lib.Dec.{ltb}
use borrow.Author.Tests.{ne_eqb}
use Rattle.changes.proofs.Words.{spare_low, spare-high, spare-none, shifted}
use Rattle.changes.proofs.Changes.is_good.Goals as goal

pub returns-then-self-eq0 : goal.returns-then-self-eq0
returns-then-self-eq0 c = let a = c.args in ap (ltb a.self.low) (shifted a.rows c.if-rows-lt64.true) ∙ spare_low a.rows a.self c.if-self-eq0.true (omega arith)

pub returns-else-self-eq0 : goal.returns-else-self-eq0
returns-else-self-eq0 c = let a = c.args in ne_eqb a.self.high 0 c.if-self-eq0.false ∙ spare-none a.rows a.self c.if-rows-lt64.true c.if-self-eq0.false (omega arith)

pub returns : goal.returns
returns c = let a = c.args in ap (ltb a.self.high) (shifted (a.rows - 64) (omega arith)) ∙ spare-high a.rows a.self (omega arith) (omega arith)
