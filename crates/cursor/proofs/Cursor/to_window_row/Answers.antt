-- `Cursor::to_window_row` meets its contract, by the test that it makes and by what its calls give. Assumes nothing.
use borrow.Author.Tests.{eq-eqb, ne_eqb}
use Rattle.cursor.specs.Addressing.{to_window_row}
use Rattle.cursor.proofs.Cursor.to_window_row.Goals as goal

pub returns-then-sign-eq0 : goal.returns-then-sign-eq0
unfolding to_window_row
returns-then-sign-eq0 c = rw (eq-eqb _ 0 c.if-sign-eq0.true) (cc)

pub returns : goal.returns
unfolding to_window_row
returns c = rw (ne_eqb _ 0 c.if-sign-eq0.false) (cc)
