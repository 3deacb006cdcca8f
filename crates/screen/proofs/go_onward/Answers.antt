-- `screen::go_onward` meets its contract, by the test for the last cell and by what its calls give. Assumes nothing.
use Rattle.screen.specs.Edits.{onward}
use borrow.Author.Tests.{lt-ltb, le-ltb}
use Rattle.screen.proofs.go_onward.Goals as goal

pub returns-then-next-rows : goal.returns-then-next-rows
unfolding onward
returns-then-next-rows c = rw (← c.cell-next.ensures, lt-ltb _ _ c.if-next-rows.true) (cc)

pub returns : goal.returns
unfolding onward
returns c = rw (← c.cell-next.ensures, le-ltb _ _ c.if-next-rows.false, ← c.feed_line.ensures) (cc)
