-- `screen::feed_line` meets its contract, test by test. Assumes nothing.
use Rattle.screen.specs.Edits.{line_fed}
use borrow.Author.Tests.{lt-ltb, le-ltb}
use Rattle.screen.proofs.feed_line.Goals as goal

pub returns-then-cursor-rows : goal.returns-then-cursor-rows
unfolding line_fed
returns-then-cursor-rows c = rw (lt-ltb _ _ c.if-cursor-rows.true) (cc)

pub returns-then-format : goal.returns-then-format
unfolding line_fed
returns-then-format c = rw (le-ltb _ _ c.if-cursor-rows.false, c.if-format.true)

pub returns : goal.returns
unfolding line_fed
returns c = rw (le-ltb _ _ c.if-cursor-rows.false, c.if-format.false) c.scroll.ensures
