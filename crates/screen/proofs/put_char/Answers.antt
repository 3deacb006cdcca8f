-- `screen::put_char` meets its contract, by cases on insert mode. Assumes nothing.
use Rattle.screen.specs.Edits.{put}
use Rattle.screen.proofs.put_char.Goals as goal

pub returns-then-insert : goal.returns-then-insert
unfolding put
returns-then-insert c = rw c.if-insert.true c.shift_right.ensures

pub returns-else-insert : goal.returns-else-insert
unfolding put
returns-else-insert c = rw c.if-insert.false
