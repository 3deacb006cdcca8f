-- `screen::clear_display` meets its contract: by the format, and by what the callees leave. Assumes nothing.
use Rattle.screen.specs.Edits.{cleared, display_cleared}
use Rattle.screen.proofs.clear_display.Goals as goal

pub returns-then-format : goal.returns-then-format
unfolding display_cleared cleared
returns-then-format c = rw c.if-format.true (cc)

pub returns : goal.returns
unfolding display_cleared cleared
returns c = rw c.if-format.false (cc)
