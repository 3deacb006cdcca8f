-- `screen::clear_line` meets its contract: by the format, by whether the cursor is in a field, and by what the callees leave. Assumes nothing.
use Rattle.screen.specs.Edits.{cleared, line_cleared}
use Rattle.screen.proofs.clear_line.Goals as goal

pub returns-then-is_unprotected : goal.returns-then-is_unprotected
unfolding line_cleared cleared
returns-then-is_unprotected c = rw (c.if-format.true, ← c.cell-k.ensures, ← c.is_unprotected.ensures, c.if-is_unprotected.true) (cc)

pub returns-else-is_unprotected : goal.returns-else-is_unprotected
unfolding line_cleared cleared
returns-else-is_unprotected c = rw (c.if-format.true, ← c.cell-k.ensures, ← c.is_unprotected.ensures, c.if-is_unprotected.false)

pub returns : goal.returns
unfolding line_cleared cleared
returns c = rw c.if-format.false (cc)
