-- `screen::cell_after` meets its contract, by the field's end and by what the search for the next start finds. Assumes nothing.
use Rattle.screen.specs.Edits.{cell_after}
use borrow.Author.Tests.{lt-ltb, le-ltb}
use Rattle.screen.proofs.cell_after.Goals as goal

pub returns-then-k-end : goal.returns-then-k-end
unfolding cell_after
returns-then-k-end c = rw (← c.field_end-end.ensures, lt-ltb _ _ c.if-k-end.true)

pub returns-in-Some : goal.returns-in-Some
unfolding cell_after
returns-in-Some c = rw (← c.field_end-end.ensures, le-ltb _ _ c.if-k-end.false, ← c.next_start-next.ensures, c.in-Some.is)

pub returns-in-None : goal.returns-in-None
unfolding cell_after
returns-in-None c = rw (← c.field_end-end.ensures, le-ltb _ _ c.if-k-end.false, ← c.next_start-next.ensures, c.in-None.is)
