-- `looks::turn_differs` meets its contract, by the mark that is there. Assumes nothing.
use mathlib.Core.Path.{sym}
use Rattle.changes.proofs.Differing.{differs-same}
use Rattle.screen.specs.Edits.{mark_turned}
use Rattle.looks.proofs.turn_differs.Goals as goal

pub returns-then-has_mark : goal.returns-then-has_mark
unfolding mark_turned
returns-then-has_mark c = rw (← c.has_mark.ensures, c.if-has_mark.true) c.mark_differs.ensures

pub returns : goal.returns
unfolding mark_turned
returns c = rw (← c.has_mark.ensures, c.if-has_mark.false) (sym (differs-same c.args.attrs.now))
