-- `fresh_on` meets its contract: by the test for the two lengths. Assumes nothing.
use mathlib.Core.Path.{sym, ◌∙◌}
use Rattle.terminal.proofs.Good.{sized-in}
use Rattle.terminal.proofs.Blank.{freshened-done, freshened-not}
use Rattle.terminal.proofs.fresh_on.Goals as goal

pub reset_hard-requires : goal.reset_hard-requires
reset_hard-requires c = let n = sized-in c.args.rows c.args.chars.now c.args.attrs.now (sym c.is_sized.ensures ∙ c.if-is_sized.true) in (c.requires, n.0, n.1)

pub returns-then-is_sized : goal.returns-then-is_sized
returns-then-is_sized c = freshened-done c.args.rows c.args.chars.now c.args.attrs.now (sym c.is_sized.ensures ∙ c.if-is_sized.true) c.reset_hard.ensures

pub returns : goal.returns
returns c = rw (c.number.ensures, freshened-not c.args.rows c.args.chars.now c.args.attrs.now (sym c.is_sized.ensures ∙ c.if-is_sized.false) c.fresh_state.ensures)
