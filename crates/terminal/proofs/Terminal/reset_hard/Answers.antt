-- `Terminal::reset_hard` meets its contract: both memories are filled whole. Assumes nothing.
use Rattle.terminal.proofs.Blank.{reset-filled}
use Rattle.terminal.proofs.Terminal.reset_hard.Goals as goal

pub returns : goal.returns
returns c = reset-filled c.args.rows c.args.chars.now c.args.attrs.now c.requires.1 c.requires.2 c.fresh_state.ensures (c.fill.ensures.after (λ y e. e)) (c.fill-2.ensures.after (λ y e. e))
