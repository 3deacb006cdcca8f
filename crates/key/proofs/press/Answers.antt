-- `key::press` meets its contract: the state is that of the definition, part by part, with the key's rows joined to its own. Assumes nothing.
use Rattle.terminal.specs.State.{world}
use Rattle.key.specs.Pressed.{pressed}
use Rattle.key.proofs.Pressed.{pressed-left}
use Rattle.key.proofs.press.Goals as goal

pub returns : goal.returns
unfolding pressed
returns c =
    rw (c.switch_insert.ensures, c.ask.ensures)
    (pressed-left c.args.rows c.args.code (world c.args.t c.args.chars.now c.args.attrs.now) c.requires c.strike-moved.ensures c.look.ensures
    c.join-joined.ensures.0 c.join-joined.ensures.1)
