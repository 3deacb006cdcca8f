-- `key::key_on` meets its contract: what is admitted finds a sound world and room, and what is not leaves all. Assumes nothing.
use Rattle.terminal.specs.State.{world}
use Rattle.key.proofs.Admitted.{admitted-sound, admitted-room, admitted-left}
use Rattle.key.proofs.key_on.Goals as goal

pub press-next-requires : goal.press-next-requires
press-next-requires c = let a = c.args in admitted-sound a.rows (world a.t a.chars.now a.attrs.now) _ _ c.requires.1 c.refuse-n.ensures c.admit-done.ensures

pub send-requires : goal.send-requires
send-requires c = let a = c.args in admitted-room a.rows (world a.t a.chars.now a.attrs.now) _ _ c.requires.1 c.refuse-n.ensures c.admit-done.ensures

pub returns : goal.returns
returns c =
    let a = c.args in
    let e = admitted-left a.rows (world a.t a.chars.now a.attrs.now) a.reply.now a.code c.requires.1 c.refuse-n.ensures c.admit-done.ensures in
    rw (c.measure.ensures, c.send.ensures, c.press-next.ensures) e
