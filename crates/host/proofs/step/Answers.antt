-- `host::step` meets its contract: the action, then the reading state and the number after it. Assumes nothing.
use Rattle.streams.specs.Streams.{read_on, stepped_by}
use Rattle.streams.proofs.Kept.{sound-by}
use Rattle.terminal.proofs.Kept.{acted-sound}
use Rattle.terminal.proofs.Noted.{noted-sound}
use Rattle.terminal.specs.declared.Terminal.{Terminal}
use Rattle.terminal.specs.State.{World, world, stated}
use Prim.Native.Nat.{◌%◌}
use mathlib.Core.Path.{ap, ◌∙◌}
use Rattle.reading.specs.Action.{number_of}
use Rattle.host.proofs.step.Goals as goal

pub read_on-requires : goal.read_on-requires
unfolding stepped_by
read_on-requires c = (sound-by c.act.ensures (noted-sound _ (acted-sound c.requires _ _))).good.number_in.value_in

pub returns : goal.returns
unfolding stepped_by
returns c =
    let a = c.args in
    ap (λ (t : Terminal). world t c.act.new.chars c.act.new.attrs) c.read_on.ensures ∙ ap (λ (w : World). stated w (read_on (number_of a.a) (a.byte % 128) w.state)) c.act.ensures
