-- `plain::step` meets its contract: the action, then the reading state and the number after it. Assumes nothing.
use mathlib.Core.Path.{ap}
use Rattle.terminal.specs.State.{World, stated, reread}
use Rattle.plain.specs.Plain.{stepped_to}
use Rattle.plain.proofs.step.Goals as goal

pub returns : goal.returns
unfolding stepped_to
returns c =
    let d = c.args.d in
    ap (λ (w : World). stated w (reread w.state d.reading d.number)) c.act-u.ensures
