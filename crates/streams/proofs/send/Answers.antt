-- `streams::send` meets its contract: an action that is neither ACK nor DC1 sends nothing. Assumes nothing.
use Rattle.std.proofs.Common.{rules, tests}
use mathlib.Core.Path.{◌≡◌, refl, ap, sym}
use mathlib.Core.List.{[]}
use native.Mathlib.Omega.{arith}
use lib.ListN.{length}
use Rattle.cells.proofs.Splice.{written_none}
use Rattle.reading.specs.declared.action.Action.{Action}
use Rattle.reading.specs.declared.action.Action.TheVariants.{Ack, Trigger}
use Rattle.reading.specs.Action.{number_of}
use Rattle.terminal.specs.State.{World, world}
use Rattle.streams.specs.Streams.{reply_to}
use Rattle.streams.proofs.send.Goals as goal

none : (w : World) (a : Action) → (a ≡ Ack → ⊥) → (a ≡ Trigger → ⊥) → reply_to (number_of a) w ≡ []
unfolding reply_to
none w a p q = search (tests, rules)

pub returns-in_default : goal.returns-in_default
returns-in_default c =
    let a = c.args in
    rw (none (world a.t a.chars.now a.attrs.now) a.a c.in_default.not-Ack c.in_default.not-Trigger)
    (record { value = omega arith; reply_after = sym (written_none _ _) })
