-- `streams::has_room` meets its contract: the longest reply fits, or the reply is measured. Assumes nothing.
use mathlib.Core.Path.{sym}
use native.Mathlib.Omega.{arith}
use lib.ListN.{length}
use borrow.Author.Tests.{le-leb}
use Rattle.reading.specs.Action.{number_of}
use Rattle.terminal.specs.State.{world}
use Rattle.streams.specs.Streams.{reply_to}
use Rattle.streams.proofs.Longest.{reply-longest}
use Rattle.streams.proofs.has_room.Goals as goal

pub returns-then-rows-room : goal.returns-then-rows-room
returns-then-rows-room c =
    let a = c.args in
    sym (le-leb (length (reply_to (number_of a.a) (world a.t a.chars.now a.attrs.now))) a.room (omega (arith, reply-longest c.requires (number_of a.a), c.if-rows-room.true)))
