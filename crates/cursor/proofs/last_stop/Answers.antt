-- `last_stop` meets its contract: the last stop of the columns before `to`. Assumes nothing.
use mathlib.Core.Bool.{false}
use native.Mathlib.Omega.{arith}
use lib.ListN.{take}
use Rattle.std.proofs.Common.{rules}
use Rattle.cells.proofs.Finds.{LastPlace}
use Rattle.cells.proofs.Search.{last-in-front}
use Rattle.cursor.specs.Stops.{is_stop}
use Rattle.cursor.proofs.last_stop.Goals as goal

pub returns : goal.returns
returns c =
    let a = c.args in
    let h : LastPlace is_stop false (take a.to a.stops) c.rposition.result = search rules in
    last-in-front is_stop false a.stops a.to (omega arith) c.rposition.result h
