-- `next_stop` meets its contract: the first stop of the part, counted from the part's first column on. Assumes nothing.
use mathlib.Core.Path.{◌≡◌, ◌∙◌}
use mathlib.Core.Bool.{false}
use Prim.Native.Nat.{◌+◌, ◌-◌}
use native.Mathlib.Omega.{arith}
use lib.ListN.{take, drop}
use Rattle.std.proofs.Common.{rules, option_map}
use Rattle.cells.proofs.Finds.{FirstPlace}
use Rattle.cells.proofs.Search.{first-in-part}
use Rattle.cursor.specs.Stops.{is_stop}
use Rattle.cursor.proofs.next_stop.Goals as goal

pub returns : goal.returns
returns c =
    let a = c.args in
    let h : FirstPlace is_stop false (take (80 - a.from) (drop a.from a.stops)) c.position-at.result = search rules in
    let m : c.map.result ≡ option_map (λ k. a.from + k) c.position-at.result = search rules in
    m ∙ first-in-part is_stop false a.stops a.from 80 (omega arith) (omega arith) c.position-at.result h
