-- `sessions::write_number` meets its contract: the digits, then the byte behind them. Assumes nothing.
use Prim.Native.Nat.{◌+◌, ◌≤◌}
use native.Mathlib.Omega.{arith}
use lib.ListN.{length}
use Rattle.sessions.proofs.Text.{few, number-ends, number_is}
use Rattle.sessions.proofs.write_number.Goals as goal

pub returns-clause-value : goal.returns-clause-value
returns-clause-value c =
    let d = c.decimal-k in
    let a = c.args in
    let f = few a.n d.result d.ensures.len (omega (arith, c.ranges.n)) in
    let room : a.at + d.result + 1 ≤ length a.lines.now = omega (arith, f, c.requires) in
    number-ends a.n d.result d.ensures.len d.new.out d.ensures.in_bounds.0 d.ensures.digits a.lines.now a.at a.behind room

pub returns-clause-upper_bound : goal.returns-clause-upper_bound
returns-clause-upper_bound c =
    let d = c.decimal-k in
    omega (arith, few c.args.n d.result d.ensures.len (omega (arith, c.ranges.n)))

pub returns-clause-lines_after : goal.returns-clause-lines_after
returns-clause-lines_after c =
    let d = c.decimal-k in
    let a = c.args in
    let f = few a.n d.result d.ensures.len (omega (arith, c.ranges.n)) in
    let room : a.at + d.result + 1 ≤ length a.lines.now = omega (arith, f, c.requires) in
    number_is a.n d.result d.ensures.len d.new.out d.ensures.in_bounds.0 d.ensures.digits a.lines.now a.at a.behind room c.write_at.ensures
