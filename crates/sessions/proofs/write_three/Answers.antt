-- `sessions::write_three` meets its contract: one number after the other. Assumes nothing.
use native.Mathlib.Omega.{arith}
use Rattle.sessions.proofs.Text.{three-ends, three-is}
use Rattle.sessions.proofs.write_three.Goals as goal

pub returns-clause-value : goal.returns-clause-value
returns-clause-value c =
    let a = c.args in
    three-ends a.a a.b a.c a.lines.now a.at c.write_number-second.ensures.value c.write_number-third.ensures.value c.write_number.ensures.value

pub returns-clause-lines_after : goal.returns-clause-lines_after
returns-clause-lines_after c =
    let x = c.write_number-second.ensures in
    let y = c.write_number-third.ensures in
    let z = c.write_number.ensures in
    let a = c.args in
    three-is a.a a.b a.c a.lines.now a.at x.value y.value z.value (omega (arith, x.upper_bound, y.upper_bound, z.upper_bound, c.requires)) x.lines_after y.lines_after z.lines_after
