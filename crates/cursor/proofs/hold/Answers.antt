-- `hold` meets its contract: a number below 0 is held to 0, and any other is the same number unsigned. Assumes nothing.
use mathlib.Core.Path.{sym}
use mir.Syntax.{w64}
use mir.Facts.{to_z-of_z}
use Rattle.cursor.proofs.Signed.{held_below, held-from}
use Rattle.cursor.proofs.hold.Goals as goal

pub returns-then-x-lt0 : goal.returns-then-x-lt0
returns-then-x-lt0 c = sym (held_below _ _ (rw (to_z-of_z c.ranges.x) at c.if-x-lt0.true))

pub returns : goal.returns
returns c =
    let q = to_z-of_z {w = w64} c.ranges.x in
    let e = held-from c.args.end c.args.x (rw q at c.if-x-lt0.false) in
    rw e (rw q at c.min.ensures)
