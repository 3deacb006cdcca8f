-- `address` meets its contract: a place or a sum, by what `hold` gives. Assumes nothing.
use native.Mathlib.Omega.{arith}
use mir.Facts.{to_z-of_z}
use Rattle.cursor.proofs.Signed.{small, aimed-place, aimed-move, move-fits, move-back}
use Rattle.cursor.proofs.address.Goals as goal

pub returns-then-sign-eq0 : goal.returns-then-sign-eq0
returns-then-sign-eq0 c =
    let a = c.args in
    rw (aimed-place a.sign a.at a.value c.if-sign-eq0.true, ← small a.value (omega arith)) c.hold.ensures

pub returns : goal.returns
returns c =
    let a = c.args in
    let f = move-fits a.sign a.at a.value (omega arith) (omega arith) in
    rw (aimed-move a.sign a.at a.value c.if-sign-eq0.false, ← to_z-of_z f)
    (rw (small a.at (omega arith), move-back a.sign a.value (omega arith) c.give_sign.ensures) at c.hold-2.ensures)
