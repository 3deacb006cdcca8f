-- `plain::feed_on` meets its contract: a byte whose reply fits is a turn of the stream, one whose reply does not stops it, and past the last byte it is done. Assumes nothing.
use Prim.Native.Nat.{ℕ, ◌+◌, ◌-◌, ◌≤◌}
use mathlib.Core.Path.{◌≡◌, sym, ap, ◌∙◌}
use native.Mathlib.Omega.{arith}
use lib.ListN.{length}
use borrow.Author.Tests.{leb-true, leb-false}
use Rattle.terminal.specs.State.{world}
use Rattle.streams.specs.Streams.{reply_to, hosted}
use Rattle.streams.proofs.Streams.{fed_on-turn, fed_on-stop, fed_on-end}
use Rattle.streams.proofs.Kept.{stepped-by-sound, sound-by}
use Rattle.plain.proofs.Agreement.{action-as, step-as}
use Rattle.reading.specs.Action.{number_of}
use Rattle.plain.proofs.feed_on.Goals as goal

pub returns-then-not-has_room : goal.returns-then-not-has_room
returns-then-not-has_room c =
    let l = c.loop-i in
    let a = c.args in
    let w = world l.u l.chars l.attrs in
    let full = leb-false (length (reply_to (number_of c.read-d.result.action) w)) (length l.reply - l.at) (sym c.has_room.ensures ∙ c.if-not-has_room.true) in
    ap (λ (n : ℕ). hosted n l.i l.at w l.reply) c.number.ensures
    ∙ fed_on-stop a.rows a.bytes.now l.i l.at w l.reply c.loop-i-test.true (action-as l.u _ c.read-d.ensures) (omega (arith, full, l.invariant.0))
    ∙ l.invariant.2

pub loop-i-preserved : goal.loop-i-preserved
loop-i-preserved c =
    let l = c.loop-i in
    let a = c.args in
    let w = world l.u l.chars l.attrs in
    let e = c.step-u.ensures ∙ step-as a.rows _ w c.read-d.ensures in
    let room = leb-true (length (reply_to (number_of c.read-d.result.action) w)) (length l.reply - l.at) (sym c.has_room.ensures ∙ c.if-not-has_room.false) in
    let fits : l.at + length (reply_to (number_of c.read-d.result.action) w) ≤ length l.reply = omega (arith, room, l.invariant.0) in (
      omega (arith, c.send-at.ensures.value, c.send-at.auto.reply, fits),
      sound-by e (stepped-by-sound l.invariant.1 _ _),
      fed_on-turn a.rows a.bytes.now l.i l.at w l.reply c.loop-i-test.true (action-as l.u _ c.read-d.ensures) fits c.send-at.ensures.value e c.send-at.ensures.reply_after ∙ l.invariant.2,
    )

pub returns : goal.returns
returns c =
    let l = c.loop-i in
    let a = c.args in
    let w = world l.u l.chars l.attrs in
    let e : length a.bytes.now ≡ l.i = omega (arith, c.loop-i-test.false, l.auto.i-end) in
    ap (λ (n : ℕ). hosted 0 n l.at w l.reply) e ∙ fed_on-end a.rows a.bytes.now l.i l.at w l.reply (sym e) ∙ l.invariant.2
