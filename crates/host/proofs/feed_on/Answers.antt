-- `host::feed_on` meets its contract. The loop's invariant: the world is sound, the bytes sent fit, and the bytes left, run from here, leave what all bytes leave from the start.
-- A run of text, the bytes of sequences, and any other byte each keep it. The measure is what is left of the bytes. Assumes nothing.
use Rattle.streams.proofs.Streams.{fed_on-turn, fed_on-stop, fed_on-end}
use Rattle.streams.proofs.Kept.{stepped-by-sound, sound-by}
use Rattle.host.proofs.Runs.{free_in, text-turn}
use Rattle.host.proofs.Sequences.{follow-on}
use Rattle.changes.specs.Sets.{rows_of}
use Rattle.changes.specs.Rows.{only}
use Rattle.changes.proofs.Sets.{set-rows}
use Rattle.cursor.proofs.Place.{row_in}
use borrow.Author.Tests.{leb-true, leb-false}
use lib.ListN.{length}
use native.Mathlib.Omega.{arith}
use mathlib.Core.Path.{◌≡◌, sym, ap, ◌∙◌}
use Prim.Native.Nat.{ℕ, ◌+◌, ◌-◌, ◌≤◌}
use Rattle.terminal.specs.State.{world}
use Rattle.streams.specs.Streams.{reply_to, hosted}
use Rattle.reading.specs.Action.{number_of}
use Rattle.host.proofs.feed_on.Goals as goal

pub copy_text-got-requires : goal.copy_text-got-requires
copy_text-got-requires c =
    let l = c.loop-i in
    let f = free_in _ l.u _ (sym c.types_freely.ensures ∙ c.if-types_freely.true) in
    (omega (arith, c.loop-i-test), rw l.invariant.3.chars_long f.1.room, f.0)

pub loop-i-preserved-then-types_freely : goal.loop-i-preserved-then-types_freely
loop-i-preserved-then-types_freely c = let l = c.loop-i in let a = c.args in let w = world l.u l.chars l.attrs in let f = free_in _ l.u _ (sym c.types_freely.ensures ∙ c.if-types_freely.true) in let d = c.copy_text-got.ensures in let r = row_in l.invariant.3.good.place in let ch = c.join-joined.ensures.0 (rows_of a.rows l.u.changes) (only a.rows l.u.cursor.row c.copy_text-got.result.changed) (set-rows a.rows l.u.changes l.invariant.3.good.changes_in) (c.one.ensures a.rows r) in let t = text-turn a.rows a.bytes.now l.i l.at w l.reply l.invariant.3 f.1 l.invariant.1 d c.go_to-u.ensures ch in (d.bytes_upto, l.invariant.1, l.invariant.2, t.0, t.1 ∙ l.invariant.4)

pub loop-i-preserved-then-i-r : goal.loop-i-preserved-then-i-r
loop-i-preserved-then-i-r c =
    let l = c.loop-i in
    let a = c.args in
    let f = follow-on a.rows a.bytes.now l.at l.reply l.invariant.1 l.i (world l.u l.chars l.attrs) l.invariant.0 l.invariant.3 c.follow-r.ensures in
    (f.upto, l.invariant.1, l.invariant.2, f.sound, f.same ∙ l.invariant.4)

pub returns-then-not-has_room : goal.returns-then-not-has_room
returns-then-not-has_room c =
    let l = c.loop-i in
    let a = c.args in
    let w = world l.u l.chars l.attrs in
    ap (λ (n : ℕ). hosted n l.i l.at w l.reply) c.number.ensures ∙ fed_on-stop a.rows a.bytes.now l.i l.at w l.reply (omega (arith, c.loop-i-test)) c.action_for-a.ensures (omega (arith, leb-false (length (reply_to (number_of c.action_for-a.result) w)) (length l.reply - l.at) (sym c.has_room.ensures ∙ c.if-not-has_room.true), l.invariant.1)) ∙ l.invariant.4

pub loop-i-preserved : goal.loop-i-preserved
loop-i-preserved c =
    let l = c.loop-i in
    let a = c.args in
    let w = world l.u l.chars l.attrs in
    let fits : l.at + length (reply_to (number_of c.action_for-a.result) w) ≤ length l.reply = omega (arith, leb-true (length (reply_to (number_of c.action_for-a.result) w)) (length l.reply - l.at) (sym c.has_room.ensures ∙ c.if-not-has_room.false), l.invariant.1) in (
      omega (arith, c.loop-i-test),
      omega (arith, c.send-at.ensures.value, c.send-at.auto.reply, fits),
      c.send-at.auto.reply ∙ l.invariant.2,
      sound-by c.step-u.ensures (stepped-by-sound l.invariant.3 _ _),
      fed_on-turn a.rows a.bytes.now l.i l.at w l.reply (omega (arith, c.loop-i-test)) c.action_for-a.ensures fits c.send-at.ensures.value c.step-u.ensures c.send-at.ensures.reply_after ∙ l.invariant.4,
    )

pub returns : goal.returns
returns c =
    let l = c.loop-i in
    let a = c.args in
    let w = world l.u l.chars l.attrs in
    let e : length a.bytes.now ≡ l.i = omega (arith, c.loop-i-test, l.invariant.0) in
    ap (λ (n : ℕ). hosted 0 n l.at w l.reply) e ∙ fed_on-end a.rows a.bytes.now l.i l.at w l.reply (sym e) ∙ l.invariant.4
