-- `replies::send_fields` meets its contract: the loop's invariant is `Sending`. Assumes nothing.
use Prim.Native.Nat.{◌+◌, ◌-◌, ◌<◌}
use mathlib.Core.Path.{sym, ◌∙◌}
use mathlib.Core.Logic.{inl, inr}
use native.Mathlib.Omega.{arith}
use borrow.Author.Tests.{lt-ltb, le-ltb}
use Rattle.replies.proofs.Writing.{all-written, all-ends}
use Rattle.replies.proofs.Blocks.{field_in, send-begin, send-start, send-on, send-other, send-end}
use Rattle.replies.proofs.send_fields.Goals as goal
use Rattle.replies.proofs.send_fields.Goals.{else-at-n, then-at-n}

pub loop-i-init : goal.loop-i-init
loop-i-init c = (omega arith, rw (le-ltb c.args.at c.args.at (omega arith)) (send-begin (omega arith) (omega arith) (omega arith)))

pub send_field-end-requires-clause-room : goal.send_field-end-requires-clause-room
send_field-end-requires-clause-room c =
    let t = sym c.is_sent.ensures ∙ c.if-is_sent.true in
    let w = send-start c.loop-i.invariant.1 (omega arith) t (elim c.if-at-n.branch [ then-at-n w ↦ inl (lt-ltb _ _ w.if-at-n.true, w.reply-is, w.n-is) | else-at-n w ↦ inr (le-ltb _ _ w.if-at-n.false, w.reply-is, w.n-is) ]) in
    omega (arith, w.room)

pub overflow_sub-n : goal.overflow_sub-n
overflow_sub-n c = omega (arith, field_in _ _ c.send_field-end.ensures.past (omega arith) (omega arith))

pub overflow_add-n-then-is_sent : goal.overflow_add-n-then-is_sent
overflow_add-n-then-is_sent c =
    let t = sym c.is_sent.ensures ∙ c.if-is_sent.true in
    let w = send-start c.loop-i.invariant.1 (omega arith) t (elim c.if-at-n.branch [ then-at-n w ↦ inl (lt-ltb _ _ w.if-at-n.true, w.reply-is, w.n-is) | else-at-n w ↦ inr (le-ltb _ _ w.if-at-n.false, w.reply-is, w.n-is) ]) in
    omega (arith, w.part, w.room, w.writes.size, c.loop-i.invariant.1.size, field_in _ _ c.send_field-end.ensures.past (omega arith) (omega arith))

pub loop-i-smaller-then-is_sent : goal.loop-i-smaller-then-is_sent
loop-i-smaller-then-is_sent c = omega (arith, field_in _ _ c.send_field-end.ensures.past (omega arith) (omega arith))

pub loop-i-preserved-then-is_sent : goal.loop-i-preserved-then-is_sent
loop-i-preserved-then-is_sent c =
    let t = sym c.is_sent.ensures ∙ c.if-is_sent.true in
    let w = send-start c.loop-i.invariant.1 (omega arith) t (elim c.if-at-n.branch [ then-at-n w ↦ inl (lt-ltb _ _ w.if-at-n.true, w.reply-is, w.n-is) | else-at-n w ↦ inr (le-ltb _ _ w.if-at-n.false, w.reply-is, w.n-is) ]) in
    let f = field_in _ _ c.send_field-end.ensures.past (omega arith) (omega arith) in
    let n = c.if-at-n.n + (c.send_field-end.result - c.loop-i.i) in
    let m : c.args.at < n = elim c.if-at-n.branch [ then-at-n v ↦ omega (arith, v.n-is) | else-at-n v ↦ omega (arith, v.n-is) ] in
    (omega arith, rw (lt-ltb c.args.at n m) (send-on c.loop-i.invariant.1 w c.send_field-end.ensures.past c.send_field-end.ensures.sent))

pub loop-i-preserved : goal.loop-i-preserved
loop-i-preserved c = (omega arith, send-other c.loop-i.invariant.1 (sym c.is_sent.ensures ∙ c.if-is_sent.false))

pub returns-clause-end : goal.returns-clause-end
returns-clause-end c = let w = send-end c.loop-i.invariant.1 (omega arith) in all-ends w

pub returns-clause-sent : goal.returns-clause-sent
returns-clause-sent c = let w = send-end c.loop-i.invariant.1 (omega arith) in all-written w
