-- `replies::send_field` meets its contract: the loop's invariant is `Copying`. Assumes nothing.
use Prim.Native.Nat.{◌+◌, ◌-◌, ◌*◌, ◌/◌}
use mathlib.Core.Path.{◌≡◌, sym, ◌∙◌}
use native.Mathlib.Omega.{arith}
use lib.ListN.{get_or, length-set}
use Rattle.replies.proofs.Blocks.{copy-size, copy_begin, copy-room, copy-next, copy-end, copy-all}
use Rattle.replies.proofs.send_field.Goals as goal

pub bounds-reply-at : goal.bounds-reply-at
bounds-reply-at c = omega (arith, copy-size c.args.chars.now c.args.attrs.now c.args.from (omega arith) (omega arith))

pub loop-i-init : goal.loop-i-init
loop-i-init c =
    let a = c.args in
    let e : a.at + (a.from + 1 - a.from) ≡ a.at + 1 = omega arith in
    rw e (copy_begin a.chars.now a.attrs.now a.from (omega arith) (omega arith) (omega (arith, copy-size a.chars.now a.attrs.now a.from (omega arith) (omega arith), length-set a.reply.now a.at (get_or a.chars.now a.from 0))))

pub returns-then-has_mark-clause-past : goal.returns-then-has_mark-clause-past
returns-then-has_mark-clause-past c =
    let a = c.args in
    copy-end a.chars.now a.attrs.now a.from (omega arith) (omega arith) c.loop-i.invariant (λ _. sym c.has_mark.ensures ∙ c.if-has_mark.true)

pub returns-then-has_mark-clause-sent : goal.returns-then-has_mark-clause-sent
returns-then-has_mark-clause-sent c =
    let a = c.args in
    let l = c.loop-i in
    let e = copy-end a.chars.now a.attrs.now a.from (omega arith) (omega arith) l.invariant (λ _. sym c.has_mark.ensures ∙ c.if-has_mark.true) in
    copy-all a.chars.now a.attrs.now a.from (omega arith) (omega arith) a.reply.now a.at (omega (arith, copy-size a.chars.now a.attrs.now a.from (omega arith) (omega arith))) l.invariant e

pub bounds-reply-at-in-loop-i : goal.bounds-reply-at-in-loop-i
bounds-reply-at-in-loop-i c = let a = c.args in copy-room a.chars.now a.attrs.now a.from (omega arith) (omega arith) c.loop-i.invariant (omega arith) (sym c.has_mark.ensures ∙ c.if-has_mark.false)

pub loop-i-preserved : goal.loop-i-preserved
loop-i-preserved c =
    let a = c.args in
    let l = c.loop-i in
    let e : a.at + (l.i + 1 - a.from) ≡ a.at + (l.i - a.from) + 1 = omega (arith, l.invariant.low) in
    rw e (copy-next a.chars.now a.attrs.now a.from (omega arith) (omega arith) l.invariant (omega arith) (sym c.has_mark.ensures ∙ c.if-has_mark.false))

pub returns-clause-past : goal.returns-clause-past
returns-clause-past c =
    let a = c.args in
    let l = c.loop-i in
    let n : a.from / 80 * 80 + 80 ≡ l.i = omega arith in
    n ∙ copy-end a.chars.now a.attrs.now a.from (omega arith) (omega arith) l.invariant (λ h. absurd (omega arith))

pub returns-clause-sent : goal.returns-clause-sent
returns-clause-sent c =
    let a = c.args in
    let l = c.loop-i in
    let e = copy-end a.chars.now a.attrs.now a.from (omega arith) (omega arith) l.invariant (λ h. absurd (omega arith)) in
    copy-all a.chars.now a.attrs.now a.from (omega arith) (omega arith) a.reply.now a.at (omega (arith, copy-size a.chars.now a.attrs.now a.from (omega arith) (omega arith))) l.invariant e
