-- `runs::follow` meets its contract. The loop's invariant: the bytes left, followed from here, leave what all leave from the start. The measure is what is left of the bytes. Assumes nothing.
use mathlib.Core.Path.{◌∙◌}
use native.Mathlib.Omega.{arith}
use Rattle.runs.proofs.Sequences.{turned-reads, follow-turn, follow-stop, follow-end}
use Rattle.runs.proofs.follow.Goals as goal

pub returns-then-q-i : goal.returns-then-q-i
returns-then-q-i c =
    let l = c.loop-r in
    let a = c.args in
    follow-stop a.rows a.bytes.now l.r c.loop-r-test.true c.action-a.ensures c.turn-q.ensures c.if-q-i.true ∙ l.invariant.2

pub loop-r-smaller : goal.loop-r-smaller
loop-r-smaller c =
    let l = c.loop-r in
    let a = c.args in
    let t = follow-turn a.rows a.bytes.now l.r c.loop-r-test.true c.action-a.ensures c.turn-q.ensures c.if-q-i.false in
    omega (arith, c.loop-r-test.true)

pub loop-r-preserved : goal.loop-r-preserved
loop-r-preserved c =
    let l = c.loop-r in
    let a = c.args in
    let t = follow-turn a.rows a.bytes.now l.r c.loop-r-test.true c.action-a.ensures c.turn-q.ensures c.if-q-i.false in
    (omega (arith, c.loop-r-test.true), rw c.turn-q.ensures (turned-reads _ _ _ _ _ l.invariant.1), t.1 ∙ l.invariant.2)

pub returns : goal.returns
returns c = follow-end c.args.rows c.args.bytes.now c.loop-r.r (omega (arith, c.loop-r-test.false)) ∙ c.loop-r.invariant.2
