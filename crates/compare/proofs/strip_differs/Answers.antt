-- `compare::strip_differs` meets its contract: the loop's invariant is `Seen`. Assumes nothing.
use Prim.Native.Nat.{◌+◌, ◌-◌}
use mathlib.Core.Path.{◌≡◌}
use native.Mathlib.Omega.{arith}
use Rattle.compare.proofs.Patches.{seen_none, seen_same, seen_other, length-part, part-at}
use Rattle.compare.proofs.strip_differs.Goals as goal
use Rattle.compare.proofs.strip_differs.Goals.{else-a-ge16, then-a-ge16}

pub loop-a-init : goal.loop-a-init
loop-a-init c = seen_none (omega arith)

pub loop-a-preserved : goal.loop-a-preserved
loop-a-preserved c =
    let l = c.loop-a in
    let a = c.args in
    let n = length-part a.s.now a.from a.to (omega arith) in
    let e = part-at a.s.now a.from (a.to - a.from) l.a-index (omega (arith, c.loop-a-test.true)) in
    elim c.if-a-ge16.branch [
      | then-a-ge16 w ↦ rw w.seen-is (seen_other {i = a.from + l.a-index} (omega arith) (omega (arith, c.loop-a-test.true)) (λ q. omega (arith, w.if-a-ge16.true, q)) (omega arith))
      | else-a-ge16 w ↦ rw w.seen-is (seen_same {i = a.from + l.a-index} l.invariant (omega (arith, c.loop-a-test.true)) (omega (arith, w.if-a-ge16.false)) (omega arith))
    ]

pub returns : goal.returns
returns c =
    let a = c.args in
    let n = length-part a.s.now a.from a.to (omega arith) in
    let e : a.from + c.loop-a.a-index ≡ a.to = omega (arith, c.loop-a-test.false, c.loop-a.auto.a-index-end) in
    rw e at c.loop-a.invariant.told
