-- `compare::fill_differs` meets its contract: the loop's invariant is `Seen`. Assumes nothing.
use Prim.Native.Nat.{◌+◌, ◌-◌}
use mathlib.Core.Path.{◌≡◌, sym, ◌∙◌}
use native.Mathlib.Omega.{arith}
use Rattle.cells.specs.Memory.{filled}
use Rattle.compare.proofs.Patches.{seen_none, seen_same, seen_other, length-part, part-at}
use Rattle.compare.proofs.fill_differs.Goals as goal
use Rattle.compare.proofs.fill_differs.Goals.{else-b-v, then-b-v}

pub loop-b-init : goal.loop-b-init
loop-b-init c = seen_none (omega arith)

pub loop-b-preserved : goal.loop-b-preserved
loop-b-preserved c =
    let l = c.loop-b in
    let a = c.args in
    let n = length-part a.s.now a.from a.to (omega arith) in
    let e = part-at a.s.now a.from (a.to - a.from) l.b-index (omega (arith, c.loop-b-test.true)) in
    elim c.if-b-v.branch [
      | then-b-v w ↦ rw w.seen-is (seen_other {i = a.from + l.b-index} (omega arith) (omega (arith, c.loop-b-test.true)) (λ q. w.if-b-v.true (e ∙ q)) (omega arith))
      | else-b-v w ↦ rw w.seen-is (seen_same {i = a.from + l.b-index} l.invariant (omega (arith, c.loop-b-test.true)) (sym e ∙ w.if-b-v.false) (omega arith))
    ]

pub returns : goal.returns
unfolding filled
returns c =
    let a = c.args in
    let n = length-part a.s.now a.from a.to (omega arith) in
    let e : a.from + c.loop-b.b-index ≡ a.to = omega (arith, c.loop-b-test.false, c.loop-b.auto.b-index-end) in
    rw e at c.loop-b.invariant.told
