-- `compare::copy_differs` meets its contract: the loop's invariant is `Seen`. Assumes nothing.
use Prim.Native.Nat.{◌+◌, ◌-◌}
use mathlib.Core.Path.{◌≡◌}
use native.Mathlib.Omega.{arith}
use Rattle.compare.proofs.Patches.{seen_none, seen_same, seen_other}
use Rattle.compare.proofs.copy_differs.Goals as goal
use Rattle.compare.proofs.copy_differs.Goals.{else-s-a, then-s-a}

pub loop-i-init : goal.loop-i-init
loop-i-init c = seen_none (omega arith)

pub loop-i-preserved : goal.loop-i-preserved
loop-i-preserved c =
    let l = c.loop-i in
    let a = c.args in
    let e : a.b + (a.a + l.i - a.a) ≡ a.b + l.i = omega arith in
    elim c.if-s-a.branch [
      | then-s-a w ↦ rw w.seen-is (seen_other {i = a.a + l.i} (omega arith) (omega arith) (rw e w.if-s-a.true) (omega arith))
      | else-s-a w ↦ rw w.seen-is (seen_same {i = a.a + l.i} l.invariant (omega arith) (rw e w.if-s-a.false) (omega arith))
    ]

pub returns : goal.returns
returns c = let e : c.loop-i.i ≡ c.args.n = omega arith in rw e at c.loop-i.invariant.told
