-- `replies::measure_fields` meets its contract: the bytes counted and those left from cell `i` on are together all of them. Assumes nothing.
use Prim.Native.Nat.{ℕ, ◌+◌, ◌-◌, ◌<◌}
use mathlib.Core.Bool.{Bool}
use mathlib.Core.Path.{ap, sym, ◌∙◌}
use native.Mathlib.Omega.{arith}
use lib.Dec.{ltb}
use lib.ListN.{length}
use borrow.Author.Tests.{lt-ltb, le-ltb}
use Rattle.replies.specs.Replies.{bit}
use Rattle.replies.proofs.Blocks.{fields_left, left-all, left-none, left-size, left_other, field_in}
use Rattle.replies.proofs.measure_fields.Goals as goal
use Rattle.replies.proofs.measure_fields.Goals.{else-n-gt1, then-n-gt1}

pub loop-i-init : goal.loop-i-init
loop-i-init c = let a = c.args in (omega arith, omega arith, omega (arith, ap length (left-all a.chars.now a.attrs.now)))

pub overflow_sub-n : goal.overflow_sub-n
overflow_sub-n c = omega (arith, field_in _ _ c.field_end-end.ensures (omega arith) (omega arith))

pub overflow_add-n-then-is_sent : goal.overflow_add-n-then-is_sent
overflow_add-n-then-is_sent c =
    let w = field_in _ _ c.field_end-end.ensures (omega arith) (omega arith) in
    elim c.if-n-gt1.branch [ then-n-gt1 v ↦ omega arith | else-n-gt1 v ↦ omega arith ]

pub loop-i-smaller-then-is_sent : goal.loop-i-smaller-then-is_sent
loop-i-smaller-then-is_sent c = omega (arith, field_in _ _ c.field_end-end.ensures (omega arith) (omega arith))

pub loop-i-preserved-then-is_sent : goal.loop-i-preserved-then-is_sent
loop-i-preserved-then-is_sent c =
    let a = c.args in
    let l = c.loop-i in
    let t = sym c.is_sent.ensures ∙ c.if-is_sent.true in
    let e = c.field_end-end.ensures in
    let w = field_in _ _ e (omega arith) (omega arith) in
    let z = left-size a.chars.now a.attrs.now l.i (ltb 1 l.n) t e in
    let more = λ (n : ℕ) (h : 1 < n). ap (λ (b : Bool). length (fields_left a.chars.now a.attrs.now c.field_end-end.result b)) (lt-ltb 1 n h) in
    elim c.if-n-gt1.branch [
      | then-n-gt1 v ↦ (omega (arith, v.n-is), omega (arith, v.n-is), omega (arith, v.n-is, more (c.if-n-gt1.n + (c.field_end-end.result - l.i)) (omega (arith, v.n-is)), ap bit (lt-ltb 1 l.n v.if-n-gt1.true)))
      | else-n-gt1 v ↦ (omega (arith, v.n-is), omega (arith, v.n-is), omega (arith, v.n-is, more (c.if-n-gt1.n + (c.field_end-end.result - l.i)) (omega (arith, v.n-is)), ap bit (le-ltb 1 l.n v.if-n-gt1.false)))
    ]

pub loop-i-preserved : goal.loop-i-preserved
loop-i-preserved c =
    let a = c.args in
    let l = c.loop-i in
    let t = sym c.is_sent.ensures ∙ c.if-is_sent.false in
    (omega arith, omega arith, omega (arith, ap length (left_other a.chars.now a.attrs.now l.i (ltb 1 l.n) t)))

pub returns : goal.returns
returns c =
    let l = c.loop-i in
    let a = c.args in
    omega (arith, l.invariant.2, ap length (left-none a.chars.now a.attrs.now l.i (ltb 1 l.n) (omega arith)))
