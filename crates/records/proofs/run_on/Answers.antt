-- `records::run_on` meets its contract: a call that the reply buffer stopped is followed by another, and any other ends the record. Assumes nothing.
use Prim.Native.Nat.{◌-◌}
use mathlib.Core.Path.{◌≡◌, refl, sym, ◌∙◌}
use native.Mathlib.Omega.{arith}
use Rattle.terminal.specs.State.{world}
use Rattle.records.proofs.Whole.{whole-start, call-written, turn-after, whole-last, whole-none}
use Rattle.records.proofs.run_on.Goals as goal

pub loop-init : goal.loop-init
loop-init c = (omega arith, omega arith, refl, refl, refl, whole-start _ _ _)

pub overflow_add-sum : goal.overflow_add-sum
overflow_add-sum c =
    let l = c.loop in
    let a = c.args in
    omega (arith, call-written a.rows (world l.u l.chars l.attrs) a.bytes.now l.at l.sum l.reply (l.invariant.4 ∙ c.requires.2) c.run_from_on-a.ensures c.requires.1, c.requires.1, l.invariant.0)

pub returns-then-a-full : goal.returns-then-a-full
returns-then-a-full c =
    let l = c.loop in
    let a = c.args in
    whole-last a.rows (world l.u l.chars l.attrs) a.bytes.now l.at l.sum l.reply (l.invariant.4 ∙ c.requires.2) c.run_from_on-a.ensures (81 - l.counter) (omega arith) (λ z. c.if-a-full.true (z ∙ sym c.number-full.ensures))
    ∙ l.invariant.5

pub loop-preserved : goal.loop-preserved
loop-preserved c =
    let l = c.loop in
    let a = c.args in
    let w = world l.u l.chars l.attrs in
    let room = l.invariant.4 ∙ c.requires.2 in
    let x = c.run_from_on-a in (
      omega (arith, call-written a.rows w a.bytes.now l.at l.sum l.reply room x.ensures c.requires.1, c.requires.1, l.invariant.0),
      omega arith,
      x.auto.chars ∙ l.invariant.2,
      x.auto.attrs ∙ l.invariant.3,
      x.auto.reply ∙ l.invariant.4,
      turn-after a.rows w a.bytes.now l.at l.sum l.reply room x.ensures l.counter (omega arith) (c.if-a-full.false ∙ c.number-full.ensures) ∙ l.invariant.5,
    )

pub returns : goal.returns
returns c = (let e : 81 - c.loop.counter ≡ 0 = omega arith in rw c.number-full.ensures (whole-none _ (81 - c.loop.counter) _ _ _ _ e)) ∙ c.loop.invariant.5
