-- `records::read` meets its contract: each return by the tests before it. Assumes nothing.
use mathlib.Core.Path.{refl, sym, ◌∙◌}
use native.Mathlib.Omega.{arith}
use Rattle.records.proofs.Forms.{short, long, oversize, unblank, unfit, fits, host-fits, key-fits, post-fits, none-fits, data-part}
use Rattle.records.proofs.read.Goals as goal

pub returns-then-bytes-lt84 : goal.returns-then-bytes-lt84
returns-then-bytes-lt84 c = short c.args.bytes.now (omega arith)

pub returns-then-bytes-ne84 : goal.returns-then-bytes-ne84
returns-then-bytes-ne84 c = long c.args.bytes.now (omega arith) c.if-bytes-ne84.true

pub returns-then-size-gt80 : goal.returns-then-size-gt80
returns-then-size-gt80 c = oversize c.args.bytes.now (omega arith) (omega arith)

pub returns-then-not-is_zero : goal.returns-then-not-is_zero
returns-then-not-is_zero c = unblank c.args.bytes.now (omega arith) (omega arith) (sym c.is_zero.ensures ∙ c.if-not-is_zero.true)

pub returns-in-72 : goal.returns-in-72
returns-in-72 c = let r = c.args.bytes.now in (fits r (omega arith) (omega arith) (sym c.is_zero.ensures ∙ c.if-not-is_zero.false) (host-fits r (omega arith) (omega (arith, c.number-number.ensures))), omega arith, data-part r _ refl)

pub returns-in-75 : goal.returns-in-75
returns-in-75 c = let r = c.args.bytes.now in (fits r (omega arith) (omega arith) (sym c.is_zero.ensures ∙ c.if-not-is_zero.false) (key-fits r (omega arith) (omega arith)), omega arith, c.number-number.ensures)

pub returns-in-80 : goal.returns-in-80
returns-in-80 c = let r = c.args.bytes.now in (fits r (omega arith) (omega arith) (sym c.is_zero.ensures ∙ c.if-not-is_zero.false) (post-fits r (omega arith)), omega arith, c.number-number.ensures, data-part r _ refl)

pub returns-in_default : goal.returns-in_default
returns-in_default c =
    let r = c.args.bytes.now in
    unfit r (omega arith) (omega arith) (none-fits r (λ k n. grind (arith, c.number-number.ensures)) (λ k n. grind arith) (λ k. grind arith))
