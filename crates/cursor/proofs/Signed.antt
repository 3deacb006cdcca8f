-- Signed numbers: a small number as a signed one, what a test against 0 tells, and a number with its sign. Assumes nothing.
use Prim.Native.Nat.{ℕ, zero, suc, ◌+◌, ◌-◌, ◌≤◌, ◌<◌, ◌^◌, min}
use mathlib.Core.Path.{◌≡◌, refl, ap, ◌∙◌}
use mathlib.Core.Bool.{Bool, true, false, cond}
use native.Mathlib.Omega.{arith}
use lib.Dec.{T, eqb, ltb}
use lib.IntN.{ℤ, pos, negsuc, sub_ℕ, nat_abs, neg_ℤ, ◌+ℤ◌, ◌-ℤ◌}
use lib.Signed.{mag, lt_z, non_neg}
use mir.Syntax.{w64}
use mir.Val.{SFits, to_z, of_z}
use mir.Facts.{to_z-of_z}
use borrow.Author.Tests.{lt-ltb, le-ltb, ltb-true, eq-eqb, ne_eqb}
use Rattle.cursor.specs.Addressing.{signed, aimed, held_to}

-- a number below 2 ^ 63 is itself as a signed one
pub small : (n : ℕ) → n < 2 ^ 63 → to_z w64 n ≡ pos n
small n h = rw (lt-ltb n (2 ^ 63) h)

-- the difference of two numbers below 2 ^ 63 fits
sub-mag : (a b : ℕ) (t : Bool) → a < 2 ^ 63 → b < 2 ^ 63 → mag (cond t (negsuc (b - suc a)) (pos (a - b))) < 2 ^ 63
sub-mag a b true p q = omega arith
sub-mag a b false p q = omega arith

minus : (a b : ℕ) → pos a -ℤ pos b ≡ sub_ℕ a b
minus a zero = let p : ltb a zero ≡ false = le-ltb a zero (omega arith) in let q : a + zero ≡ a - zero = omega arith in rw (p, q)
minus a (suc b) = refl

pub minus-fits : (a b : ℕ) → a < 2 ^ 63 → b < 2 ^ 63 → SFits w64 (pos a -ℤ pos b)
minus-fits a b p q = record { sfits = rw (minus a b) (sub-mag a b (ltb a b) p q) }

-- ---- what the test against 0 tells
pub held_below : (n : ℕ) (x : ℤ) → lt_z x (pos 0) ≡ true → held_to n x ≡ 0
unfolding held_to
held_below n (pos a) e = absurd (let h : a < 0 = ltb-true a 0 e in omega arith)
held_below n (negsuc a) e = refl

pub held-from : (n : ℕ) (x : ℤ) → lt_z x (pos 0) ≡ false → held_to n x ≡ min (nat_abs x) (n - 1)
unfolding held_to
held-from n (pos a) e = refl
held-from n (negsuc a) e = let z : ◌≡◌ {A = ℕ} 0 1 = cc in absurd (omega arith)

pub from_zero : (x : ℤ) → lt_z x (pos 0) ≡ false → T (non_neg x)
from_zero (pos a) e = tt
from_zero (negsuc a) e = let z : ◌≡◌ {A = ℕ} 0 1 = cc in absurd (omega arith)

-- ---- the number with its sign, and as a place or as a move
pub signed-plus : (sign value : ℕ) → sign ≡ 1 → signed sign value ≡ pos value
signed-plus sign value e = rw (eq-eqb sign 1 e)

from-none : (b : ℕ) → neg_ℤ (pos b) ≡ pos 0 -ℤ pos b
from-none zero = refl
from-none (suc b) = let p : ltb zero (suc b) ≡ true = lt-ltb zero (suc b) (omega arith) in let q : suc b - 1 ≡ b = omega arith in rw (p, q)

pub signed-minus : (sign value : ℕ) → (sign ≡ 1 → ⊥) → signed sign value ≡ pos 0 -ℤ pos value
signed-minus sign value e = rw (ne_eqb sign 1 e) (from-none value)

pub aimed-place : (sign at value : ℕ) → sign ≡ 0 → aimed sign at value ≡ pos value
unfolding aimed
aimed-place sign at value e = rw (eq-eqb sign 0 e)

pub aimed-move : (sign at value : ℕ) → (sign ≡ 0 → ⊥) → aimed sign at value ≡ pos at +ℤ signed sign value
unfolding aimed
aimed-move sign at value e = rw (ne_eqb sign 0 e)

-- a move of at most 999, and a place below 96 with that move, fit
signed-fits : (sign value : ℕ) → value ≤ 999 → SFits w64 (signed sign value)
signed-fits sign value q = either (eqb sign 1)
  where
    either : (t : Bool) → SFits w64 (cond t (pos value) (neg_ℤ (pos value)))
    either true = record { sfits = omega arith }
    either false = rw (from-none value) (minus-fits 0 value (omega arith) (omega arith))

pub move-fits : (sign at value : ℕ) → at < 96 → value ≤ 999 → SFits w64 (pos at +ℤ signed sign value)
move-fits sign at value p q = either (eqb sign 1)
  where
    either : (t : Bool) → SFits w64 (pos at +ℤ cond t (pos value) (neg_ℤ (pos value)))
    either true = record { sfits = omega arith }
    either false = minus-fits at value (omega arith) (omega arith)

-- the move as a call hands it back
pub move-back : (sign value : ℕ) {x : ℤ} → value ≤ 999 → x ≡ signed sign value → to_z w64 (of_z w64 x) ≡ signed sign value
move-back sign value q e = ap (λ z. to_z w64 (of_z w64 z)) e ∙ to_z-of_z (signed-fits sign value q)
