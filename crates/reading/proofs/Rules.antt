-- What is true of every action: the actions' and the reading states' ranges, ESC before everything. Assumes nothing.
use mathlib.Core.Path.{◌≡◌, refl, ap}
use mathlib.Core.Bool.{Bool, true, false, cond, ◌||◌}
use Prim.Native.Nat.{ℕ, ◌%◌, ◌<◌}
use native.Mathlib.Omega.{arith}
use lib.Dec.{eqb, ltb}
use borrow.Author.Tests.{ltb-true}
use Rattle.reading.specs.declared.Number.{Number}
use Rattle.reading.specs.Action.{esc, plus, minus}
use Rattle.reading.specs.Reading.{action_of, action_at, unbegun, settled, counted, clear, next_reading}
use Rattle.reading.proofs.Computed.{all_below, below}

-- every action of a reading state is one of the 62
pub action-small : (s b : ℕ) → s < 7 → action_of s b < 62
unfolding action_of
action-small s b h =
    let m : b % 128 < 128 = omega arith in
    ltb-true _ _ (below 128 (λ k. ltb (action_at s k) 62) (below 7 (λ s. all_below 128 (λ k. ltb (action_at s k) 62)) refl s h) (b % 128) m)

-- what both outcomes of a test have, the choice has
pub either : {A : Type 0} (P : A → Type 0) (t : Bool) {x y : A} → P x → P y → P (cond t x y)
either P true p q = p
either P false p q = q

-- settling an action gives one of the 62
pub settled-small : (a : ℕ) (n : Number) → a < 62 → settled a n < 62
unfolding settled
settled-small a n h = either (λ k. k < 62) (eqb a plus || eqb a minus) (either (λ k. k < 62) (unbegun n) h (omega arith)) h

-- every next reading state is one of the seven
pub next_small : (a : ℕ) → next_reading a < 7
unfolding next_reading
next_small a =
    let P : ℕ → Type 0 = λ k. k < 7 in
    let at : (k : ℕ) → ltb k 7 ≡ true → k < 7 = λ k e. ltb-true k 7 e in
    either P _ (at 1 refl) (either P _ (at 2 refl) (either P _ (at 3 refl) (either P _ (at 4 refl) (either P _ (at 5 refl) (either P _ (at 6 refl) (at 0 refl))))))

-- a byte counts modulo 128
pub byte-modulo : (s byte : ℕ) → action_of s (byte % 128) ≡ action_of s byte
unfolding action_of
byte-modulo s byte = let e : byte % 128 % 128 ≡ byte % 128 = omega arith in ap (action_at s) e

-- ---- ESC comes before everything: in any state it asks for `esc`, which goes to state 1 with a clear number
pub esc-first : (s : ℕ) → action_of s 27 ≡ esc
unfolding action_of
esc-first s = refl

pub esc-settled : (n : Number) → settled esc n ≡ esc
unfolding settled
esc-settled n = refl

pub esc-next : next_reading esc ≡ 1
unfolding next_reading
esc-next = refl

pub esc-clears : (b : ℕ) (n : Number) → counted esc b n ≡ clear
unfolding counted
esc-clears b n = refl
