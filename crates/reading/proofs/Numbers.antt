-- The number being read: `sound_number` and `SoundNumber` say the same, every action keeps a number sound, and every end clears it. Assumes nothing.
use mathlib.Core.Path.{◌≡◌, refl, ap, ◌∙◌}
use mathlib.Core.Bool.{Bool, true, false, ◌&&◌, ◌||◌, and-false, or-false, or-true}
use Prim.Native.Nat.{ℕ, ◌≤◌, ◌<◌}
use native.Mathlib.Omega.{arith}
use lib.Dec.{eqb, leb, ltb}
use borrow.Author.Tests.{leb-true, ltb-true, eqb-true, eqb-false, not-true, le-leb, lt-ltb, eq-eqb, ne_eqb}
use Rattle.reading.specs.declared.Number.{Number}
use Rattle.reading.specs.Action.{plus, minus, digit}
use Rattle.reading.specs.Reading.{unbegun, counted, clear, next_reading, sound_number, SoundNumber}
use Rattle.reading.proofs.Computed.{and_left, and_right, or_right}
use Rattle.reading.proofs.Rules.{either}

-- two numbers with equal parts are equal
built : {s t v w : ℕ} {c d : Bool} → s ≡ t → c ≡ d → v ≡ w → ◌≡◌ {A = Number} (record { sign = s; digit = c; value = v }) (record { sign = t; digit = d; value = w })
built p q r = cc

-- ---- what a number of which `sound_number` is true has
module _ (reading : ℕ) (n : Number) (e : sound_number reading n ≡ true) where
  sound-signed : ltb n.sign 3 && ((n.digit || eqb n.value 0) && (eqb reading 3 || unbegun n)) ≡ true
  unfolding sound_number
  sound-signed = and_right (leb n.value 999) _ e

  sound-digit : (n.digit || eqb n.value 0) && (eqb reading 3 || unbegun n) ≡ true
  sound-digit = and_right (ltb n.sign 3) _ sound-signed

  pub sound-value : n.value ≤ 999
  unfolding sound_number
  sound-value = leb-true _ _ (and_left _ _ e)

  sound-undigited : n.digit ≡ false → n.value ≡ 0
  sound-undigited d = eqb-true _ _ (or_right _ _ (and_left _ _ sound-digit) d)

  sound-clear : (reading ≡ 3 → ⊥) → n ≡ clear
  unfolding unbegun
  sound-clear h =
      let u : unbegun n ≡ true = or_right _ _ (and_right (n.digit || eqb n.value 0) _ sound-digit) (ne_eqb _ _ h) in
      let s : n.sign ≡ 0 = eqb-true _ _ (and_left _ _ u) in
      let d : n.digit ≡ false = not-true _ (and_right (eqb n.sign 0) _ u) in
      built s d (sound-undigited d)

  pub sound-in : SoundNumber reading n
  sound-in = record { value_in = sound-value; sign_in = ltb-true _ _ (and_left _ _ sound-signed); undigited = sound-undigited; cleared = sound-clear }

-- ---- what `sound_number` is where its first tests hold
module _ (reading : ℕ) (n : Number) (v : n.value ≤ 999) (s : n.sign < 3) where
  with-digit : n.digit ≡ true → sound_number reading n ≡ eqb reading 3
  unfolding sound_number unbegun
  with-digit d = rw (le-leb _ _ v, lt-ltb _ _ s, d, and-false, or-false)

  in-cursor : n.digit ≡ false → n.value ≡ 0 → reading ≡ 3 → sound_number reading n ≡ true
  unfolding sound_number
  in-cursor d h r = rw (le-leb _ _ v, lt-ltb _ _ s, d, eq-eqb _ _ h, eq-eqb _ _ r)

-- a clear number is sound in every reading state
pub clear-sound : (reading : ℕ) → sound_number reading clear ≡ true
unfolding sound_number unbegun
clear-sound reading = or-true (eqb reading 3)

-- ---- a number that has all of that is sound
pub in-sound : {reading : ℕ} {n : Number} → SoundNumber reading n → sound_number reading n ≡ true
in-sound {reading} {n} g = by_tests (eqb reading 3) refl n.digit refl
  where
    by_tests : (t : Bool) → eqb reading 3 ≡ t → (d : Bool) → n.digit ≡ d → sound_number reading n ≡ true
    by_tests false f d e = ap (sound_number reading) (g.cleared (eqb-false reading 3 f)) ∙ clear-sound reading
    by_tests true f true e = with-digit reading n g.value_in g.sign_in e ∙ f
    by_tests true f false e = in-cursor reading n g.value_in g.sign_in e (g.undigited e) (eqb-true reading 3 f)

-- ---- what an action leaves of the number: outside reading state 3 the number is clear
pub cleared-outside : (a b : ℕ) (n : Number) → (next_reading a ≡ 3 → ⊥) → counted a b n ≡ clear
unfolding counted next_reading
cleared-outside a b n h =
    let apart : (k : ℕ) → next_reading k ≡ 3 → eqb a k ≡ false = λ k at. ne_eqb a k (λ e. h (ap next_reading e ∙ at)) in
    rw (apart plus refl, apart minus refl, apart digit refl)

-- every end goes to state 0 and clears the number
pub ended : (a b : ℕ) (n : Number) → next_reading a ≡ 0 → counted a b n ≡ clear
ended a b n e = cleared-outside a b n (λ three. omega arith)

-- what a number has after each kind of action, it has after any
each : (P : Number → Type 0) (a b : ℕ) (n : Number) → P (counted plus b n) → P (counted minus b n) → P (counted digit b n) → P clear → P (counted a b n)
unfolding counted
each P a b n p m d c = either P (eqb a plus) p (either P (eqb a minus) m (either P (eqb a digit) d c))

-- every action keeps a number sound
pub sound-kept : (a b : ℕ) {reading : ℕ} {n : Number} → SoundNumber reading n → SoundNumber (next_reading a) (counted a b n)
unfolding counted
sound-kept a b {reading} {n} g =
    record {
      value_in = each (λ m. m.value ≤ 999) a b n (omega arith) (omega arith) (omega arith) (omega arith);
      sign_in = each (λ m. m.sign < 3) a b n (omega arith) (omega arith) g.sign_in (omega arith);
      undigited = each (λ m. m.digit ≡ false → m.value ≡ 0) a b n (λ _. refl) (λ _. refl) (λ e. cc) (λ _. refl);
      cleared = cleared-outside a b n;
    }

pub counted-sound : (reading a b : ℕ) (n : Number) → sound_number reading n ≡ true → sound_number (next_reading a) (counted a b n) ≡ true
counted-sound reading a b n e = in-sound (sound-kept a b (sound-in reading n e))
