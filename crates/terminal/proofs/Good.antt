-- `is_good` and `Good` say the same, `is_sized` and the two lengths too; a fresh terminal is sound. Assumes nothing.
use Prim.Native.Nat.{ℕ, ◌*◌, ◌≤◌}
use mathlib.Core.Path.{◌≡◌, refl}
use mathlib.Core.Bool.{true, false, and-eq-true_iff, not-eq-not}
use mathlib.Core.List.{List}
use native.Mathlib.Omega.{arith}
use lib.ListN.{length, replicate, length-replicate}
use lib.Dec.{ltb, eqb}
use borrow.Author.Tests.{ltb-true, eqb-true, lt-ltb, eq-eqb, ne_eqb}
use Rattle.changes.proofs.Sets.{set-good}
use Rattle.cursor.specs.Cursor.{is_placed}
use Rattle.cursor.proofs.Place.{place_in, in_place}
use Rattle.reading.specs.Reading.{sound_number}
use Rattle.reading.proofs.Numbers.{sound-in as number-facts, in-sound as number-test, clear-sound}
use Rattle.reading.proofs.Rules.{either}
use Rattle.terminal.specs.declared.Terminal.{Terminal}
use Rattle.terminal.specs.State.{World, fresh_state, fresh_world, is_good, Good, is_sized, Sound}
use Rattle.terminal.specs.Fresh.{fresh_refusal, freshened}

-- ---- the test that passes gives the facts, the facts make it pass, and where they do not hold it fails
pub good-in : (rows : ℕ) (t : Terminal) → is_good rows t ≡ true → Good rows t
unfolding is_good
good-in rows t e =
    let a = (and-eq-true_iff (is_placed rows t.cursor) _).0 e in
    let b = (and-eq-true_iff (ltb t.pending 5) _).0 a.1 in
    let d = (and-eq-true_iff (ltb t.reading 7) _).0 b.1 in
    let f = (and-eq-true_iff (sound_number t.reading t.number) _).0 d.1 in
    record {
      place = place_in rows t.cursor a.0;
      pending_in = ltb-true _ _ b.0;
      reading_in = ltb-true _ _ d.0;
      number_in = number-facts _ _ f.0;
      changes_in = f.1;
    }

pub in-good : {rows : ℕ} {t : Terminal} → Good rows t → is_good rows t ≡ true
unfolding is_good
in-good g = rw (in_place g.place, lt-ltb _ _ g.pending_in, lt-ltb _ _ g.reading_in, number-test g.number_in, g.changes_in)

pub not_good : (rows : ℕ) (t : Terminal) → (Good rows t → ⊥) → is_good rows t ≡ false
not_good rows t h = (not-eq-not {b = false}).0 (λ e. h (good-in rows t e))

-- ---- the lengths
module _ (rows : ℕ) (chars attrs : List ℕ) where
  pub sized-in : is_sized rows chars attrs ≡ true → (length chars ≡ rows * 80) × (length attrs ≡ rows * 80)
  unfolding is_sized
  sized-in e =
      let a = (and-eq-true_iff (eqb (length chars) (rows * 80)) _).0 e in
      (eqb-true _ _ a.0, eqb-true _ _ a.1)

  pub in-sized : length chars ≡ rows * 80 → length attrs ≡ rows * 80 → is_sized rows chars attrs ≡ true
  unfolding is_sized
  in-sized p q = rw (eq-eqb _ _ p, eq-eqb _ _ q)

  pub not-sized : ((length chars ≡ rows * 80) × (length attrs ≡ rows * 80) → ⊥) → is_sized rows chars attrs ≡ false
  not-sized h = (not-eq-not {b = false}).0 (λ e. h (sized-in e))

-- ---- a world that passes both tests is sound, and a sound one passes them
pub sound-in : {rows : ℕ} {w : World} → rows ≤ 96 → is_sized rows w.chars w.attrs ≡ true → is_good rows w.state ≡ true → Sound rows w
sound-in {rows} {w} f s g =
    let n = sized-in rows w.chars w.attrs s in
    record { few = f; chars_long = n.0; attrs_long = n.1; good = good-in rows w.state g }

pub in-sound : {rows : ℕ} {w : World} → Sound rows w → (is_sized rows w.chars w.attrs ≡ true) × (is_good rows w.state ≡ true)
in-sound {rows} {w} s = (in-sized rows w.chars w.attrs s.chars_long s.attrs_long, in-good s.good)

-- ---- a fresh terminal
pub fresh_good : {rows : ℕ} → 24 ≤ rows → Good rows (fresh_state rows)
fresh_good {rows} h =
    record {
      place = omega arith;
      pending_in = omega arith;
      reading_in = omega arith;
      number_in = number-facts _ _ (clear-sound 0);
      changes_in = set-good (replicate rows true) (length-replicate rows true);
    }

pub fresh-sound : {rows : ℕ} → 24 ≤ rows → rows ≤ 96 → Sound rows (fresh_world rows)
unfolding fresh_world
fresh-sound {rows} h f =
    record { few = f; chars_long = length-replicate (rows * 80) 32; attrs_long = length-replicate (rows * 80) 0; good = fresh_good h }

-- ---- the call for a fresh terminal: a good state in any case; where it is not refused the world is sound, and a refusal leaves the buffers
pub freshened-good : (rows : ℕ) (chars attrs : List ℕ) → 24 ≤ rows → Good rows (freshened rows chars attrs).world.state
unfolding freshened fresh_world
freshened-good rows chars attrs h = either (λ (w : World). Good rows w.state) (eqb (fresh_refusal rows chars attrs) 0) (fresh_good h) (fresh_good h)

pub freshened-sound : (rows : ℕ) (chars attrs : List ℕ) → 24 ≤ rows → rows ≤ 96 → (freshened rows chars attrs).number ≡ 0 → Sound rows (freshened rows chars attrs).world
unfolding freshened
freshened-sound rows chars attrs h f e = rw (eq-eqb (fresh_refusal rows chars attrs) 0 e) (fresh-sound h f)

pub freshened-refused : (rows : ℕ) (chars attrs : List ℕ) → ((freshened rows chars attrs).number ≡ 0 → ⊥) → ((freshened rows chars attrs).world.chars ≡ chars) × ((freshened rows chars attrs).world.attrs ≡ attrs)
unfolding freshened
freshened-refused rows chars attrs n = rw (ne_eqb (fresh_refusal rows chars attrs) 0 n) (refl, refl)
