-- Each host byte and each stream keeps a sound world sound, and a refused call leaves all. Assumes nothing.
use Prim.Native.Nat.{ℕ, ◌+◌, ◌%◌, ◌≤◌, ◌<◌}
use mathlib.Core.Path.{◌≡◌, refl, sym, ap, ◌∙◌}
use mathlib.Core.Bool.{Bool, true, false, cond, not}
use mathlib.Core.List.{List, [], ◌∷◌}
use mathlib.Core.Logic.{◌⊎◌, inl, inr, ⊎_elim}
use native.Mathlib.Omega.{arith}
use lib.ListN.{length}
use lib.Dec.{leb, eqb}
use borrow.Author.Tests.{ne_eqb}
use Rattle.std.specs.Prelude.{Result, Ok, Err}
use Rattle.reading.specs.Reading.{action_of}
use Rattle.reading.proofs.Rules.{action-small, settled-small, next_small, either}
use Rattle.reading.proofs.Numbers.{sound-kept}
use Rattle.terminal.specs.declared.Terminal.{Terminal}
use Rattle.terminal.specs.State.{World, is_good, is_sized, Good, Sound}
use Rattle.terminal.specs.declared.refusal.Refusal.{Refusal}
use Rattle.terminal.specs.Numbers.{number_of, answered}
use Rattle.terminal.specs.Refusals.{◌when◌, first_refusal}
use Rattle.terminal.proofs.Refusals.{not-done}
use Rattle.terminal.proofs.Good.{sound-in}
use Rattle.terminal.proofs.Kept.{sound-stated, acted-sound}
use Rattle.terminal.proofs.Noted.{noted-sound}
use Rattle.streams.specs.Streams.{action_for, read_on, stepped_by, stepped, answer_to, Hosted, hosted, fed_on, host_refusal, fed}

-- ---- one byte
-- every action of a byte is one of the 62
pub action-in : {rows : ℕ} {t : Terminal} → Good rows t → (byte : ℕ) → action_for t byte < 62
unfolding action_for
action-in {rows} {t} g byte = settled-small (action_of t.reading byte) t.number (action-small t.reading byte g.reading_in)

pub read-good : {rows : ℕ} {t : Terminal} → Good rows t → (a b : ℕ) → Good rows (read_on a b t)
unfolding read_on
read-good {rows} {t} g a b =
    record {
      place = g.place;
      pending_in = g.pending_in;
      reading_in = next_small a;
      number_in = sound-kept a b g.number_in;
      changes_in = g.changes_in;
    }

module _ {rows : ℕ} {w : World} (s : Sound rows w) where
  pub stepped-by-sound : (a byte : ℕ) → Sound rows (stepped_by rows a byte w)
  unfolding stepped_by
  stepped-by-sound a byte = let v = noted-sound w (acted-sound s a (byte % 128)) in sound-stated v (read-good v.good a (byte % 128))

  pub stepped-sound : (byte : ℕ) → Sound rows (stepped rows byte w)
  unfolding stepped
  stepped-sound byte = stepped-by-sound (action_for w.state byte) byte

-- a world that equals a sound one
pub sound-by : {rows : ℕ} {u w : World} → u ≡ w → Sound rows w → Sound rows u
sound-by e s = rw e s

-- ---- a stream
pub fed_on-sound : {rows : ℕ} {w : World} → Sound rows w → (bytes : List ℕ) (taken sent : ℕ) (reply : List ℕ) → Sound rows (fed_on rows bytes taken sent w reply).world
unfolding fed_on
fed_on-sound {rows = rows} {w = w} s [] taken sent reply = s
fed_on-sound {rows = rows} {w = w} s (b ∷ bs) taken sent reply =
    either (λ (h : Hosted). Sound rows h.world) (leb (sent + length (answer_to b w)) (length reply))
    (fed_on-sound {w = stepped rows b w} (stepped-sound s b) bs (taken + 1) (sent + length (answer_to b w)) _) s

-- what a stream that is read has, and what a call refused with 1 or 2 has, any call has
pub fed_by :
    (P : Hosted → Type 0) (rows : ℕ) (w : World) (bytes reply : List ℕ) →
    (is_sized rows w.chars w.attrs ≡ true → is_good rows w.state ≡ true → P (fed_on rows bytes 0 0 w reply)) →
    ((n : ℕ) → (n ≡ 1) ⊎ (n ≡ 2) → P (hosted n 0 0 w reply)) → P (fed rows w bytes reply)
unfolding fed host_refusal first_refusal
fed_by P rows w bytes reply read left = go (is_sized rows w.chars w.attrs) (is_good rows w.state) read
  where
    go :
        (s g : Bool) → (s ≡ true → g ≡ true → P (fed_on rows bytes 0 0 w reply)) →
        P (cond (eqb (cond (not s) 1 (cond (not g) 2 0)) 0) (fed_on rows bytes 0 0 w reply) (hosted (cond (not s) 1 (cond (not g) 2 0)) 0 0 w reply))
    go true true on = on refl refl
    go true false on = left 2 (inr refl)
    go false g on = left 1 (inl refl)

-- a call by the number of its refusal: one that is not 0 leaves all, and where it is 0 the world is sound; and so by what its tests give
module _ (rows : ℕ) (w : World) where
  pub refused-by : (bytes reply : List ℕ) {n : ℕ} → n ≡ host_refusal rows w → (n ≡ 0 → ⊥) → hosted n 0 0 w reply ≡ fed rows w bytes reply
  unfolding fed
  refused-by bytes reply {n} e other = rw (← e, ne_eqb n 0 other)

  pub unrefused : rows ≤ 96 → host_refusal rows w ≡ 0 → Sound rows w
  unfolding host_refusal first_refusal
  unrefused few e = go (is_sized rows w.chars w.attrs) (is_good rows w.state) refl refl e
    where
      go : (s g : Bool) → is_sized rows w.chars w.attrs ≡ s → is_good rows w.state ≡ g → ◌≡◌ {A = ℕ} (cond (not s) 1 (cond (not g) 2 0)) 0 → Sound rows w
      go true true p q _ = sound-in few p q
      go true false p q e = absurd (omega arith)
      go false g p q e = absurd (omega arith)

  module _ {tested : Result Unit Refusal} (h : answered tested ≡ host_refusal rows w) where
    pub closed-by : (bytes reply : List ℕ) {e : Refusal} {n : ℕ} → tested ≡ Err e → n ≡ number_of e → hosted n 0 0 w reply ≡ fed rows w bytes reply
    closed-by bytes reply {e} t m = refused-by bytes reply (m ∙ sym (ap answered t) ∙ h) (λ z. not-done e (sym m ∙ z))

    pub opened-by : {u : Unit} → rows ≤ 96 → tested ≡ Ok u → Sound rows w
    opened-by few t = unrefused few (sym h ∙ ap answered t)

pub fed-good : (rows : ℕ) (w : World) (bytes reply : List ℕ) → rows ≤ 96 → Good rows w.state → Good rows (fed rows w bytes reply).world.state
fed-good rows w bytes reply f g =
    fed_by (λ (h : Hosted). Good rows h.world.state) rows w bytes reply (λ s t. (fed_on-sound (sound-in f s t) bytes 0 0 reply).good) (λ _ _. g)

pub fed-sound : {rows : ℕ} {w : World} → Sound rows w → (bytes reply : List ℕ) → Sound rows (fed rows w bytes reply).world
fed-sound {rows} {w} s bytes reply = fed_by (λ (h : Hosted). Sound rows h.world) rows w bytes reply (λ _ _. fed_on-sound s bytes 0 0 reply) (λ _ _. s)

-- ---- a refused call leaves all
pub record Unchanged (h : Hosted) (w : World) (reply : List ℕ) : Type 0 where
  pub none-taken : h.taken ≡ 0
  pub none_written : h.written ≡ 0
  pub same-world : h.world ≡ w
  pub same-reply : h.reply ≡ reply

-- a stream's number is 0 or 7
pub fed_on-number : (rows : ℕ) (bytes : List ℕ) (taken sent : ℕ) (w : World) (reply : List ℕ) → ((fed_on rows bytes taken sent w reply).number ≡ 0) ⊎ ((fed_on rows bytes taken sent w reply).number ≡ 7)
unfolding fed_on
fed_on-number rows [] taken sent w reply = inl refl
fed_on-number rows (b ∷ bs) taken sent w reply =
    either (λ (h : Hosted). (h.number ≡ 0) ⊎ (h.number ≡ 7)) (leb (sent + length (answer_to b w)) (length reply))
    (fed_on-number rows bs (taken + 1) (sent + length (answer_to b w)) _ _) (inr refl)

pub fed-refused : (rows : ℕ) (w : World) (bytes reply : List ℕ) → ((fed rows w bytes reply).number ≡ 1) ⊎ ((fed rows w bytes reply).number ≡ 2) → Unchanged (fed rows w bytes reply) w reply
fed-refused rows w bytes reply =
    fed_by (λ (h : Hosted). (h.number ≡ 1) ⊎ (h.number ≡ 2) → Unchanged h w reply) rows w bytes reply
    (λ _ _ o. absurd (⊎_elim (λ z. ⊎_elim (λ a. omega arith) (λ a. omega arith) o) (λ z. ⊎_elim (λ a. omega arith) (λ a. omega arith) o) (fed_on-number rows bytes 0 0 w reply)))
    (λ _ _ _. record { none-taken = refl; none_written = refl; same-world = refl; same-reply = refl })
