-- A key keeps a good state good; a refused key leaves all, and one that is not refused finds a sound world. Assumes nothing.
use Prim.Native.Nat.{ℕ, ◌%◌, ◌≤◌, ◌<◌}
use mathlib.Core.Path.{◌≡◌, refl}
use mathlib.Core.Bool.{false, ◌&&◌, not}
use mathlib.Core.List.{List}
use native.Mathlib.Omega.{arith}
use lib.ListN.{length, drop, length-set}
use lib.Seq.{drop-set-lt}
use lib.Dec.{ltb, eqb}
use borrow.Author.Tests.{eqb-true, eqb-false, eq-eqb, ltb-false, not-false}
use Rattle.std.specs.Prelude.{is_none}
use Rattle.cells.specs.Range.{within}
use Rattle.cursor.specs.Cursor.{cell_of}
use Rattle.fields.specs.Fields.{marks, target}
use Rattle.reading.specs.Action as Action
use Rattle.reading.proofs.Rules.{either}
use Rattle.cells.proofs.Choices.{choose-by}
use Rattle.terminal.specs.State.{World, is_good, is_sized, barred, Good, Sound}
use Rattle.terminal.specs.Refusals.{first_refusal}
use Rattle.terminal.proofs.Refusals.{passed}
use Rattle.terminal.proofs.Good.{sound-in}
use Rattle.terminal.proofs.Kept.{acted-sound}
use Rattle.terminal.proofs.Noted.{noted-sound}
use Rattle.key.specs.Keys.{key_action, enter, disallows, key_refusal, Keyed, key_done, keyed}

-- ---- a key that is not refused
pub record KeyReady (rows : ℕ) (w : World) (code room : ℕ) : Type 0 where
  pub sound : Sound rows w
  pub listed : key_action code w.state.insert ≡ Action.rest → ⊥
  pub unbarred : barred w.state ≡ false
  pub room_in : code ≡ 273 → 0 < room

pub key-ready : (rows : ℕ) (w : World) (code room : ℕ) → rows ≤ 96 → key_refusal rows w code room ≡ 0 → KeyReady rows w code room
unfolding key_refusal first_refusal
key-ready rows w code room f e =
    let ms = marks w.attrs in
    let to = target ms (cell_of w.state.cursor) in
    let aims = within 32 126 code && w.state.format in
    let s = passed (not (is_sized rows w.chars w.attrs)) (λ z. omega arith) e in
    let g = passed (not (is_good rows w.state)) (λ z. omega arith) s.1 in
    let a = passed (eqb (key_action code w.state.insert) Action.rest) (λ z. omega arith) g.1 in
    let b = passed (barred w.state) (λ z. omega arith) a.1 in
    let n = passed (aims && is_none to) (λ z. omega arith) b.1 in
    let d = passed (aims && disallows ms code to) (λ z. omega arith) n.1 in
    let r = passed (eqb code enter && ltb room 1) (λ z. omega arith) d.1 in
    record {
      sound = sound-in f (not-false _ s.0) (not-false _ g.0);
      listed = eqb-false _ _ a.0;
      unbarred = b.0;
      room_in = λ h. let l = rw (eq-eqb code 273 h) at r.0 in omega (arith, ltb-false room 1 l);
    }

-- ---- a good state stays good, a sound world sound
module _ {rows : ℕ} {w : World} (s : Sound rows w) (reply : List ℕ) (code : ℕ) where
  pub done-sound : Sound rows (key_done rows w reply code).world
  unfolding key_done
  done-sound =
      let v = noted-sound w (acted-sound s (key_action code w.state.insert) (code % 256)) in
      either (λ (k : Keyed). Sound rows k.world) (eqb code enter) v v

  pub key-sound : Sound rows (keyed rows w reply code).world
  unfolding keyed
  key-sound = either (λ (k : Keyed). Sound rows k.world) (eqb (key_refusal rows w code (length reply)) 0) done-sound s

module _ (rows : ℕ) (w : World) (reply : List ℕ) (code : ℕ) where
  pub key-good : rows ≤ 96 → Good rows w.state → Good rows (keyed rows w reply code).world.state
  unfolding keyed
  key-good f g =
      choose-by (λ (k : Keyed). Good rows k.world.state) (eqb (key_refusal rows w code (length reply)) 0)
      (λ t. (done-sound (key-ready rows w code (length reply) f (eqb-true _ _ t)).sound reply code).good) (λ _. g)

  -- ---- the number is the refusal's
  done-number : (key_done rows w reply code).number ≡ 0
  unfolding key_done
  done-number = either (λ (k : Keyed). k.number ≡ 0) (eqb code enter) refl refl

  pub key-number : (keyed rows w reply code).number ≡ key_refusal rows w code (length reply)
  unfolding keyed
  key-number =
      choose-by (λ (k : Keyed). k.number ≡ key_refusal rows w code (length reply)) (eqb (key_refusal rows w code (length reply)) 0)
      (λ t. omega (arith, done-number, eqb-true (key_refusal rows w code (length reply)) 0 t)) (λ _. refl)

-- ---- a refused key leaves all
pub record Unchanged (k : Keyed) (w : World) (reply : List ℕ) : Type 0 where
  pub none_written : k.written ≡ 0
  pub same-world : k.world ≡ w
  pub same-reply : k.reply ≡ reply

pub key-refused : (rows : ℕ) (w : World) (reply : List ℕ) (code : ℕ) → ((keyed rows w reply code).number ≡ 0 → ⊥) → Unchanged (keyed rows w reply code) w reply
unfolding keyed
key-refused rows w reply code =
    either (λ (k : Keyed). (k.number ≡ 0 → ⊥) → Unchanged k w reply) (eqb (key_refusal rows w code (length reply)) 0)
    (λ n. absurd (n (done-number rows w reply code))) (λ _. record { none_written = refl; same-world = refl; same-reply = refl })

-- ---- the reply: what is written fits, and nothing else changes
pub record Counts (reply : List ℕ) (k : Keyed) : Type 0 where
  pub written-upto : k.written ≤ length reply
  pub reply-long : length k.reply ≡ length reply
  pub after : drop k.written k.reply ≡ drop k.written reply

pub key_counts : (rows : ℕ) (w : World) (reply : List ℕ) (code : ℕ) → rows ≤ 96 → Counts reply (keyed rows w reply code)
unfolding keyed key_done
key_counts rows w reply code f =
    let none : (k : Keyed) → k.written ≡ 0 → k.reply ≡ reply → Counts reply k =
    λ k n e. record { written-upto = omega arith; reply-long = rw e; after = rw e } in
    choose-by (Counts reply) (eqb (key_refusal rows w code (length reply)) 0)
    (λ t. choose-by (Counts reply) (eqb code enter)
    (λ c. record {
      written-upto = (key-ready rows w code (length reply) f (eqb-true _ _ t)).room_in (eqb-true _ _ c);
      reply-long = length-set reply 0 18;
      after = drop-set-lt 1 reply 0 18 (omega arith);
    })
    (λ _. none _ refl refl))
    (λ _. none _ refl refl)
