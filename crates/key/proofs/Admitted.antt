-- A key that is not refused is done with its code and finds a sound world; a refused one is done with code 0, which leaves all. Assumes nothing.
use Prim.Native.Nat.{ℕ, ◌%◌, ◌≤◌, ◌<◌}
use mathlib.Core.Path.{◌≡◌, refl, sym, ap, ◌∙◌}
use mathlib.Core.Logic.{◌⊎◌, inl, inr}
use mathlib.Core.Bool.{Bool, true, false, cond}
use mathlib.Core.List.{List}
use native.Mathlib.Omega.{arith}
use lib.ListN.{length, set}
use lib.Dec.{eqb}
use borrow.Author.Tests.{eq-eqb, ne_eqb}
use Rattle.cells.proofs.Patch.{eq-or}
use Rattle.terminal.specs.State.{World, Sound}
use Rattle.reading.specs.Action as Action
use Rattle.terminal.specs.Acts.{acted}
use Rattle.terminal.specs.Noted.{noted}
use Rattle.key.specs.Keys.{key_action, enter, key_refusal, Keyed, key_done, keyed}
use Rattle.key.proofs.Kept.{KeyReady, key-ready}

-- code 0 is not listed
listed-not-zero : (w : World) (code : ℕ) → (key_action code w.state.insert ≡ Action.rest → ⊥) → code ≡ 0 → ⊥
unfolding key_action
listed-not-zero w code h z = h (ap (λ (c : ℕ). key_action c w.state.insert) z)

module _ (rows : ℕ) (w : World) (code room : ℕ) {n done : ℕ} (few : rows ≤ 96) (e : n ≡ key_refusal rows w code room) (d : done ≡ cond (eqb n 0) code 0) where
  -- the code and what its tests say, or 0
  abbrev Admitted : Type 0
  Admitted = ((n ≡ 0) × (done ≡ code) × KeyReady rows w code room) ⊎ ((n ≡ 0 → ⊥) × (done ≡ 0))

  admitted : Admitted
  admitted = elim (eq-or n 0) [
    | inl z ↦ inl (z, rw (eq-eqb n 0 z) at d, key-ready rows w code room few (sym e ∙ z))
    | inr z ↦ inr (z, rw (ne_eqb n 0 z) at d)
  ]

  pub admitted-sound : (done ≡ 0 → ⊥) → Sound rows w
  admitted-sound h = elim admitted [
    | inl r ↦ r.2.sound
    | inr r ↦ absurd (h r.1)
  ]

  pub admitted-room : done ≡ 273 → 0 < room
  admitted-room h = elim admitted [
    | inl r ↦ r.2.room_in (omega (arith, r.1))
    | inr r ↦ absurd (omega (arith, r.1))
  ]

module _ (rows : ℕ) (w : World) (reply : List ℕ) (code : ℕ) {n done : ℕ} (few : rows ≤ 96) (e : n ≡ key_refusal rows w code (length reply)) (d : done ≡ cond (eqb n 0) code 0) where
  -- what the call leaves
  abbrev Left : ℕ → Keyed
  Left c = record {
    number = n;
    written = cond (eqb c enter) 1 0;
    world = cond (eqb c 0) w (noted rows w (acted rows (key_action c w.state.insert) (c % 256) w));
    reply = cond (eqb c enter) (set reply 0 18) reply;
  }

  -- ENTER or not
  parted : (b : Bool) (v : World) →
      ◌≡◌ {A = Keyed} (record { number = 0; written = cond b 1 0; world = v; reply = cond b (set reply 0 18) reply })
      (cond b (record { number = 0; written = 1; world = v; reply = set reply 0 18 }) (record { number = 0; written = 0; world = v; reply = reply }))
  parted true v = refl
  parted false v = refl

  pub admitted-left : Left done ≡ keyed rows w reply code
  unfolding keyed key_done
  admitted-left = elim (admitted rows w code (length reply) few e d) [
    | inl r ↦
        ap Left r.1 ∙ rw (← e, r.0, ne_eqb code 0 (listed-not-zero w code r.2.listed))
        (parted (eqb code enter) (noted rows w (acted rows (key_action code w.state.insert) (code % 256) w)))
    | inr r ↦ ap Left r.1 ∙ rw (← e, ne_eqb n 0 r.0) refl
  ]
