-- The calls of a whole record: the steps of the loop over them. Assumes nothing.
use Prim.Native.Nat.{ℕ, suc, ◌+◌, ◌-◌, ◌*◌, ◌≤◌, ◌<◌}
use mathlib.Core.Path.{◌≡◌, refl, ap, sym, ◌∙◌}
use mathlib.Core.List.{List}
use native.Mathlib.Omega.{arith}
use lib.ListN.{length, length-replicate}
use borrow.Author.Tests.{eq-eqb, ne_eqb}
use Rattle.terminal.specs.State.{World}
use Rattle.records.specs.Records.{Part, delivered, record_part, ran, emptied, ran_from, record_ran}
use Rattle.records.proofs.Running.{part-written}
use Rattle.records.proofs.Rooms.{part_room}

pub whole-start : (rows : ℕ) (w : World) (r : List ℕ) → ran_from rows 81 w r 0 0 ≡ record_ran rows w r
unfolding record_ran
whole-start rows w r = refl

pub emptied-long : (rows : ℕ) → length (emptied rows) ≡ rows * 160
emptied-long rows = length-replicate {A = ℕ} (rows * 160) 0

-- ---- one call of several, from data byte `at` on, with any reply buffer of an emptied one's room: more follow after 7, and another number ends them
module _ (rows : ℕ) (w : World) (r : List ℕ) (at sum : ℕ) (reply : List ℕ) (room : length reply ≡ rows * 160) {p : Part} (e : p ≡ record_part rows w r at reply) where
  pub call-written : rows ≤ 96 → p.written ≤ rows * 160
  call-written f = omega (arith, part-written rows f w r at reply, ap (λ (k : Part). k.written) e)

  as-emptied : delivered p ≡ delivered (record_part rows w r at (emptied rows))
  as-emptied = ap delivered e ∙ part_room rows w r at reply (emptied rows) (room ∙ sym (emptied-long rows))

  pub turn : (calls : ℕ) → p.number ≡ 7 → ran_from rows calls p.world r p.at (sum + p.written) ≡ ran_from rows (suc calls) w r at sum
  unfolding ran_from
  turn calls s =
      let n = sym (ap (λ (k : Part). k.number) as-emptied) ∙ s in
      rw (eq-eqb (record_part rows w r at (emptied rows)).number 7 n) (ap (λ (k : Part). ran_from rows calls k.world r k.at (sum + k.written)) as-emptied)

  pub last : (calls : ℕ) → (p.number ≡ 7 → ⊥) → ran p.number (sum + p.written) p.world ≡ ran_from rows (suc calls) w r at sum
  unfolding ran_from
  last calls n =
      let m : (record_part rows w r at (emptied rows)).number ≡ 7 → ⊥ = λ z. n (ap (λ (k : Part). k.number) as-emptied ∙ z) in
      rw (ne_eqb (record_part rows w r at (emptied rows)).number 7 m) (ap (λ (k : Part). ran k.number (sum + k.written) k.world) as-emptied)

  module _ (calls : ℕ) (l : 0 < calls) where
    one_more : suc (calls - 1) ≡ calls
    one_more = omega arith

    pub whole-turn : p.number ≡ 7 → ran_from rows (calls - 1) p.world r p.at (sum + p.written) ≡ ran_from rows calls w r at sum
    whole-turn s = turn (calls - 1) s ∙ ap (λ (n : ℕ). ran_from rows n w r at sum) one_more

    pub whole-last : (p.number ≡ 7 → ⊥) → ran p.number (sum + p.written) p.world ≡ ran_from rows calls w r at sum
    whole-last n = last (calls - 1) n ∙ ap (λ (n : ℕ). ran_from rows n w r at sum) one_more

  -- after k calls of 81
  pub turn-after : (k : ℕ) → k < 81 → p.number ≡ 7 → ran_from rows (81 - (k + 1)) p.world r p.at (sum + p.written) ≡ ran_from rows (81 - k) w r at sum
  turn-after k l s =
      let e : 81 - (k + 1) ≡ (81 - k) - 1 = omega arith in
      ap (λ (n : ℕ). ran_from rows n p.world r p.at (sum + p.written)) e ∙ whole-turn (81 - k) (omega arith) s

pub whole-none : (rows calls : ℕ) (w : World) (r : List ℕ) (at sum : ℕ) → calls ≡ 0 → ran 7 sum w ≡ ran_from rows calls w r at sum
unfolding ran_from
whole-none rows calls w r at sum e = rw e
