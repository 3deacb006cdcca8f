-- Every record leaves a sound world sound and a good state good; a record whose first call does not answer 7 is done with it. Assumes nothing.
use Prim.Native.Nat.{ℕ, zero, suc, ◌+◌, ◌≤◌}
use mathlib.Core.Path.{◌≡◌, ap, ◌∙◌}
use mathlib.Core.List.{List}
use native.Mathlib.Omega.{arith}
use lib.ListN.{drop}
use lib.Dec.{eqb}
use Rattle.reading.proofs.Rules.{either}
use Rattle.terminal.specs.State.{World, Good, Sound}
use Rattle.key.proofs.Kept.{key-sound, key-good}
use Rattle.post.proofs.Kept.{post-sound, post-good}
use Rattle.streams.proofs.Kept.{fed-sound, fed-good}
use Rattle.records.specs.Records.{kind_of, number_of, data_of, form_refusal, Part, host_part, key_part, post_part, record_part, Ran, ran, emptied, ran_from, record_ran}
use Rattle.records.proofs.Whole.{emptied-long, whole-last}

-- ---- one call, then the calls of a record
pub part_sound : {rows : ℕ} {w : World} → Sound rows w → (r : List ℕ) (at : ℕ) (reply : List ℕ) → Sound rows (record_part rows w r at reply).world
unfolding record_part host_part key_part post_part
part_sound {rows} {w} s r at reply =
    let P : Part → Type 0 = λ p. Sound rows p.world in
    either P (eqb (form_refusal r) 0)
    (either P (eqb (kind_of r) 72) (fed-sound s (drop at (data_of r)) reply)
    (either P (eqb (kind_of r) 75) (key-sound s reply (number_of r)) (post-sound s (data_of r) (number_of r))))
    s

from-sound : {rows : ℕ} {w : World} → Sound rows w → (r : List ℕ) (calls at sum : ℕ) → Sound rows (ran_from rows calls w r at sum).world
unfolding ran_from
from-sound {rows = rows} {w = w} s r zero at sum = s
from-sound {rows = rows} {w = w} s r (suc calls) at sum =
    let p = record_part rows w r at (emptied rows) in
    let v = part_sound s r at (emptied rows) in
    either (λ (x : Ran). Sound rows x.world) (eqb p.number 7) (from-sound {w = p.world} v r calls p.at (sum + p.written)) v

pub record-sound : {rows : ℕ} {w : World} → Sound rows w → (r : List ℕ) → Sound rows (record_ran rows w r).world
unfolding record_ran
record-sound s r = from-sound s r 81 0 0

-- ---- the same of the state alone, over any memory
module _ (rows : ℕ) (few : rows ≤ 96) (r : List ℕ) where
  pub part-good : (w : World) (at : ℕ) (reply : List ℕ) → Good rows w.state → Good rows (record_part rows w r at reply).world.state
  unfolding record_part host_part key_part post_part
  part-good w at reply g =
      let P : Part → Type 0 = λ p. Good rows p.world.state in
      either P (eqb (form_refusal r) 0)
      (either P (eqb (kind_of r) 72) (fed-good rows w (drop at (data_of r)) reply few g)
      (either P (eqb (kind_of r) 75) (key-good rows w reply (number_of r) few g) (post-good rows w (number_of r) (data_of r) g)))
      g

  from-good : (calls : ℕ) (w : World) (at sum : ℕ) → Good rows w.state → Good rows (ran_from rows calls w r at sum).world.state
  unfolding ran_from
  from-good zero w at sum g = g
  from-good (suc calls) w at sum g =
      let p = record_part rows w r at (emptied rows) in
      let v = part-good w at (emptied rows) g in
      either (λ (x : Ran). Good rows x.world.state) (eqb p.number 7) (from-good calls p.world p.at (sum + p.written) v) v

  pub record-good : (w : World) → Good rows w.state → Good rows (record_ran rows w r).world.state
  unfolding record_ran
  record-good w g = from-good 81 w 0 0 g

-- ---- one call is enough
pub whole-once : (rows : ℕ) (w : World) (r : List ℕ) {p : Part} → p ≡ record_part rows w r 0 (emptied rows) → (p.number ≡ 7 → ⊥)
    → ran p.number p.written p.world ≡ record_ran rows w r
unfolding record_ran
whole-once rows w r {p} e n =
    let z : p.written ≡ 0 + p.written = omega arith in
    ap (λ (k : ℕ). ran p.number k p.world) z ∙ whole-last rows w r 0 0 (emptied rows) (emptied-long rows) e 81 (omega arith) n
