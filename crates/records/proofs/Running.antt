-- What a part of a record is, by its form and its kind, and its counts. Assumes nothing.
use Prim.Native.Nat.{ℕ, zero, suc, ◌-◌, ◌≤◌, min}
use mathlib.Core.Path.{◌≡◌, ap, ◌∙◌}
use mathlib.Core.List.{List, [], ◌∷◌}
use native.Mathlib.Omega.{arith}
use lib.ListN.{length, take, drop, length-drop}
use lib.Seq.{take_all, drop-nil}
use lib.Dec.{eqb}
use borrow.Author.Tests.{eq-eqb, ne_eqb}
use Rattle.reading.proofs.Rules.{either}
use Rattle.terminal.specs.State.{World}
use Rattle.key.proofs.Kept.{key_counts}
use Rattle.streams.specs.Streams.{Hosted, fed}
use Rattle.streams.proofs.Kept.{fed_by}
use Rattle.streams.proofs.Streams.{fed_on-counts}
use Rattle.records.specs.Records.{kind_of, number_of, data_of, form_refusal, Part, part, host_part, key_part, post_part, record_part}

module _ (rows : ℕ) (w : World) (r : List ℕ) (at : ℕ) (reply : List ℕ) where
  -- another form does nothing
  pub other-form : {n : ℕ} → n ≡ form_refusal r → (n ≡ 0 → ⊥) → part n at 0 w reply ≡ record_part rows w r at reply
  unfolding record_part
  other-form {n} e z = rw (← e, ne_eqb n 0 z)

  module _ (f : form_refusal r ≡ 0) where
    pub host-record : kind_of r ≡ 72 → host_part rows w (data_of r) at reply ≡ record_part rows w r at reply
    unfolding record_part
    host-record k = rw (f, eq-eqb (kind_of r) 72 k)

    module _ (h : kind_of r ≡ 72 → ⊥) where
      pub key-record : kind_of r ≡ 75 → key_part rows w (number_of r) at reply ≡ record_part rows w r at reply
      unfolding record_part
      key-record k = rw (f, ne_eqb (kind_of r) 72 h, eq-eqb (kind_of r) 75 k)

      pub post-record : (kind_of r ≡ 75 → ⊥) → post_part rows w (number_of r) (data_of r) at reply ≡ record_part rows w r at reply
      unfolding record_part
      post-record k = rw (f, ne_eqb (kind_of r) 72 h, ne_eqb (kind_of r) 75 k)

-- ---- a call takes no more than there is, and writes no more than there is room for
pub record Within (bytes reply : List ℕ) (h : Hosted) : Type 0 where
  pub taken_in : h.taken ≤ length bytes
  pub written_in : h.written ≤ length reply

pub fed-within : (rows : ℕ) (w : World) (bytes reply : List ℕ) → Within bytes reply (fed rows w bytes reply)
fed-within rows w bytes reply =
    let c = fed_on-counts rows bytes 0 0 w reply (omega arith) in
    fed_by (Within bytes reply) rows w bytes reply (λ _ _. record { taken_in = omega (arith, c.taken-upto); written_in = c.sent-upto })
    (λ _ _. record { taken_in = omega arith; written_in = omega arith })

-- the bytes from `at` on, as a part of all
pub from_on : (bytes : List ℕ) (at : ℕ) {from : ℕ} → from ≡ min at (length bytes) → take (length bytes - from) (drop from bytes) ≡ drop at bytes
from_on bytes at {from} e = take_all (length bytes - from) (drop from bytes) (omega (arith, length-drop from bytes)) ∙ ap (λ (n : ℕ). drop n bytes) e ∙ upto at bytes
  where
    upto : (n : ℕ) (xs : List ℕ) → drop (min n (length xs)) xs ≡ drop n xs
    upto zero xs = let e : min 0 (length xs) ≡ 0 = omega arith in ap (λ (k : ℕ). drop k xs) e
    upto (suc n) [] = drop-nil (min (suc n) 0)
    upto (suc n) (x ∷ xs) = let e : min (suc n) (suc (length xs)) ≡ suc (min n (length xs)) = omega arith in ap (λ (k : ℕ). drop k (x ∷ xs)) e ∙ upto n xs

-- what a part writes fits into the room
pub part-written : (rows : ℕ) → rows ≤ 96 → (w : World) (r : List ℕ) (at : ℕ) (reply : List ℕ) → (record_part rows w r at reply).written ≤ length reply
unfolding record_part host_part key_part post_part
part-written rows f w r at reply =
    let P : Part → Type 0 = λ p. p.written ≤ length reply in
    either P (eqb (form_refusal r) 0)
    (either P (eqb (kind_of r) 72) (fed-within rows w (drop at (data_of r)) reply).written_in
    (either P (eqb (kind_of r) 75) (key_counts rows w reply (number_of r) f).written-upto (omega arith)))
    (omega arith)
