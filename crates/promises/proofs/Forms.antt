-- The form of a record as facts: the tests of `form_refusal` pass exactly when a record is well formed. Assumes nothing.
use Prim.Native.Nat.{ℕ, zero, suc, ◌+◌, ◌-◌, ◌≤◌, ◌<◌}
use mathlib.Core.Path.{◌≡◌, refl, sym, ap, ◌∙◌}
use mathlib.Core.Logic.{◌⊎◌, inl, inr}
use mathlib.Core.Bool.{Bool, true, false, cond, and-eq-true_iff}
use mathlib.Core.List.{List, [], ◌∷◌}
use native.Mathlib.Omega.{arith}
use lib.ListN.{length, drop, get_or, length-drop}
use lib.Seq.{get_or-drop}
use lib.Dec.{eqb, ltb}
use borrow.Author.Tests.{eqb-true, eqb-false, eq-eqb, ne_eqb, ltb-true, ltb-false}
use Rattle.records.specs.Records.{kind_of, length_of, number_of, zeros, fits_kind, form_refusal}
use Rattle.records.proofs.Forms.{short, fit, eleven, formed}
use Rattle.promises.specs.Numbers.{Entry, ◌for◌}
use Rattle.promises.specs.Sessions.{ShortRecord, WellFormed, OtherForm}
use Rattle.promises.proofs.Tables.{Chosen, applies, passes}

-- ---- bytes that are all 0
zeros-at : (xs : List ℕ) → zeros xs ≡ true → (i : ℕ) → i < length xs → get_or xs i 0 ≡ 0
unfolding zeros
zeros-at [] z i l = absurd (omega arith)
zeros-at (x ∷ xs) z zero l = eqb-true x 0 ((and-eq-true_iff (eqb x 0) (zeros xs)).0 z).0
zeros-at (x ∷ xs) z (suc i) l = zeros-at xs ((and-eq-true_iff (eqb x 0) (zeros xs)).0 z).1 i (omega arith)

at-zeros : (xs : List ℕ) → ((i : ℕ) → i < length xs → get_or xs i 0 ≡ 0) → zeros xs ≡ true
unfolding zeros
at-zeros [] h = refl
at-zeros (x ∷ xs) h = (and-eq-true_iff (eqb x 0) (zeros xs)).1 (eq-eqb x 0 (h 0 (omega arith)), at-zeros xs (λ i l. h (suc i) (omega arith)))

-- ---- the kind
fits_in : (kind size number : ℕ) → fits_kind kind size number ≡ true → ((kind ≡ 72) × (number ≡ 0)) ⊎ (((kind ≡ 75) × (size ≡ 0)) ⊎ (kind ≡ 80))
fits_in kind size number = by (eqb kind 72) refl (eqb kind 75) refl
  where
    by : (a : Bool) → eqb kind 72 ≡ a → (b : Bool) → eqb kind 75 ≡ b → cond a (eqb number 0) (cond b (eqb size 0) (eqb kind 80)) ≡ true
        → ((kind ≡ 72) × (number ≡ 0)) ⊎ (((kind ≡ 75) × (size ≡ 0)) ⊎ (kind ≡ 80))
    by true p b q e = inl (eqb-true kind 72 p, eqb-true number 0 e)
    by false p true q e = inr (inl (eqb-true kind 75 q, eqb-true size 0 e))
    by false p false q e = inr (inr (eqb-true kind 80 e))

in-fits : (kind size number : ℕ) → ((kind ≡ 72) × (number ≡ 0)) ⊎ (((kind ≡ 75) × (size ≡ 0)) ⊎ (kind ≡ 80)) → fits_kind kind size number ≡ true
in-fits kind size number (inl (k, n)) = rw (eq-eqb kind 72 k) (eq-eqb number 0 n)
in-fits kind size number (inr (inl (k, n))) = rw (ne_eqb kind 72 (λ z. omega arith), eq-eqb kind 75 k) (eq-eqb size 0 n)
in-fits kind size number (inr (inr k)) = rw (ne_eqb kind 72 (λ z. omega arith), ne_eqb kind 75 (λ z. omega arith)) (eq-eqb kind 80 k)

-- ---- a record
module _ (r : List ℕ) where
  pub well-formed : form_refusal r ≡ 0 → WellFormed r
  well-formed e =
      let f = formed r e in
      let n = 4 + length_of r in
      record {
        whole = f.whole;
        length_in = f.size_in;
        kind_fits = fits_in (kind_of r) (length_of r) (number_of r) f.kind_fits;
        unused_zero = λ i l h.
            let d : i ≡ n + (i - n) = omega arith in
            ap (λ (k : ℕ). get_or r k 0) d ∙ sym (get_or-drop n r (i - n) 0) ∙ zeros-at (drop n r) f.rest-zero (i - n) (omega (arith, length-drop n r, f.whole));
      }

  pub formed-well : WellFormed r → form_refusal r ≡ 0
  formed-well f =
      let n = 4 + length_of r in
      let z : zeros (drop n r) ≡ true = at-zeros (drop n r) (λ i l. get_or-drop n r i 0 ∙ f.unused_zero (n + i) (omega arith) (omega (arith, length-drop n r, f.whole))) in
      sym (fit r f.whole f.length_in (in-fits (kind_of r) (length_of r) (number_of r) f.kind_fits) z)

  -- 12, then 11, then the tests after them
  pub form-chosen : {k : ℕ} {ls : List Entry} → (¬ (form_refusal r ≡ 0) → k ≡ form_refusal r) → (form_refusal r ≡ 0 → Chosen ls k)
      → Chosen ((12 for ShortRecord r) ∷ (11 for OtherForm r) ∷ ls) k
  form-chosen {k} {ls} refuses rest = by (ltb (length r) 84) refl
    where
      or : (u : Bool) → eqb (form_refusal r) 0 ≡ u → 84 ≤ length r → Chosen ((11 for OtherForm r) ∷ ls) k
      or true u l = let z = eqb-true _ _ u in passes (λ o. o (well-formed z)) (rest z)
      or false u l = let n = eqb-false _ _ u in applies (λ f. n (formed-well f)) (refuses n ∙ eleven r l n)

      by : (t : Bool) → ltb (length r) 84 ≡ t → Chosen ((12 for ShortRecord r) ∷ (11 for OtherForm r) ∷ ls) k
      by true t =
          let l = ltb-true (length r) 84 t in
          let e = short r l in
          applies l (refuses (λ z. omega arith) ∙ sym e)
      by false t = let l = ltb-false (length r) 84 t in passes (λ s. omega arith) (or (eqb (form_refusal r) 0) refl l)
