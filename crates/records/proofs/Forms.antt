-- The form of a record: the tests in their order, what a well-formed record is, its number and its data. Assumes nothing.
use Prim.Native.Nat.{ℕ, zero, suc, ◌+◌, ◌-◌, ◌≤◌, ◌<◌}
use mathlib.Core.Path.{◌≡◌, refl, ap, sym, ◌∙◌}
use mathlib.Core.Bool.{Bool, true, false, cond, ◌&&◌, not, and-eq-true_iff}
use mathlib.Core.List.{List, [], ◌∷◌}
use native.Mathlib.Omega.{arith}
use lib.ListN.{length, take, drop, length-take}
use lib.Seq.{slice, take-nil}
use lib.Dec.{leb, ltb, eqb}
use Rattle.std.specs.List.{list_all}
use borrow.Author.Tests.{eqb-true, leb-true, eq-eqb, ne_eqb, lt-ltb, le-ltb, le-leb, lt-leb, not-false}
use Rattle.reading.proofs.Rules.{either}
use Rattle.terminal.specs.Refusals.{first_refusal}
use Rattle.terminal.proofs.Refusals.{passed}
use Rattle.records.specs.Records.{kind_of, length_of, number_of, data_of, zeros, fits_kind, is_formed, form_refusal}

-- ---- all bytes are 0
pub zeros-all : (bytes : List ℕ) → zeros bytes ≡ list_all (λ (b : ℕ). eqb b 0) bytes
unfolding zeros
zeros-all [] = refl
zeros-all (b ∷ bs) = ap (λ (t : Bool). eqb b 0 && t) (zeros-all bs)

-- ---- the tests of a record's form, in their order
module _ (r : List ℕ) where
  abbrev fitting : Bool
  fitting = fits_kind (kind_of r) (length_of r) (number_of r)

  abbrev blank : Bool
  blank = zeros (drop (4 + length_of r) r)

  by_tests : {a b c d : Bool} → ltb (length r) 84 ≡ false → eqb (length r) 84 ≡ a → leb (length_of r) 80 ≡ b → fitting ≡ c → blank ≡ d → cond (not (a && (b && (c && d)))) 11 0 ≡ form_refusal r
  unfolding form_refusal first_refusal
  by_tests l p q s t = sym (ap (λ (x : Bool). cond x 12 (cond (not (is_formed r)) 11 0)) l ∙ cc)

  pub short : length r < 84 → 12 ≡ form_refusal r
  unfolding form_refusal first_refusal
  short h = rw (lt-ltb (length r) 84 h)

  pub long : 84 ≤ length r → (length r ≡ 84 → ⊥) → 11 ≡ form_refusal r
  long h n = by_tests (le-ltb _ _ h) (ne_eqb _ _ n) refl refl refl

  module _ (e : length r ≡ 84) where
    pub oversize : 80 < length_of r → 11 ≡ form_refusal r
    oversize h = by_tests (le-ltb (length r) 84 (omega arith)) (eq-eqb _ _ e) (lt-leb _ _ h) refl refl

    pub unblank : length_of r ≤ 80 → blank ≡ false → 11 ≡ form_refusal r
    unblank h z = by fitting refl
      where
        by : (f : Bool) → fitting ≡ f → 11 ≡ form_refusal r
        by true f = by_tests (le-ltb (length r) 84 (omega arith)) (eq-eqb _ _ e) (le-leb _ _ h) f z
        by false f = by_tests (le-ltb (length r) 84 (omega arith)) (eq-eqb _ _ e) (le-leb _ _ h) f z

    pub fit : length_of r ≤ 80 → fitting ≡ true → {z : Bool} → blank ≡ z → cond (not z) 11 0 ≡ form_refusal r
    fit h f z = by_tests (le-ltb (length r) 84 (omega arith)) (eq-eqb _ _ e) (le-leb _ _ h) f z

    pub unfit : length_of r ≤ 80 → fitting ≡ false → 11 ≡ form_refusal r
    unfit h f = by_tests (le-ltb (length r) 84 (omega arith)) (eq-eqb _ _ e) (le-leb _ _ h) f refl

    pub fits : length_of r ≤ 80 → blank ≡ true → fitting ≡ true → form_refusal r ≡ 0
    fits h z f = sym (fit h f z)

  -- ---- whether its kind fits its length and its number
  pub host-fits : kind_of r ≡ 72 → number_of r ≡ 0 → fitting ≡ true
  host-fits k n = rw (k, n)

  pub key-fits : kind_of r ≡ 75 → length_of r ≡ 0 → fitting ≡ true
  key-fits k n = rw (k, n)

  pub post-fits : kind_of r ≡ 80 → fitting ≡ true
  post-fits k = rw k

  pub none-fits : (kind_of r ≡ 72 → number_of r ≡ 0 → ⊥) → (kind_of r ≡ 75 → length_of r ≡ 0 → ⊥) → (kind_of r ≡ 80 → ⊥) → fitting ≡ false
  none-fits h k p = by (eqb (kind_of r) 72) (eqb (kind_of r) 75) refl refl
    where
      by : (a b : Bool) → eqb (kind_of r) 72 ≡ a → eqb (kind_of r) 75 ≡ b → fitting ≡ false
      by true b e f = rw e (ne_eqb (number_of r) 0 (h (eqb-true _ _ e)))
      by false true e f = rw (e, f) (ne_eqb (length_of r) 0 (k (eqb-true _ _ f)))
      by false false e f = rw (e, f) (ne_eqb (kind_of r) 80 p)

  -- the number is 0, 11 or 12
  pub eleven : 84 ≤ length r → (form_refusal r ≡ 0 → ⊥) → form_refusal r ≡ 11
  unfolding form_refusal first_refusal
  eleven h = rw (le-ltb (length r) 84 h) (either (λ (n : ℕ). (n ≡ 0 → ⊥) → n ≡ 11) (not (is_formed r)) (λ _. refl) (λ z. absurd (z refl)))

  pub form-not-7 : form_refusal r ≡ 7 → ⊥
  unfolding form_refusal first_refusal
  form-not-7 =
      let P : ℕ → Type 0 = λ n. n ≡ 7 → ⊥ in
      either P (ltb (length r) 84) (λ z. omega arith) (either P (not (is_formed r)) (λ z. omega arith) (λ z. omega arith))

-- ---- a well-formed record
pub record Formed (r : List ℕ) : Type 0 where
  pub whole : length r ≡ 84
  pub size_in : length_of r ≤ 80
  pub kind_fits : fits_kind (kind_of r) (length_of r) (number_of r) ≡ true
  pub rest-zero : zeros (drop (4 + length_of r) r) ≡ true

pub formed : (r : List ℕ) → form_refusal r ≡ 0 → Formed r
unfolding form_refusal first_refusal
formed r e =
    let s = passed (ltb (length r) 84) (λ z. omega arith) e in
    let t = passed (not (is_formed r)) (λ z. omega arith) s.1 in
    let a = (and-eq-true_iff (eqb (length r) 84) _).0 (not-false _ t.0) in
    let b = (and-eq-true_iff (leb (length_of r) 80) _).0 a.1 in
    let d = (and-eq-true_iff (fitting r) (blank r)).0 b.1 in
    record { whole = eqb-true _ _ a.0; size_in = leb-true _ _ b.0; kind_fits = d.0; rest-zero = d.1 }

-- ---- the data, as a part of the record
take-drop : (n m t : ℕ) (xs : List ℕ) → t ≡ n + m → take m (drop n xs) ≡ slice n t xs
take-drop zero m t xs e = let q : m ≡ t = omega arith in ap (λ (k : ℕ). take k xs) q
take-drop (suc n) m zero xs e = absurd (omega arith)
take-drop (suc n) m (suc t) [] e = take-nil m
take-drop (suc n) m (suc t) (x ∷ xs) e = take-drop n m t xs (omega arith)

module _ (r : List ℕ) (end : ℕ) (e : end ≡ 4 + length_of r) where
  pub data-part : take (end - 4) (drop 4 r) ≡ data_of r
  data-part = let d : end - 4 ≡ length_of r = omega arith in ap (λ (n : ℕ). take n (drop 4 r)) d ∙ take-drop 4 (length_of r) (4 + length_of r) r refl

  pub data-short : length_of r ≤ 80 → length (take (end - 4) (drop 4 r)) ≤ 80
  data-short h = omega (arith, length-take (end - 4) (drop 4 r))
