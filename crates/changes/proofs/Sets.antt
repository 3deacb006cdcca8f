-- Sets of rows: a good set is that of its rows and a list's set has its rows; and the lists themselves, the rows of both and a row alone. Assumes nothing.
use Prim.Native.Nat.{ℕ, zero, suc, ◌+◌, ◌*◌, ◌/◌, ◌%◌, ◌<◌, ◌^◌}
use mathlib.Core.Path.{◌≡◌, refl, sym, ap, ap₂, ◌∙◌}
use mathlib.Core.Bool.{Bool, true, false, ◌||◌, or-false, or_comm, or_assoc, and-eq-true_iff}
use mathlib.Core.List.{List, [], ◌∷◌}
use native.Mathlib.Omega.{arith}
use lib.Dec.{ltb}
use lib.ListN.{length, get_or, replicate, length-set, length-replicate}
use lib.Pow.{split}
use borrow.Author.Tests.{lt-ltb, ltb-true}
use Rattle.changes.specs.declared.Changes.{Changes}
use Rattle.changes.specs.Sets.{word_of, digits_of, whole, set_of, rows_of, no_spare, either}
use Rattle.changes.specs.Rows.{only}
use Rattle.changes.proofs.Digits.{word-digits, digits-word, word_lt, length_digits}

-- ---- a number's two words, and the set whose words they are
pub record Words (w low high : ℕ) : Type 0 where
  pub is-low : low ≡ w % 2 ^ 64
  pub is-high : high ≡ w / 2 ^ 64

pub words : {w : ℕ} (h l : ℕ) → l < 2 ^ 64 → w ≡ h * 2 ^ 64 + l → Words w l h
words h l b e = record { is-low = omega arith; is-high = omega arith }

pub by-words : {c : Changes} (l : List Bool) → Words (word_of l) c.low c.high → c ≡ set_of l
unfolding set_of
by-words {c} l w = ap₂ (λ (x y : ℕ). record { low = x; high = y }) w.is-low w.is-high

pub words_of : {c : Changes} (l : List Bool) → c ≡ set_of l → Words (word_of l) c.low c.high
unfolding set_of
words_of l e = record { is-low = ap (λ (c : Changes). c.low) e; is-high = ap (λ (c : Changes). c.high) e }

-- ---- every good set is that of its rows, and a list's set is good and has its rows
pub spare-in : (n : ℕ) (c : Changes) → no_spare n c ≡ true → (c.low < 2 ^ 64) × (whole c < 2 ^ n)
unfolding no_spare
spare-in n c e = let a = (and-eq-true_iff (ltb c.low (2 ^ 64)) _).0 e in (ltb-true _ _ a.0, ltb-true _ _ a.1)

pub set-rows : (n : ℕ) (c : Changes) → no_spare n c ≡ true → c ≡ set_of (rows_of n c)
unfolding rows_of
set-rows n c e = let p = spare-in n c e in by-words (digits_of n (whole c)) (words c.high c.low p.0 (word-digits n (whole c) p.1))

whole_set : (l : List Bool) → whole (set_of l) ≡ word_of l
unfolding set_of
whole_set l = let z = word_of l in split z 64

pub rows-set : (l : List Bool) {n : ℕ} → length l ≡ n → rows_of n (set_of l) ≡ l
unfolding rows_of
rows-set l {n} e = ap (digits_of n) (whole_set l) ∙ rw (← e) (digits-word l)

low-in : (l : List Bool) → (set_of l).low < 2 ^ 64
unfolding set_of
low-in l = omega arith

pub set-good : (l : List Bool) {n : ℕ} → length l ≡ n → no_spare n (set_of l) ≡ true
unfolding no_spare
set-good l {n} e =
    let b : whole (set_of l) < 2 ^ n = rw (whole_set l, ← e) (word_lt l) in
    rw (lt-ltb (set_of l).low _ (low-in l), lt-ltb (whole (set_of l)) _ b)

pub length-rows : (n : ℕ) (c : Changes) → length (rows_of n c) ≡ n
unfolding rows_of
length-rows n c = length_digits n (whole c)

-- ---- the rows of both
pub length-either : (l m : List Bool) {n : ℕ} → length l ≡ n → length m ≡ n → length (either l m) ≡ n
unfolding either
length-either [] m p q = q
length-either (a ∷ l) [] p q = p
length-either (a ∷ l) (b ∷ m) {n = zero} p q = absurd (omega arith)
length-either (a ∷ l) (b ∷ m) {n = suc n} p q = ap suc (length-either l m {n = n} (omega arith) (omega arith))

pub either-at : (l m : List Bool) (r : ℕ) → length l ≡ length m → get_or (either l m) r false ≡ get_or l r false || get_or m r false
unfolding either
either-at [] [] r e = refl
either-at [] (b ∷ m) r e = absurd (omega arith)
either-at (a ∷ l) [] r e = absurd (omega arith)
either-at (a ∷ l) (b ∷ m) zero e = refl
either-at (a ∷ l) (b ∷ m) (suc r) e = either-at l m r (omega arith)

pub either-assoc : (l m k : List Bool) → either (either l m) k ≡ either l (either m k)
unfolding either
either-assoc [] m k = refl
either-assoc (a ∷ l) [] k = refl
either-assoc (a ∷ l) (b ∷ m) [] = refl
either-assoc (a ∷ l) (b ∷ m) (c ∷ k) = ap₂ (λ (x : Bool) (n : List Bool). x ∷ n) (or_assoc a b c) (either-assoc l m k)

either-comm : (l m : List Bool) → either l m ≡ either m l
unfolding either
either-comm [] [] = refl
either-comm [] (b ∷ m) = refl
either-comm (a ∷ l) [] = refl
either-comm (a ∷ l) (b ∷ m) = ap₂ (λ (x : Bool) (n : List Bool). x ∷ n) (or_comm a b) (either-comm l m)

pub either-swap : (l m k : List Bool) → either (either l m) k ≡ either (either l k) m
either-swap l m k = either-assoc l m k ∙ ap (either l) (either-comm m k) ∙ sym (either-assoc l k m)

pub either-none : (l : List Bool) {n : ℕ} → length l ≡ n → either l (replicate n false) ≡ l
unfolding either
either-none [] {n = zero} e = refl
either-none [] {n = suc n} e = absurd (omega arith)
either-none (a ∷ l) {n = zero} e = absurd (omega arith)
either-none (a ∷ l) {n = suc n} e = ap₂ (λ (x : Bool) (m : List Bool). x ∷ m) (or-false a) (either-none l {n = n} (omega arith))

pub none-either : (l : List Bool) {n : ℕ} → length l ≡ n → either (replicate n false) l ≡ l
none-either l {n} e = either-comm (replicate n false) l ∙ either-none l e

pub all_either : (m : List Bool) {n : ℕ} → length m ≡ n → either (replicate n true) m ≡ replicate n true
unfolding either
all_either [] {n = zero} e = refl
all_either [] {n = suc n} e = absurd (omega arith)
all_either (b ∷ m) {n = zero} e = absurd (omega arith)
all_either (b ∷ m) {n = suc n} e = ap (◌∷◌ true) (all_either m {n = n} (omega arith))

-- ---- a row alone
pub only_none : (n r : ℕ) → only n r false ≡ replicate n false
unfolding only
only_none zero r = refl
only_none (suc n) zero = refl
only_none (suc n) (suc r) = ap (◌∷◌ false) (only_none n r)

pub length-only : (n r : ℕ) (on : Bool) → length (only n r on) ≡ n
unfolding only
length-only n r on = length-set (replicate n false) r on ∙ length-replicate n false

pub either-only : (n r : ℕ) (a b : Bool) → either (only n r a) (only n r b) ≡ only n r (a || b)
unfolding either only
either-only zero r a b = refl
either-only (suc n) zero a b = ap (◌∷◌ (a || b)) (none-either (replicate n false) (length-replicate n false))
either-only (suc n) (suc r) a b = ap (◌∷◌ false) (either-only n r a b)
