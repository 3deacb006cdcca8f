-- Lists of yes-or-no as numbers, the first the lowest digit: there and back, single digits, how many are set and the first of them. Assumes nothing.
use Prim.Native.Nat.{ℕ, zero, suc, ◌+◌, ◌-◌, ◌*◌, ◌/◌, ◌%◌, ◌<◌, ◌≤◌, ◌^◌, max}
use mathlib.Core.Path.{◌≡◌, refl, sym, ap, ap₂, ◌∙◌}
use mathlib.Core.Bool.{Bool, true, false, ◌||◌}
use mathlib.Core.List.{List, [], ◌∷◌}
use native.Mathlib.Omega.{arith}
use native.Mathlib.Nat.{pow-suc}
use lib.Dec.{eqb}
use lib.ListN.{length, get_or, replicate}
use lib.Count.{ones, ones_step, count_trailing_zeros, under}
use lib.Pow.{pow_pos, shr-shr}
use lib.Bits.{bit_or, or_step, or_zero_l, or_zero_r, block_half, block_odd, shifted_half}
use borrow.Author.Tests.{eq-eqb}
use Rattle.changes.specs.Sets.{digit, word_of, digits_of, either, count_true, first_true}
use Rattle.changes.specs.Rows.{only}

-- ---- a digit and the rest
digit_low : (b : Bool) (n : ℕ) → eqb ((digit b + 2 * n) % 2) 1 ≡ b
digit_low true n = let e : (1 + 2 * n) % 2 ≡ 1 = omega arith in eq-eqb ((1 + 2 * n) % 2) 1 e
digit_low false n = let e : (0 + 2 * n) % 2 ≡ 0 = omega arith in ap (λ (x : ℕ). eqb x 1) e

digit-high : (b : Bool) (n : ℕ) → (digit b + 2 * n) / 2 ≡ n
digit-high true n = omega arith
digit-high false n = omega arith

low_digit : (r : ℕ) → r < 2 → digit (eqb r 1) ≡ r
low_digit zero h = refl
low_digit (suc zero) h = refl
low_digit (suc (suc r)) h = absurd (omega arith)

pub digit_lt : (b : Bool) → digit b < 2
digit_lt true = omega arith
digit_lt false = omega arith

half : (n w : ℕ) → w < 2 ^ suc n → w / 2 < 2 ^ n
half n w h = omega (arith, pow-suc 2 n)

-- ---- a number of n digits is that of its digits, and a list has its number's digits
pub word-digits : (n w : ℕ) → w < 2 ^ n → word_of (digits_of n w) ≡ w
unfolding word_of digits_of
word-digits zero w h = omega arith
word-digits (suc n) w h = omega (arith, word-digits n (w / 2) (half n w h), low_digit (w % 2) (omega arith))

pub digits-word : (l : List Bool) → digits_of (length l) (word_of l) ≡ l
unfolding word_of digits_of
digits-word [] = refl
digits-word (b ∷ l) = ap₂ (λ (x : Bool) (n : ℕ). x ∷ digits_of (length l) n) (digit_low b (word_of l)) (digit-high b (word_of l)) ∙ ap (◌∷◌ b) (digits-word l)

pub word_lt : (l : List Bool) → word_of l < 2 ^ length l
unfolding word_of
word_lt [] = omega arith
word_lt (b ∷ l) = omega (arith, word_lt l, digit_lt b, pow-suc 2 (length l))

pub length_digits : (n w : ℕ) → length (digits_of n w) ≡ n
unfolding digits_of
length_digits zero w = refl
length_digits (suc n) w = ap suc (length_digits n (w / 2))

-- ---- one digit; and of two words the first k digits are the lower one's
pub digit_at : (n w r : ℕ) → r < n → get_or (digits_of n w) r false ≡ eqb (w / 2 ^ r % 2) 1
unfolding digits_of
digit_at zero w r h = absurd (omega arith)
digit_at (suc n) w zero h = let e : w ≡ w / 2 ^ 0 = omega arith in ap (λ (x : ℕ). eqb (x % 2) 1) e
digit_at (suc n) w (suc r) h = let e : 1 + r ≡ suc r = omega arith in digit_at n (w / 2) r (omega arith) ∙ ap (λ (x : ℕ). eqb (x % 2) 1) (shr-shr w 1 r ∙ ap (λ (k : ℕ). w / 2 ^ k) e)

pub digit-below : (k n h l r : ℕ) → r < k → get_or (digits_of n (h * 2 ^ k + l)) r false ≡ get_or (digits_of n l) r false
unfolding digits_of
digit-below zero n h l r b = absurd (omega arith)
digit-below (suc k) zero h l r b = refl
digit-below (suc k) (suc n) h l zero b = ap (λ (x : ℕ). eqb x 1) (block_odd h k l)
digit-below (suc k) (suc n) h l (suc r) b = ap (λ (w : ℕ). get_or (digits_of n w) r false) (block_half h k l) ∙ digit-below k n h (l / 2) r (omega arith)

-- ---- the number of the rows of both, of none, of one and of all
digit_or : (a b : Bool) → max (digit a) (digit b) ≡ digit (a || b)
digit_or true true = refl
digit_or true false = refl
digit_or false true = refl
digit_or false false = refl

pub word-either : (l m : List Bool) → bit_or (word_of l) (word_of m) ≡ word_of (either l m)
unfolding word_of either
word-either [] m = or_zero_l (word_of m)
word-either (a ∷ l) [] = or_zero_r _
word-either (a ∷ l) (b ∷ m) =
    let e : (digit a + 2 * word_of l) % 2 ≡ digit a = omega (arith, digit_lt a) in
    let f : (digit b + 2 * word_of m) % 2 ≡ digit b = omega (arith, digit_lt b) in
    or_step (digit a + 2 * word_of l) (digit b + 2 * word_of m)
    ∙ ap₂ (λ (x y : ℕ). bit_or x y * 2 + max ((digit a + 2 * word_of l) % 2) ((digit b + 2 * word_of m) % 2)) (digit-high a (word_of l)) (digit-high b (word_of m))
    ∙ ap₂ (λ (x y : ℕ). bit_or (word_of l) (word_of m) * 2 + max x y) e f
    ∙ omega (arith, word-either l m, digit_or a b)

pub word_none : (n : ℕ) → word_of (replicate n false) ≡ 0
unfolding word_of
word_none zero = refl
word_none (suc n) = omega (arith, word_none n)

pub word-one : (n r : ℕ) → r < n → word_of (only n r true) ≡ 2 ^ r
unfolding word_of only
word-one zero r h = absurd (omega arith)
word-one (suc n) zero h = omega (arith, word_none n)
word-one (suc n) (suc r) h = omega (arith, word-one n r (omega arith), pow-suc 2 r)

pub word-all : (n : ℕ) → 2 ^ n - 1 ≡ word_of (replicate n true)
unfolding word_of
word-all zero = refl
word-all (suc n) = omega (arith, word-all n, pow-suc 2 n, pow_pos n)

-- ---- how many
ones-zero : ones 0 ≡ 0
unfolding ones
ones-zero = refl

pub count-is : (n w : ℕ) → w < 2 ^ n → ones w ≡ count_true (digits_of n w)
unfolding digits_of count_true
count-is zero w h = let e : w ≡ 0 = omega arith in ap ones e ∙ ones-zero
count-is (suc n) w h = ones_step w ∙ omega (arith, count-is n (w / 2) (half n w h), low_digit (w % 2) (omega arith))

-- ---- the first: of the k digits looked at only the first n matter, where one of those is set
first-cons : (r : ℕ) (l : List Bool) → r < 2 → first_true (eqb r 1 ∷ l) ≡ under r (first_true l)
unfolding first_true
first-cons zero l h = refl
first-cons (suc zero) l h = refl
first-cons (suc (suc r)) l h = absurd (omega arith)

under_some : (r l : ℕ) {x y : ℕ} → l % 2 ≡ r → 0 < l → (0 < l / 2 → x ≡ y) → under r x ≡ under r y
under_some zero l e p h = ap suc (h (omega arith))
under_some (suc r) l e p h = refl

pub first-is : (n k w : ℕ) → n ≤ k → 0 < w → w < 2 ^ n → count_trailing_zeros k w ≡ first_true (digits_of n w)
unfolding digits_of count_trailing_zeros
first-is zero k w l p h = absurd (omega arith)
first-is (suc n) zero w l p h = absurd (omega arith)
first-is (suc n) (suc k) w l p h = under_some (w % 2) w refl p (λ q. first-is n k (w / 2) (omega arith) q (half n w h)) ∙ sym (first-cons (w % 2) (digits_of n (w / 2)) (omega arith))

pub first-none : (n : ℕ) → first_true (digits_of n 0) ≡ n
unfolding digits_of first_true
first-none zero = refl
first-none (suc n) = ap suc (first-none n)

-- of two words: one is set in the low k digits, or none is
pub first-low : (k n h l : ℕ) → 0 < l → l < 2 ^ k → k ≤ n → count_trailing_zeros k l ≡ first_true (digits_of n (h * 2 ^ k + l))
unfolding digits_of count_trailing_zeros
first-low zero n h l p b m = absurd (omega arith)
first-low (suc k) zero h l p b m = absurd (omega arith)
first-low (suc k) (suc n) h l p b m =
    let w = h * 2 ^ suc k + l in
    under_some (l % 2) l refl p (λ q. first-low k n h (l / 2) q (half k l b) (omega arith) ∙ ap (λ (w : ℕ). first_true (digits_of n w)) (sym (block_half h k l)))
    ∙ ap (λ (r : ℕ). under r (first_true (digits_of n (w / 2)))) (sym (block_odd h k l))
    ∙ sym (first-cons (w % 2) (digits_of n (w / 2)) (omega arith))

pub first-high : (k n h : ℕ) → k ≤ n → first_true (digits_of n (h * 2 ^ k)) ≡ k + first_true (digits_of (n - k) h)
unfolding digits_of first_true
first-high zero n h m = let e : h * 2 ^ 0 ≡ h = omega arith in let f : n - 0 ≡ n = omega arith in rw (e, f) (omega arith)
first-high (suc k) zero h m = absurd (omega arith)
first-high (suc k) (suc n) h m =
    let e : h * 2 ^ suc k ≡ h * 2 ^ suc k + 0 = omega arith in
    let o : h * 2 ^ suc k % 2 ≡ 0 = ap (λ (w : ℕ). w % 2) e ∙ block_odd h k 0 in
    let d : h * 2 ^ suc k / 2 ≡ h * 2 ^ k = shifted_half h k in
    let f : suc n - suc k ≡ n - k = omega arith in
    rw (o, d, f) (omega (arith, first-high k n h (omega arith)))
