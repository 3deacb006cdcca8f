-- What the code does with the two words of a set, and the lists that they then stand for. Assumes nothing.
use Prim.Native.Nat.{ℕ, ◌+◌, ◌-◌, ◌*◌, ◌/◌, ◌%◌, ◌<◌, ◌≤◌, ◌^◌}
use mathlib.Core.Path.{◌≡◌, refl, sym, ap, ap₂, ◌∙◌}
use mathlib.Core.Bool.{Bool, true, false}
use mathlib.Core.List.{List, ◌∷◌}
use native.Mathlib.Omega.{arith}
use native.Mathlib.Decide.{dec_lt}
use native.Mathlib.Nat.{one-mul, mod-eq_of_lt}
use lib.Dec.{eqb, ltb}
use lib.ListN.{length, get_or, replicate}
use lib.Count.{ones, ones_cat, count_trailing_zeros}
use lib.Pow.{pow-lt, pow_mono, pow_pos, pow-add, shr-shr}
use lib.Bits.{bit_or, or_zero_r, or_mod, or_shr}
use borrow.Author.Tests.{lt-ltb, le-ltb}
use mir.Val.{bool_byte}
use Rattle.changes.specs.declared.Changes.{Changes}
use Rattle.changes.specs.Sets.{digit, word_of, digits_of, whole, set_of, rows_of, no_spare, either, count_true, first_true}
use Rattle.changes.specs.Rows.{only}
use Rattle.changes.proofs.Digits.{digit_lt, word_lt, digit_at, digit-below, word-either, word_none, word-one, word-all, count-is, first-is, first-none, first-low, first-high}
use Rattle.changes.proofs.Sets.{Words, words, words_of, spare-in, only_none}

-- the code's `1 << r`
pub shifted : (r : ℕ) → r < 64 → 1 * 2 ^ r % 2 ^ 64 ≡ 2 ^ r
shifted r h = ap (λ (x : ℕ). x % 2 ^ 64) (one-mul (2 ^ r)) ∙ mod-eq_of_lt (pow-lt h)

-- 64 digits are the first word's
high-power : (n : ℕ) → 64 ≤ n → 2 ^ n ≡ 2 ^ (n - 64) * 2 ^ 64
high-power n h = let e : n ≡ n - 64 + 64 = omega arith in ap (λ (k : ℕ). 2 ^ k) e ∙ pow-add 2 (n - 64) 64

-- the code's `on as u64`
pub as_digit : (on : Bool) → bool_byte on ≡ digit on
as_digit true = refl
as_digit false = refl

-- ---- no row, one row, all rows
pub none-words : (n : ℕ) → Words (word_of (replicate n false)) 0 0
none-words n = words 0 0 (omega arith) (word_none n ∙ omega arith)

pub one-low : (n r : ℕ) (on : Bool) → r < n → r < 64 → Words (word_of (only n r on)) (digit on * 2 ^ r % 2 ^ 64) 0
one-low n r true h l = rw (shifted r l) (words 0 (2 ^ r) (pow-lt l) (word-one n r h ∙ omega arith))
one-low n r false h l = rw (only_none n r) (words 0 (0 * 2 ^ r % 2 ^ 64) (omega arith) (word_none n ∙ omega arith))

pub one-high : (n r : ℕ) (on : Bool) → r < n → 64 ≤ r → r < 96 → Words (word_of (only n r on)) 0 (digit on * 2 ^ (r - 64) % 2 ^ 64)
one-high n r true h l m = rw (shifted (r - 64) (omega arith)) (words (2 ^ (r - 64)) 0 (omega arith) (word-one n r h ∙ omega (arith, high-power r l)))
one-high n r false h l m = rw (only_none n r) (words (0 * 2 ^ (r - 64) % 2 ^ 64) 0 (omega arith) (word_none n ∙ omega arith))

pub all-low : (n : ℕ) → n < 64 → Words (word_of (replicate n true)) (2 ^ n - 1) 0
all-low n h = words 0 (2 ^ n - 1) (omega (arith, pow_mono {i = n} {j = 63} (omega arith))) (sym (word-all n) ∙ omega arith)

pub all-high : (n : ℕ) → 64 ≤ n → Words (word_of (replicate n true)) (2 ^ 64 - 1) (2 ^ (n - 64) - 1)
all-high n h = words (2 ^ (n - 64) - 1) (2 ^ 64 - 1) (omega arith) (sym (word-all n) ∙ omega (arith, high-power n h, pow_pos (n - 64)))

-- ---- whether a row is set
module _ (n : ℕ) (c : Changes) (r : ℕ) (here : r < n) where
  pub has-low : r < 64 → eqb (c.low / 2 ^ r % 2) 1 ≡ get_or (rows_of n c) r false
  unfolding rows_of
  has-low h = sym (digit-below 64 n c.high c.low r h ∙ digit_at n c.low r here)

  pub has-high : 64 ≤ r → c.low < 2 ^ 64 → eqb (c.high / 2 ^ (r - 64) % 2) 1 ≡ get_or (rows_of n c) r false
  unfolding rows_of
  has-high h l =
      let e : c.high ≡ whole c / 2 ^ 64 = omega arith in
      let f : 64 + (r - 64) ≡ r = omega arith in
      ap (λ (w : ℕ). eqb (w % 2) 1) (ap (λ (w : ℕ). w / 2 ^ (r - 64)) e ∙ shr-shr (whole c) 64 (r - 64) ∙ ap (λ (k : ℕ). whole c / 2 ^ k) f) ∙ sym (digit_at n (whole c) r here)

-- ---- no spare bit, by the number of rows
spare-by : (n : ℕ) (c : Changes) → c.low < 2 ^ 64 → ltb (whole c) (2 ^ n) ≡ no_spare n c
unfolding no_spare
spare-by n c h = sym (rw (lt-ltb _ _ h))

pub spare-high : (n : ℕ) (c : Changes) → 64 ≤ n → c.low < 2 ^ 64 → ltb c.high (2 ^ (n - 64)) ≡ no_spare n c
spare-high n c h l =
    let e = high-power n h in
    elim (dec_lt c.high (2 ^ (n - 64))) [
      | yes u ↦ lt-ltb c.high (2 ^ (n - 64)) u ∙ sym (lt-ltb (whole c) (2 ^ n) (omega (arith, u, e, l)))
      | no u ↦ le-ltb c.high (2 ^ (n - 64)) (omega (arith, u)) ∙ sym (le-ltb (whole c) (2 ^ n) (omega (arith, u, e)))
    ] ∙ spare-by n c l

pub spare_low : (n : ℕ) (c : Changes) → c.high ≡ 0 → c.low < 2 ^ 64 → ltb c.low (2 ^ n) ≡ no_spare n c
spare_low n c z l = let e : c.low ≡ whole c = omega arith in ap (λ (w : ℕ). ltb w (2 ^ n)) e ∙ spare-by n c l

pub spare-none : (n : ℕ) (c : Changes) → n < 64 → (c.high ≡ 0 → ⊥) → c.low < 2 ^ 64 → false ≡ no_spare n c
spare-none n c h z l = sym (le-ltb (whole c) (2 ^ n) (omega (arith, z, pow_mono {i = n} {j = 63} (omega arith)))) ∙ spare-by n c l

-- ---- the code's or
pub joined : (l m : List Bool) {a b c d : ℕ} → Words (word_of l) a b → Words (word_of m) c d → Words (word_of (either l m)) (bit_or a c) (bit_or b d)
joined l m p q =
    record {
      is-low = ap₂ bit_or p.is-low q.is-low ∙ sym (or_mod (word_of l) (word_of m) 64) ∙ ap (λ (w : ℕ). w % 2 ^ 64) (word-either l m);
      is-high = ap₂ bit_or p.is-high q.is-high ∙ sym (or_shr (word_of l) (word_of m) 64) ∙ ap (λ (w : ℕ). w / 2 ^ 64) (word-either l m);
    }

-- with no row, any two words stay
pub joined-none : (c d : Changes) (n : ℕ) → d ≡ set_of (replicate n false) → ◌≡◌ {A = Changes} (record { low = bit_or c.low d.low; high = bit_or c.high d.high }) c
joined-none c d n e =
    let w = words_of (replicate n false) e in
    let l : d.low ≡ 0 = omega (arith, w.is-low, word_none n) in
    let h : d.high ≡ 0 = omega (arith, w.is-high, word_none n) in
    ap₂ (λ (x y : ℕ). record { low = bit_or c.low x; high = bit_or c.high y }) l h ∙ ap₂ (λ (x y : ℕ). record { low = x; high = y }) (or_zero_r c.low) (or_zero_r c.high)

-- ---- the code's doubling
low_fits : (low b : ℕ) → b < 2 → low % 2 ^ 63 * 2 + b < 2 ^ 64
low_fits low b h = omega arith

twice : (high low b : ℕ) → high < 2 ^ 32 → b + 2 * (high * 2 ^ 64 + low) ≡ (high % 2 ^ 63 * 2 + low / 2 ^ 63) * 2 ^ 64 + (low % 2 ^ 63 * 2 + b)
twice high low b h = let m : high % 2 ^ 63 ≡ high = omega arith in rw m (omega arith)

pub doubled : (b : Bool) (l : List Bool) → length l < 96 → {low high : ℕ} → Words (word_of l) low high → Words (word_of (b ∷ l)) (low % 2 ^ 63 * 2 + digit b) (high % 2 ^ 63 * 2 + low / 2 ^ 63)
unfolding word_of
doubled b l h {low} {high} w =
    let m : word_of l < 2 ^ 96 = omega (arith, word_lt l, pow_mono {i = length l} {j = 96} (omega arith)) in
    let e : word_of l ≡ high * 2 ^ 64 + low = omega (arith, w.is-low, w.is-high) in
    let u : high < 2 ^ 32 = omega (arith, w.is-high) in
    words (high % 2 ^ 63 * 2 + low / 2 ^ 63) (low % 2 ^ 63 * 2 + digit b) (low_fits low (digit b) (digit_lt b)) (ap (λ (n : ℕ). digit b + 2 * n) e ∙ twice high low (digit b) u)

-- ---- the report: how many, and the first, by the first word that has a row
module _ (n : ℕ) (c : Changes) (good : no_spare n c ≡ true) where
  pub report-count : ones c.low + ones c.high ≡ count_true (rows_of n c)
  unfolding rows_of
  report-count = let p = spare-in n c good in omega (arith, ones_cat 64 c.high c.low p.0, count-is n (whole c) p.1)

  -- a set in n rows of one word has no second
  no-high : n < 64 → c.high ≡ 0
  no-high h = let p = spare-in n c good in omega (arith, p.1, pow_mono {i = n} {j = 63} (omega arith))

  pub report-low : 0 < c.low → count_trailing_zeros 64 c.low ≡ first_true (rows_of n c)
  unfolding rows_of
  report-low h =
      let p = spare-in n c good in
      elim (dec_lt n 64) [
        | yes u ↦ (
            let e : c.low ≡ whole c = omega (arith, no-high u) in
            ap (count_trailing_zeros 64) e ∙ first-is n 64 (whole c) (omega (arith, u)) (omega arith) p.1)
        | no u ↦ first-low 64 n c.high c.low h p.0 (omega (arith, u))
      ]

  pub report-high : c.low ≡ 0 → 0 < c.high → n ≤ 128 → 64 + count_trailing_zeros 64 c.high ≡ first_true (rows_of n c)
  unfolding rows_of
  report-high z h b =
      let p = spare-in n c good in
      elim (dec_lt n 64) [
        | yes u ↦ absurd (omega (arith, no-high u))
        | no u ↦ (
            let m : 64 ≤ n = omega (arith, u) in
            let e : c.high * 2 ^ 64 ≡ whole c = omega arith in
            ap (λ (k : ℕ). 64 + k) (first-is (n - 64) 64 c.high (omega arith) h (omega (arith, p.1, high-power n m))) ∙ sym (first-high 64 n c.high m) ∙ ap (λ (w : ℕ). first_true (digits_of n w)) e)
      ]

  pub report-none : c.low ≡ 0 → c.high ≡ 0 → n ≡ first_true (rows_of n c)
  unfolding rows_of
  report-none z h = let e : 0 ≡ whole c = omega arith in sym (first-none n) ∙ ap (λ (w : ℕ). first_true (digits_of n w)) e
