-- Numbers and lines as text: what `io::decimal` writes is a number in decimal, and what the writers of lines leave. Assumes nothing.
use Prim.Native.Nat.{ℕ, zero, suc, ◌+◌, ◌-◌, ◌/◌, ◌%◌, ◌^◌, ◌≤◌, ◌<◌}
use mathlib.Core.Path.{◌≡◌, refl, sym, ap, ◌∙◌}
use mathlib.Core.Bool.{Bool, true, false}
use mathlib.Core.List.{List, [], ◌∷◌, ◌++◌}
use native.Mathlib.Omega.{arith}
use native.Mathlib.Nat.{pow-suc, one-le-pow, pow-le-pow_right}
use lib.ListN.{length, take, set, length-append}
use lib.Seq.{length-take-le}
use lib.Dec.{leb}
use borrow.Author.Tests.{lt-ltb, le-ltb, le-leb, lt-leb, leb-true, leb-false}
use Rattle.io.specs.Digits.{last_digits, IsDigitCount}
use Rattle.cells.specs.Memory.{written}
use Rattle.cells.proofs.Splice.{written_twice}
use Rattle.replies.proofs.Writing.{none_yet, many_more, one_more, all-written}
use Rattle.cursor.specs.declared.Cursor.{Cursor}
use Rattle.sessions.specs.Session.{decimal_in, decimal, three, end_text}
use Rattle.sessions.specs.Parts.{ended, end_written}

-- ---- a number
decimal-in : (steps n k : ℕ) → n < steps → IsDigitCount 10 1 n k → decimal_in steps n ≡ last_digits 10 k n
unfolding decimal_in
decimal-in zero n k l f = absurd (omega arith)
decimal-in (suc steps) n zero l f = absurd (omega (arith, f.0))
decimal-in (suc steps) n (suc zero) l f =
    let h : n < 10 = omega (arith, f.1) in
    let e : n % 10 ≡ n = omega arith in
    rw (lt-ltb n 10 h, e, lt-ltb n 10 h)
decimal-in (suc steps) n (suc (suc k)) l f =
    let p = pow-suc 10 (suc k) in
    let q = pow-suc 10 k in
    let one = one-le-pow k 10 (omega arith) in
    let m : suc (suc k) - 1 ≡ suc k = omega arith in
    let least : 10 ^ suc k ≤ n = rw m at (f.2 (omega arith)) in
    let below : n < 10 ^ suc (suc k) = f.1 in
    let big : 10 ≤ n = omega (arith, q, one, least) in
    let d : n % 10 < 10 = omega arith in
    rw (le-ltb n 10 big, lt-ltb (n % 10) 10 d)
    (ap (λ (xs : List ℕ). xs ++ ((48 + n % 10) ∷ []))
    (decimal-in steps (n / 10) (suc k) (omega arith) (omega arith, omega (arith, below, p), λ h. let i : suc k - 1 ≡ k = omega arith in rw i (omega (arith, least, q)))))

module _ (n k : ℕ) (f : IsDigitCount 10 1 n k) where
  decimal-is : last_digits 10 k n ≡ decimal n
  unfolding decimal
  decimal-is = sym (decimal-in (suc n) n k (omega arith) f)

  -- a number below 2⁶⁴ has at most twenty digits
  pub few : n < 18446744073709551616 → k ≤ 20
  few l = by (leb k 20) refl
    where
      by : (t : Bool) → leb k 20 ≡ t → k ≤ 20
      by true e = leb-true k 20 e
      by false e =
          let h = leb-false k 20 e in
          absurd (omega (arith, f.2 (omega arith), pow-le-pow_right {n = 10} (omega arith) {i = 20} {j = k - 1} (omega arith)))

  -- its digits are the first k bytes of `text`
  module _ (text : List ℕ) (h : k ≤ length text) (t : take k text ≡ last_digits 10 k n) where
    pub text-length : length (take k text) ≡ k
    text-length = length-take-le k text h

    text-is : take k text ≡ decimal n
    text-is = t ∙ decimal-is

    pub digits-count : length (decimal n) ≡ k
    digits-count = sym (ap length text-is) ∙ text-length

    module _ (lines : List ℕ) (at behind : ℕ) (room : at + k + 1 ≤ length lines) where
      pub number-ends : at + k + 1 ≡ at + length (decimal n ++ (behind ∷ []))
      number-ends = simp length-append (omega (arith, digits-count))

      pub number_is : {ls : List ℕ} → ls ≡ written lines at (take k text) → set ls (at + k) behind ≡ written lines at (decimal n ++ (behind ∷ []))
      number_is {ls} e =
          let all = none_yet {xs = lines} {at = at} {bytes = decimal n ++ (behind ∷ [])} (omega (arith, number-ends)) in
          all-written (one_more (many_more (decimal n) all (e ∙ ap (written lines at) text-is) (ap (λ (i : ℕ). at + i) (sym digits-count))))

-- ---- three numbers, one after the other
module _ (a b c : ℕ) where
  abbrev first : List ℕ
  first = decimal a ++ (32 ∷ [])

  abbrev second : List ℕ
  second = decimal b ++ (32 ∷ [])

  abbrev third : List ℕ
  third = decimal c ++ (10 ∷ [])

  three-length : length (three a b c) ≡ length first + (length second + length third)
  unfolding three
  three-length = simp length-append

  module _ (lines : List ℕ) (at : ℕ) {i j k : ℕ} (ei : i ≡ at + length first) (ej : j ≡ i + length second) (ek : k ≡ j + length third) where
    pub three-ends : k ≡ at + length (three a b c)
    three-ends = omega (arith, three-length)

    pub three-is : k ≤ length lines → {xs ys zs : List ℕ} → xs ≡ written lines at first → ys ≡ written xs i second → zs ≡ written ys j third → zs ≡ written lines at (three a b c)
    unfolding three
    three-is l x y z =
        let all = none_yet {xs = lines} {at = at} {bytes = three a b c} (omega (arith, three-ends)) in
        z ∙ (many_more second (many_more first all x ei) y ej).same

-- ---- the end line
module _ (c : Cursor) (line : List ℕ) where
  pub no_room : length line < 67 → ended 0 line ≡ end_written c line
  unfolding end_written
  no_room h = rw (lt-leb 67 (length line) h)

  pub end_is : 67 ≤ length line → {n : ℕ} {xs ys : List ℕ} → n ≡ 4 + length (three c.row c.col c.top) → xs ≡ written line 0 (101 ∷ 110 ∷ 100 ∷ 32 ∷ [])
      → ys ≡ written xs 4 (three c.row c.col c.top) → ended n ys ≡ end_written c line
  unfolding end_written end_text
  end_is h {n} {xs} {ys} e x y =
      let text = three c.row c.col c.top in
      let z : ys ≡ written line 0 (101 ∷ 110 ∷ 100 ∷ 32 ∷ text) = y ∙ ap (λ (l : List ℕ). written l 4 text) x ∙ written_twice line 0 (101 ∷ 110 ∷ 100 ∷ 32 ∷ []) text (omega arith) in
      let m : n ≡ suc (suc (suc (suc (length text)))) = omega (arith, e) in
      rw (le-leb 67 (length line) h) (rw (z, m))
