-- The rows in which two memories differ: cell by cell, row by row, and where one row alone differs. Assumes nothing.
use Prim.Native.Nat.{ℕ, zero, suc, ◌+◌, ◌-◌, ◌*◌, ◌≤◌, ◌<◌}
use mathlib.Core.Path.{◌≡◌, refl, sym, ap, ap₂, ◌∙◌}
use mathlib.Core.Bool.{Bool, true, false, ◌||◌, not}
use mathlib.Core.Logic.{◌⊎◌, inl, inr}
use mathlib.Core.List.{List, [], ◌∷◌}
use native.Mathlib.Omega.{arith}
use native.Mathlib.Decide.{dec_lt, ℕ_discrete}
use lib.ListN.{length, get_or, take, drop, set, replicate, length-take, length-drop, length-replicate, get_or-replicate, drop_of_length-le}
use lib.Seq.{ext_get_or, get_or-take, get_or-drop, get_or-set_same, get_or-set_other, drop-drop, drop-cons}
use lib.Dec.{eqb}
use borrow.Author.Tests.{eqb-true, eq-eqb, not-false}
use Rattle.changes.specs.declared.Changes.{Changes}
use Rattle.changes.specs.Sets.{set_of, either}
use Rattle.changes.specs.Differing.{differs, differing, differing_both}
use Rattle.changes.specs.Rows.{row_of, only}
use Rattle.changes.proofs.Sets.{length-either, either-at, either-none, none-either, length-only, either-only}

-- ---- a test is true or false
pub true-or : (b : Bool) → (b ≡ true) ⊎ (b ≡ false)
true-or true = inl refl
true-or false = inr refl

clash : {b : Bool} → b ≡ true → b ≡ false → ⊥
clash {b} p q = let e : ◌≡◌ {A = ℕ} 0 1 = cc (p, q) in omega arith

-- ---- two lists
pub differs-same : (xs : List ℕ) → differs xs xs ≡ false
unfolding differs
differs-same [] = refl
differs-same (x ∷ xs) = ap₂ (λ (a b : Bool). not a || b) (eq-eqb x x refl) (differs-same xs)

pub or-neither : (a b : Bool) → a || b ≡ false → (a ≡ false) × (b ≡ false)
or-neither true b e = absurd (clash refl e)
or-neither false b e = (refl, e)

pub differs-equal : (xs ys : List ℕ) → differs xs ys ≡ false → xs ≡ ys
unfolding differs
differs-equal [] [] e = refl
differs-equal [] (y ∷ ys) e = absurd (clash refl e)
differs-equal (x ∷ xs) [] e = absurd (clash refl e)
differs-equal (x ∷ xs) (y ∷ ys) e =
    let o = or-neither (not (eqb x y)) (differs xs ys) e in
    ap₂ (λ (z : ℕ) (zs : List ℕ). z ∷ zs) (eqb-true x y (not-false _ o.0)) (differs-equal xs ys o.1)

-- one cell that differs is enough
pub differs-cell : (xs ys : List ℕ) (k : ℕ) → (get_or xs k 0 ≡ get_or ys k 0 → ⊥) → differs xs ys ≡ true
differs-cell xs ys k h = elim (true-or (differs xs ys)) [ inl e ↦ e | inr e ↦ absurd (h (ap (λ (zs : List ℕ). get_or zs k 0) (differs-equal xs ys e))) ]

-- ---- rows
pub get_or-row : (r : ℕ) (xs : List ℕ) (j : ℕ) → j < 80 → get_or (row_of r xs) j 0 ≡ get_or xs (r * 80 + j) 0
unfolding row_of
get_or-row r xs j h = get_or-take 80 (drop (r * 80) xs) j 0 h ∙ get_or-drop (r * 80) xs j 0

pub length-row : (r : ℕ) (xs : List ℕ) → r * 80 + 80 ≤ length xs → length (row_of r xs) ≡ 80
unfolding row_of
length-row r xs h = simp (length-take, length-drop) (omega arith)

-- a row is known by its cells
pub row_is : (r : ℕ) (xs zs : List ℕ) → r * 80 + 80 ≤ length xs → length zs ≡ 80 → ((j : ℕ) → j < 80 → get_or xs (r * 80 + j) 0 ≡ get_or zs j 0) → row_of r xs ≡ zs
row_is r xs zs h l e =
    let n = length-row r xs h in
    ext_get_or 0 (row_of r xs) zs (n ∙ sym l) (λ j m. get_or-row r xs j (omega arith) ∙ e j (omega arith))

pub rows_same : (q r : ℕ) (xs ys : List ℕ) → q * 80 + 80 ≤ length xs → r * 80 + 80 ≤ length ys → ((j : ℕ) → j < 80 → get_or xs (q * 80 + j) 0 ≡ get_or ys (r * 80 + j) 0) → row_of q xs ≡ row_of r ys
rows_same q r xs ys g h e = row_is q xs (row_of r ys) g (length-row r ys h) (λ j l. e j l ∙ sym (get_or-row r ys j l))

-- a row of what comes after the first row
row-of-drop : (r : ℕ) (xs : List ℕ) → row_of r (drop 80 xs) ≡ row_of (suc r) xs
unfolding row_of
row-of-drop r xs = let e : 80 + r * 80 ≡ suc r * 80 = omega arith in ap (take 80) (drop-drop (r * 80) 80 xs ∙ ap (λ (n : ℕ). drop n xs) e)

-- ---- the rows that differ
pub length-differing : (n : ℕ) (xs ys : List ℕ) → length (differing n xs ys) ≡ n
unfolding differing
length-differing zero xs ys = refl
length-differing (suc n) xs ys = ap suc (length-differing n (drop 80 xs) (drop 80 ys))

pub differing-at : (n : ℕ) (xs ys : List ℕ) (r : ℕ) → r < n → get_or (differing n xs ys) r false ≡ differs (row_of r xs) (row_of r ys)
unfolding differing row_of
differing-at zero xs ys r h = absurd (omega arith)
differing-at (suc n) xs ys zero h = refl
differing-at (suc n) xs ys (suc r) h = differing-at n (drop 80 xs) (drop 80 ys) r (omega arith) ∙ ap₂ differs (row-of-drop r xs) (row-of-drop r ys)

pub differing-none : (n : ℕ) (xs : List ℕ) → differing n xs xs ≡ replicate n false
unfolding differing
differing-none zero xs = refl
differing-none (suc n) xs = ap₂ (λ (b : Bool) (l : List Bool). b ∷ l) (differs-same (take 80 xs)) (differing-none n (drop 80 xs))

-- ---- memories of n rows that agree outside one row
pub record Beside (n r : ℕ) (xs ys : List ℕ) : Type 0 where
  pub here : r < n
  pub long : length xs ≡ n * 80
  pub same-long : length ys ≡ n * 80
  pub kept : (k : ℕ) → (k < r * 80) ⊎ (r * 80 + 80 ≤ k) → get_or xs k 0 ≡ get_or ys k 0

lt-or : (a b : ℕ) → (a < b) ⊎ (b ≤ a)
lt-or a b = elim (dec_lt a b) [ yes h ↦ inl h | no h ↦ inr (omega arith) ]

module _ {n r : ℕ} {xs ys : List ℕ} (b : Beside n r xs ys) where
  row-equal : row_of r xs ≡ row_of r ys → xs ≡ ys
  row-equal same =
      ext_get_or 0 xs ys (b.long ∙ sym b.same-long)
      (λ k l. elim (lt-or k (r * 80)) [
        | inl u ↦ b.kept k (inl u)
        | inr u ↦ elim (lt-or k (r * 80 + 80)) [
          | inr w ↦ b.kept k (inr w)
          | inl w ↦ (
              let j : r * 80 + (k - r * 80) ≡ k = omega arith in
              rw j at (sym (get_or-row r xs (k - r * 80) (omega arith)) ∙ ap (λ (zs : List ℕ). get_or zs (k - r * 80) 0) same ∙ get_or-row r ys (k - r * 80) (omega arith)))
        ]
      ])

  -- the memories differ where that row does
  pub row-differs : differs xs ys ≡ differs (row_of r xs) (row_of r ys)
  row-differs =
      elim (true-or (differs (row_of r xs) (row_of r ys))) [
        | inl e ↦ elim (true-or (differs xs ys)) [
          | inl f ↦ f ∙ sym e
          | inr f ↦ absurd (clash e (ap (λ (zs : List ℕ). differs (row_of r xs) (row_of r zs)) (sym (differs-equal xs ys f)) ∙ differs-same (row_of r xs)))
        ]
        | inr e ↦ ap (differs xs) (sym (row-equal (differs-equal _ _ e))) ∙ differs-same xs ∙ sym e
      ]

  -- so of all rows that one alone can differ
  pub differing-one : differing n xs ys ≡ only n r (differs xs ys)
  unfolding only
  differing-one =
      ext_get_or false (differing n xs ys) (only n r (differs xs ys)) (length-differing n xs ys ∙ sym (length-only n r (differs xs ys)))
      (λ q l.
      let m : q < n = omega (arith, length-differing n xs ys) in
      let t = length-replicate n false in
      differing-at n xs ys q m ∙ elim (ℕ_discrete q r) [
        | yes e ↦ rw e (sym row-differs ∙ sym (get_or-set_same (replicate n false) r (differs xs ys) false (omega (arith, b.here, t))))
        | no h ↦ (
            let same : row_of q xs ≡ row_of q ys = rows_same q q xs ys (omega (arith, b.long)) (omega (arith, b.same-long)) (λ j i. b.kept (q * 80 + j) (elim (lt-or q r) [ inl u ↦ inl (omega arith) | inr u ↦ inr (omega (arith, h)) ])) in
            ap (differs (row_of q xs)) (sym same) ∙ differs-same (row_of q xs) ∙ sym (get_or-set_other (replicate n false) r q (differs xs ys) false h ∙ get_or-replicate n q false false m))
      ])

-- ---- characters and attributes
module _ (n : ℕ) (chars attrs chars' attrs' : List ℕ) where
  pub length-differing_both : length (differing_both n chars attrs chars' attrs') ≡ n
  unfolding differing_both
  length-differing_both = length-either (differing n chars chars') (differing n attrs attrs') (length-differing n chars chars') (length-differing n attrs attrs')

  pub differing_both-at : (r : ℕ) → r < n → get_or (differing_both n chars attrs chars' attrs') r false ≡ differs (row_of r chars) (row_of r chars') || differs (row_of r attrs) (row_of r attrs')
  unfolding differing_both
  differing_both-at r h =
      either-at (differing n chars chars') (differing n attrs attrs') r (length-differing n chars chars' ∙ sym (length-differing n attrs attrs'))
      ∙ ap₂ (λ (a b : Bool). a || b) (differing-at n chars chars' r h) (differing-at n attrs attrs' r h)

-- nothing changes; the characters alone, the attributes alone, both in one row
pub differing_both-none : (n : ℕ) (chars attrs : List ℕ) → differing_both n chars attrs chars attrs ≡ replicate n false
unfolding differing_both
differing_both-none n chars attrs = ap₂ either (differing-none n chars) (differing-none n attrs) ∙ none-either (replicate n false) (length-replicate n false)

pub differing_both-chars : {n r : ℕ} {chars chars' : List ℕ} (attrs : List ℕ) → Beside n r chars chars' → differing_both n chars attrs chars' attrs ≡ only n r (differs chars chars')
unfolding differing_both
differing_both-chars {n} {r} {chars} {chars'} attrs b = ap₂ either (differing-one b) (differing-none n attrs) ∙ either-none (only n r (differs chars chars')) (length-only n r (differs chars chars'))

pub differing_both-attrs : {n r : ℕ} {attrs attrs' : List ℕ} (chars : List ℕ) → Beside n r attrs attrs' → differing_both n chars attrs chars attrs' ≡ only n r (differs attrs attrs')
unfolding differing_both
differing_both-attrs {n} {r} {attrs} {attrs'} chars b = ap₂ either (differing-none n chars) (differing-one b) ∙ none-either (only n r (differs attrs attrs')) (length-only n r (differs attrs attrs'))

pub differing_both-both : {n r : ℕ} {chars chars' attrs attrs' : List ℕ} → Beside n r chars chars' → Beside n r attrs attrs' → differing_both n chars attrs chars' attrs' ≡ only n r (differs chars chars' || differs attrs attrs')
unfolding differing_both
differing_both-both {n} {r} {chars} {chars'} {attrs} {attrs'} b d = ap₂ either (differing-one b) (differing-one d) ∙ either-only n r (differs chars chars') (differs attrs attrs')

-- ---- the invariant of a loop that goes through the rows from the last to the first: the set has the rows from r on, the first of them as its row 0
pub record Told (n : ℕ) (chars attrs chars' attrs' : List ℕ) (r : ℕ) (s : Changes) : Type 0 where
  pub told : s ≡ set_of (drop r (differing_both n chars attrs chars' attrs'))

module _ {n : ℕ} {chars attrs chars' attrs' : List ℕ} where
  pub told_none : {s : Changes} → s ≡ set_of (replicate 0 false) → Told n chars attrs chars' attrs' n s
  told_none e =
      let l = differing_both n chars attrs chars' attrs' in
      record { told = e ∙ ap set_of (sym (drop_of_length-le l {i = n} (omega (arith, length-differing_both n chars attrs chars' attrs')))) }

  -- a row more in front
  pub told_more : {q r : ℕ} {s t : Changes} {on : Bool} → Told n chars attrs chars' attrs' r s → q + 1 ≡ r → r ≤ n → n ≤ 96 → ((l : List Bool) → length l < 96 → s ≡ set_of l → t ≡ set_of (on ∷ l)) → on ≡ differs (row_of q chars) (row_of q chars') || differs (row_of q attrs) (row_of q attrs') → Told n chars attrs chars' attrs' q t
  told_more {q} {r} {on = on} i e h b front o =
      let l = differing_both n chars attrs chars' attrs' in
      let m : length l ≡ n = length-differing_both n chars attrs chars' attrs' in
      let k : length (drop r l) < 96 = simp length-drop (omega arith) in
      let d : on ≡ get_or l q false = o ∙ sym (differing_both-at n chars attrs chars' attrs' q (omega arith)) in
      let j : r ≡ suc q = omega arith in
      record { told = front (drop r l) k i.told ∙ ap₂ (λ (b : Bool) (k : ℕ). set_of (b ∷ drop k l)) d j ∙ ap set_of (sym (drop-cons l q false (omega arith))) }

  -- all rows are passed
  pub told-all : {r : ℕ} {s : Changes} → Told n chars attrs chars' attrs' r s → r ≡ 0 → s ≡ set_of (differing_both n chars attrs chars' attrs')
  told-all i e = i.told ∙ ap (λ (k : ℕ). set_of (drop k (differing_both n chars attrs chars' attrs'))) e

-- the code's two tests, one after the other
pub or-first : {a : Bool} (b : Bool) → a ≡ true → true ≡ a || b
or-first b e = sym (ap (λ (x : Bool). x || b) e)

pub or-last : (a : Bool) {b : Bool} → b ≡ true → true ≡ a || b
or-last true e = refl
or-last false e = sym e

pub or-second : {a b c : Bool} → a ≡ false → c ≡ b → c ≡ a || b
or-second {a} {b} {c} e d = d ∙ sym (ap (λ (x : Bool). x || b) e)

-- ---- a set of one row, by a test that tells whether the memory changes there
module _ {n r : ℕ} {s : Changes} {b : Bool} (e : s ≡ set_of (only n r b)) where
  pub chars-row : {chars chars' : List ℕ} (attrs : List ℕ) → Beside n r chars chars' → b ≡ differs chars chars' → s ≡ set_of (differing_both n chars attrs chars' attrs)
  chars-row attrs d o = e ∙ ap (λ (x : Bool). set_of (only n r x)) o ∙ ap set_of (sym (differing_both-chars attrs d))

  pub attrs-row : {attrs attrs' : List ℕ} (chars : List ℕ) → Beside n r attrs attrs' → b ≡ differs attrs attrs' → s ≡ set_of (differing_both n chars attrs chars attrs')
  attrs-row chars d o = e ∙ ap (λ (x : Bool). set_of (only n r x)) o ∙ ap set_of (sym (differing_both-attrs chars d))

  pub both-row : {chars chars' attrs attrs' : List ℕ} → Beside n r chars chars' → Beside n r attrs attrs' → b ≡ differs chars chars' || differs attrs attrs' → s ≡ set_of (differing_both n chars attrs chars' attrs')
  both-row d f o = e ∙ ap (λ (x : Bool). set_of (only n r x)) o ∙ ap set_of (sym (differing_both-both d f))

-- none
pub no_row : (n : ℕ) {s : Changes} (chars attrs : List ℕ) → s ≡ set_of (replicate n false) → s ≡ set_of (differing_both n chars attrs chars attrs)
no_row n chars attrs e = e ∙ ap set_of (sym (differing_both-none n chars attrs))

-- ---- one cell more that no edit before has changed
module _ (xs ys : List ℕ) (k v : ℕ) (long : length ys ≡ length xs) (fresh : get_or ys k 0 ≡ get_or xs k 0) where
  before-equal : xs ≡ set ys k v → ys ≡ xs
  before-equal e =
      ext_get_or 0 ys xs long
      (λ j l. elim (ℕ_discrete j k) [ yes q ↦ rw q fresh | no h ↦ sym (get_or-set_other ys k j v 0 h) ∙ ap (λ (zs : List ℕ). get_or zs j 0) (sym e) ])

  pub differs-then : differs xs (set ys k v) ≡ differs xs ys || differs ys (set ys k v)
  differs-then =
      elim (true-or (differs xs ys)) [
        | inl t ↦ elim (true-or (differs xs (set ys k v))) [
          | inl u ↦ u ∙ or-first _ t
          | inr u ↦ absurd (clash t (ap (differs xs) (before-equal (differs-equal xs (set ys k v) u)) ∙ differs-same xs))
        ]
        | inr t ↦ or-second t (ap (λ (zs : List ℕ). differs zs (set ys k v)) (differs-equal xs ys t))
      ]

-- so in one row the rows of both edits are those of the two at once
pub differing_both-then : {n r : ℕ} {xs ys zs : List ℕ} (attrs : List ℕ) → Beside n r xs ys → Beside n r ys zs → Beside n r xs zs → differs xs zs ≡ differs xs ys || differs ys zs → either (differing_both n xs attrs ys attrs) (differing_both n ys attrs zs attrs) ≡ differing_both n xs attrs zs attrs
differing_both-then {n} {r} {xs} {ys} {zs} attrs a b c e =
    ap₂ either (differing_both-chars attrs a) (differing_both-chars attrs b) ∙ either-only n r (differs xs ys) (differs ys zs) ∙ ap (only n r) (sym e) ∙ sym (differing_both-chars attrs c)
