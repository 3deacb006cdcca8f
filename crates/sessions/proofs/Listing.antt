-- Records of a part of a session: how bytes split into records, and the steps of the loop over them. Assumes nothing.
use Prim.Native.Nat.{ℕ, zero, suc, ◌+◌, ◌≤◌, ◌<◌, min}
use mathlib.Core.Path.{◌≡◌, refl, sym, ap, ◌∙◌}
use mathlib.Core.List.{List, [], ◌∷◌, ◌++◌}
use native.Mathlib.Omega.{arith}
use lib.ListN.{length, take, drop, length-drop}
use lib.Seq.{take_at, drop_at}
use borrow.Author.Tests.{le-leb, lt-leb}
use Rattle.cells.specs.Memory.{written}
use Rattle.terminal.specs.State.{World}
use Rattle.records.specs.Records.{Ran, record_ran}
use Rattle.sessions.specs.Session.{split_in, split, next, three}
use Rattle.sessions.specs.Parts.{Batch, batch, batch_on, records_run}

-- ---- splitting
split-in : (k j : ℕ) (xs : List ℕ) → length xs ≤ k → length xs ≤ j → split_in k xs ≡ split_in j xs
unfolding split_in
split-in zero zero xs p q = refl
split-in zero (suc j) [] p q = refl
split-in zero (suc j) (x ∷ xs) p q = absurd (omega arith)
split-in (suc k) zero [] p q = refl
split-in (suc k) zero (x ∷ xs) p q = absurd (omega arith)
split-in (suc k) (suc j) [] p q = refl
split-in (suc k) (suc j) (x ∷ xs) p q =
    let l = length-drop 84 (x ∷ xs) in
    ap (λ (rs : List (List ℕ)). take 84 (x ∷ xs) ∷ rs) (split-in k j (drop 84 (x ∷ xs)) (omega arith) (omega arith))

pub split-none : (xs : List ℕ) → length xs ≡ 0 → split xs ≡ []
unfolding split split_in
split-none [] e = refl
split-none (x ∷ xs) e = absurd (omega arith)

pub split-more : (xs : List ℕ) → 0 < length xs → split xs ≡ take 84 xs ∷ split (drop 84 xs)
unfolding split split_in
split-more [] h = absurd (omega arith)
split-more (x ∷ xs) h =
    let l = length-drop 84 (x ∷ xs) in
    ap (λ (rs : List (List ℕ)). take 84 (x ∷ xs) ∷ rs) (split-in (length xs) (length (drop 84 (x ∷ xs))) (drop 84 (x ∷ xs)) (omega arith) (omega arith))

-- ---- n elements, or all where there are fewer
pub take-least : (n : ℕ) (xs : List ℕ) → take (min n (length xs)) xs ≡ take n xs
take-least zero xs = let e : min 0 (length xs) ≡ 0 = omega arith in ap (λ (k : ℕ). take k xs) e
take-least (suc n) [] = let e : min (suc n) 0 ≡ 0 = omega arith in ap (λ (k : ℕ). take k []) e
take-least (suc n) (x ∷ xs) =
    let e : min (suc n) (suc (length xs)) ≡ suc (min n (length xs)) = omega arith in
    ap (λ (k : ℕ). take k (x ∷ xs)) e ∙ ap (λ (ys : List ℕ). x ∷ ys) (take-least n xs)

pub drop-least : (n : ℕ) (xs : List ℕ) → drop (min n (length xs)) xs ≡ drop n xs
drop-least zero xs = let e : min 0 (length xs) ≡ 0 = omega arith in ap (λ (k : ℕ). drop k xs) e
drop-least (suc n) [] = let e : min (suc n) 0 ≡ 0 = omega arith in ap (λ (k : ℕ). drop k []) e
drop-least (suc n) (x ∷ xs) =
    let e : min (suc n) (suc (length xs)) ≡ suc (min n (length xs)) = omega arith in
    ap (λ (k : ℕ). drop k (x ∷ xs)) e ∙ drop-least n xs

-- ---- the loop
pub listing_start : (rows : ℕ) (w : World) (number : ℕ) (bytes lines : List ℕ) → batch_on rows (split bytes) 0 0 number w lines ≡ records_run rows w number bytes lines
unfolding records_run
listing_start rows w number bytes lines = refl

module _ (rows : ℕ) (w : World) (rest : List ℕ) (taken to number : ℕ) (lines : List ℕ) where
  -- what is left after the record x with the bytes r
  abbrev pub onward : List ℕ → Ran → Batch
  onward r x =
      let line = three number x.answer x.replied in
      batch_on rows (split (drop 84 rest)) (taken + length r) (to + length line) (next number) x.world (written lines to line)

  pub step : 0 < length rest → to + 63 ≤ length lines → onward (take 84 rest) (record_ran rows w (take 84 rest)) ≡ batch_on rows (split rest) taken to number w lines
  unfolding batch_on
  step h l = rw (split-more rest h, le-leb (to + 63) (length lines) l)

  pub all-taken : length rest ≡ 0 → batch taken to number w lines ≡ batch_on rows (split rest) taken to number w lines
  unfolding batch_on
  all-taken e = rw (split-none rest e)

  pub no-more-room : 0 < length rest → length lines < to + 63 → batch taken to number w lines ≡ batch_on rows (split rest) taken to number w lines
  unfolding batch_on
  no-more-room h l = rw (split-more rest h, lt-leb (to + 63) (length lines) l)

-- one record, the first of the bytes left
module _ (rows : ℕ) (w : World) (rest r more : List ℕ) (taken to number : ℕ) (lines : List ℕ) (e : rest ≡ r ++ more) (l : length r ≡ min 84 (length rest)) where
  record_is : take 84 rest ≡ r
  record_is = sym (take-least 84 rest) ∙ ap (λ (k : ℕ). take k rest) (sym l) ∙ ap (take (length r)) e ∙ take_at r more (length r) refl

  others-are : drop 84 rest ≡ more
  others-are = sym (drop-least 84 rest) ∙ ap (λ (k : ℕ). drop k rest) (sym l) ∙ ap (drop (length r)) e ∙ drop_at r more (length r) refl

  pub listing-turn : 0 < length rest → to + 63 ≤ length lines
      → {x : Ran} → x ≡ record_ran rows w r
      → {n : ℕ} → n ≡ next number
      → {i : ℕ} → i ≡ to + length (three number x.answer x.replied)
      → {ls : List ℕ} → ls ≡ written lines to (three number x.answer x.replied)
      → batch_on rows (split more) (taken + length r) i n x.world ls ≡ batch_on rows (split rest) taken to number w lines
  listing-turn h room {x} ex {n} en {i} ei {ls} el =
      let F = onward rows w rest taken to number lines in
      let p : batch_on rows (split more) (taken + length r) i n x.world ls ≡ F r x = rw (others-are, en, ei, el) in
      p ∙ ap (F r) ex ∙ ap (λ (q : List ℕ). F q (record_ran rows w q)) (sym record_is) ∙ step rows w rest taken to number lines h room
