-- The laws of the searches, each proved once: how a search joins, its steps for loops, and what it finds. Assumes nothing.
use Prim.Native.Nat.{ℕ, zero, suc, ◌+◌, ◌-◌, ◌≤◌, ◌<◌, suc-le-suc}
use mathlib.Core.Path.{◌≡◌, refl, ap, ap₂, sym, ◌∙◌, subst}
use mathlib.Core.Bool.{Bool, true, false, cond}
use mathlib.Core.List.{List, [], ◌∷◌, ◌++◌, map}
use mathlib.Core.Logic.{⊎_elim}
use native.Mathlib.Omega.{arith}
use native.Mathlib.Nat.{eq-or-lt_of_le}
use native.Mathlib.Numerals.{add-one}
use native.Mathlib.Decide.{dec_le}
use borrow.Author.Tests.{eq-eqb, ne_eqb, eqb-true, eqb-false}
use lib.Dec.{eqb}
use lib.ListN.{length, get_or, take, drop, length-take, length-drop, drop_of_length-le, take-append-drop}
use lib.Seq.{get_or-take, get_or-drop, slice, slice-cons, length-slice, take-take, drop-append-le, length-take-le, drop-cons, take-length, take_all}
use Rattle.std.specs.Option.{option_or}
use Rattle.std.specs.Prelude.{Option, Some, None, option_map}
use Rattle.cells.specs.Search.{first_of, last_of, count_of, nth_of, first_in, last_in, count_in}
use Rattle.cells.proofs.Finds.{NoneIn, NthIs, FindsFirst, FindsLast, FindsNth, FirstPlace, LastPlace}

pub not-both : {b : Bool} → b ≡ true → b ≡ false → ⊥
not-both s t = let z : ◌≡◌ {A = ℕ} 0 1 = cc in omega arith

-- ---- the second answer where the first is None
pub else-first : {a : Option ℕ} {i : ℕ} (b : Option ℕ) → a ≡ Some i → Some i ≡ option_or a b
else-first b e = sym (ap (λ (x : Option ℕ). option_or x b) e)

pub else-second : {a : Option ℕ} (b : Option ℕ) → a ≡ None → b ≡ option_or a b
else-second b e = sym (ap (λ (x : Option ℕ). option_or x b) e)

pub else-none : (a : Option ℕ) → option_or a None ≡ a
else-none (Some i) = refl
else-none None = refl

else-assoc : (a b c : Option ℕ) → option_or (option_or a b) c ≡ option_or a (option_or b c)
else-assoc (Some i) b c = refl
else-assoc None b c = refl

module _ {A : Type 0} where
  -- ---- a range that is empty, of one cell, and of two ranges
  slice-none : (lo hi : ℕ) (xs : List A) → hi ≤ lo → slice lo hi xs ≡ []
  slice-none lo hi xs h = drop_of_length-le (take hi xs) {i = lo} (omega (arith, length-take hi xs))

  slice-one : (d : A) (i : ℕ) (xs : List A) → i < length xs → slice i (i + 1) xs ≡ get_or xs i d ∷ []
  slice-one d i xs h =
      slice-cons i (i + 1) xs d (omega arith) (omega arith)
      ∙ ap (λ (r : List A). get_or xs i d ∷ r) (slice-none (suc i) (i + 1) xs (omega arith))

  slice-join : (lo mid hi : ℕ) (xs : List A) → lo ≤ mid → mid ≤ hi → hi ≤ length xs → slice lo hi xs ≡ slice lo mid xs ++ slice mid hi xs
  slice-join lo mid hi xs a b c =
      ap (drop lo) (sym (take-append-drop mid (take hi xs)) ∙ ap (λ (r : List A). r ++ slice mid hi xs) (take-take mid hi xs b))
      ∙ drop-append-le lo (take mid xs) (slice mid hi xs) (omega (arith, length-take-le mid xs (omega arith)))

  -- ---- the searches of two lists, one after the other
  module _ (p : A → Bool) where
    first-append : (xs ys : List A) (i : ℕ) → first_of p i (xs ++ ys) ≡ option_or (first_of p i xs) (first_of p (i + length xs) ys)
    unfolding first_of
    first-append [] ys i = ap (λ (k : ℕ). first_of p k ys) (omega arith)
    first-append (x ∷ xs) ys i = go (p x) (first-append xs ys (suc i))
      where
        go : (b : Bool) → first_of p (suc i) (xs ++ ys) ≡ option_or (first_of p (suc i) xs) (first_of p (suc i + length xs) ys)
            → cond b (Some i) (first_of p (suc i) (xs ++ ys)) ≡ option_or (cond b (Some i) (first_of p (suc i) xs)) (first_of p (i + suc (length xs)) ys)
        go true e = refl
        go false e = e ∙ ap (λ (k : ℕ). option_or (first_of p (suc i) xs) (first_of p k ys)) (omega arith)

    last-append : (xs ys : List A) (i : ℕ) → last_of p i (xs ++ ys) ≡ option_or (last_of p (i + length xs) ys) (last_of p i xs)
    unfolding last_of
    last-append [] ys i = ap (λ (k : ℕ). last_of p k ys) (omega arith) ∙ sym (else-none _)
    last-append (x ∷ xs) ys i =
        ap (λ (f : Option ℕ). option_or f (cond (p x) (Some i) None)) (last-append xs ys (suc i))
        ∙ else-assoc (last_of p (suc i + length xs) ys) (last_of p (suc i) xs) (cond (p x) (Some i) None)
        ∙ ap (λ (k : ℕ). option_or (last_of p k ys) (option_or (last_of p (suc i) xs) (cond (p x) (Some i) None))) (omega arith)

    count-append : (xs ys : List A) → count_of p (xs ++ ys) ≡ count_of p xs + count_of p ys
    unfolding count_of
    count-append [] ys = omega arith
    count-append (x ∷ xs) ys = go (p x) (count-append xs ys)
      where
        go : (b : Bool) → count_of p (xs ++ ys) ≡ count_of p xs + count_of p ys
            → cond b (suc (count_of p (xs ++ ys))) (count_of p (xs ++ ys)) ≡ cond b (suc (count_of p xs)) (count_of p xs) + count_of p ys
        go true e = omega arith
        go false e = e

    -- the n-th of two lists is sought in the second where the first has at most n
    nth-append : (xs ys : List A) (n i : ℕ) → count_of p xs ≤ n → nth_of p n i (xs ++ ys) ≡ nth_of p (n - count_of p xs) (i + length xs) ys
    unfolding count_of nth_of
    nth-append [] ys n i h = ap₂ (λ (m k : ℕ). nth_of p m k ys) (omega arith) (omega arith)
    nth-append (x ∷ xs) ys n i h = go (p x) (λ m l. nth-append xs ys m (suc i) l) h
      where
        go : (b : Bool) → ((m : ℕ) → count_of p xs ≤ m → nth_of p m (suc i) (xs ++ ys) ≡ nth_of p (m - count_of p xs) (suc i + length xs) ys)
            → cond b (suc (count_of p xs)) (count_of p xs) ≤ n
            → cond b (cond (eqb n 0) (Some i) (nth_of p (n - 1) (suc i) (xs ++ ys))) (nth_of p n (suc i) (xs ++ ys)) ≡ nth_of p (n - cond b (suc (count_of p xs)) (count_of p xs)) (i + suc (length xs)) ys
        go true ih l = rw (ne_eqb n 0 (λ e. omega arith)) (ih (n - 1) (omega arith) ∙ ap₂ (λ (m k : ℕ). nth_of p m k ys) (omega arith) (omega arith))
        go false ih l = ih n l ∙ ap (λ (k : ℕ). nth_of p (n - count_of p xs) k ys) (omega arith)

    -- ---- a range is cut in two: the first is that of the lower part, or of the upper where the lower has none; the last the other way round; the counts add up
    module _ (xs : List A) (lo mid hi : ℕ) (a : lo ≤ mid) (b : mid ≤ hi) (c : hi ≤ length xs) where
      middle : lo + length (slice lo mid xs) ≡ mid
      middle = omega (arith, length-slice lo mid xs (omega arith))

      pub first-join : first_in p xs lo hi ≡ option_or (first_in p xs lo mid) (first_in p xs mid hi)
      unfolding first_in
      first-join =
          ap (first_of p lo) (slice-join lo mid hi xs a b c)
          ∙ first-append (slice lo mid xs) (slice mid hi xs) lo
          ∙ ap (λ (k : ℕ). option_or (first_of p lo (slice lo mid xs)) (first_of p k (slice mid hi xs))) middle

      pub last-join : last_in p xs lo hi ≡ option_or (last_in p xs mid hi) (last_in p xs lo mid)
      unfolding last_in
      last-join =
          ap (last_of p lo) (slice-join lo mid hi xs a b c)
          ∙ last-append (slice lo mid xs) (slice mid hi xs) lo
          ∙ ap (λ (k : ℕ). option_or (last_of p k (slice mid hi xs)) (last_of p lo (slice lo mid xs))) middle

      pub count-join : count_in p xs lo hi ≡ count_in p xs lo mid + count_in p xs mid hi
      unfolding count_in
      count-join = ap (count_of p) (slice-join lo mid hi xs a b c) ∙ count-append (slice lo mid xs) (slice mid hi xs)

      -- where one part has none, the search of the other is the search of all
      pub first_past : first_in p xs lo mid ≡ None → first_in p xs lo hi ≡ first_in p xs mid hi
      first_past e = first-join ∙ sym (else-second (first_in p xs mid hi) e)

      pub first_short : first_in p xs mid hi ≡ None → first_in p xs lo hi ≡ first_in p xs lo mid
      first_short e = first-join ∙ ap (option_or (first_in p xs lo mid)) e ∙ else-none (first_in p xs lo mid)

      pub last-past : last_in p xs mid hi ≡ None → last_in p xs lo hi ≡ last_in p xs lo mid
      last-past e = last-join ∙ sym (else-second (last_in p xs lo mid) e)

      pub last-short : last_in p xs lo mid ≡ None → last_in p xs lo hi ≡ last_in p xs mid hi
      last-short e = last-join ∙ ap (option_or (last_in p xs mid hi)) e ∙ else-none (last_in p xs mid hi)

    -- ---- past the memory's end there is nothing to find
    module _ (xs : List A) (lo hi : ℕ) (h : length xs ≤ hi) where
      pub first-cut : first_in p xs lo hi ≡ first_in p xs lo (length xs)
      unfolding first_in
      first-cut = ap (λ (l : List A). first_of p lo (drop lo l)) (take_all hi xs h ∙ sym (take-length xs))

      pub last-cut : last_in p xs lo hi ≡ last_in p xs lo (length xs)
      unfolding last_in
      last-cut = ap (λ (l : List A). last_of p lo (drop lo l)) (take_all hi xs h ∙ sym (take-length xs))

      pub count_cut : count_in p xs lo hi ≡ count_in p xs lo (length xs)
      unfolding count_in
      count_cut = ap (λ (l : List A). count_of p (drop lo l)) (take_all hi xs h ∙ sym (take-length xs))

    -- ---- an empty range
    module _ (xs : List A) (lo hi : ℕ) (h : hi ≤ lo) where
      pub first_done : first_in p xs lo hi ≡ None
      unfolding first_in first_of
      first_done = ap (first_of p lo) (slice-none lo hi xs h)

      pub last_done : last_in p xs lo hi ≡ None
      unfolding last_in last_of
      last_done = ap (last_of p lo) (slice-none lo hi xs h)

      pub count-done : count_in p xs lo hi ≡ 0
      unfolding count_in count_of
      count-done = ap (count_of p) (slice-none lo hi xs h)

    module _ (d : A) (xs : List A) where
      -- ---- a range of one cell
      first-one-cell : (i : ℕ) → i < length xs → first_in p xs i (i + 1) ≡ cond (p (get_or xs i d)) (Some i) None
      unfolding first_in first_of
      first-one-cell i h = ap (first_of p i) (slice-one d i xs h)

      last-one-cell : (i : ℕ) → i < length xs → last_in p xs i (i + 1) ≡ cond (p (get_or xs i d)) (Some i) None
      unfolding last_in last_of
      last-one-cell i h = ap (last_of p i) (slice-one d i xs h)

      count-one-cell : (i : ℕ) → i < length xs → count_in p xs i (i + 1) ≡ cond (p (get_or xs i d)) 1 0
      unfolding count_in count_of
      count-one-cell i h = ap (count_of p) (slice-one d i xs h)

      -- ---- one step of the search for the first, at the lower end
      pub first-hit : (lo hi : ℕ) → lo < hi → hi ≤ length xs → p (get_or xs lo d) ≡ true → first_in p xs lo hi ≡ Some lo
      first-hit lo hi h l t =
          first-join xs lo (lo + 1) hi (omega arith) (omega arith) l
          ∙ ap (λ (f : Option ℕ). option_or f (first_in p xs (lo + 1) hi)) (first-one-cell lo (omega arith) ∙ ap (λ (b : Bool). cond b (Some lo) None) t)

      pub first-miss : (lo hi : ℕ) → lo < hi → hi ≤ length xs → p (get_or xs lo d) ≡ false → first_in p xs lo hi ≡ first_in p xs (lo + 1) hi
      first-miss lo hi h l t =
          first_past xs lo (lo + 1) hi (omega arith) (omega arith) l
          (first-one-cell lo (omega arith) ∙ ap (λ (b : Bool). cond b (Some lo) None) t)

      -- ---- one step of the search for the last, and of the count, at the upper end
      pub last-hit : (lo i : ℕ) → lo ≤ i → i < length xs → p (get_or xs i d) ≡ true → last_in p xs lo (i + 1) ≡ Some i
      last-hit lo i h l t =
          last-join xs lo i (i + 1) h (omega arith) (omega arith)
          ∙ ap (λ (f : Option ℕ). option_or f (last_in p xs lo i)) (last-one-cell i l ∙ ap (λ (b : Bool). cond b (Some i) None) t)

      pub last-miss : (lo i : ℕ) → lo ≤ i → i < length xs → p (get_or xs i d) ≡ false → last_in p xs lo (i + 1) ≡ last_in p xs lo i
      last-miss lo i h l t =
          last-past xs lo i (i + 1) h (omega arith) (omega arith)
          (last-one-cell i l ∙ ap (λ (b : Bool). cond b (Some i) None) t)

      pub count-hit : (lo i : ℕ) → lo ≤ i → i < length xs → p (get_or xs i d) ≡ true → count_in p xs lo (i + 1) ≡ count_in p xs lo i + 1
      count-hit lo i h l t =
          count-join xs lo i (i + 1) h (omega arith) (omega arith)
          ∙ ap (λ (k : ℕ). count_in p xs lo i + k) (count-one-cell i l ∙ ap (λ (b : Bool). cond b 1 0) t)

      pub count-miss : (lo i : ℕ) → lo ≤ i → i < length xs → p (get_or xs i d) ≡ false → count_in p xs lo (i + 1) ≡ count_in p xs lo i
      count-miss lo i h l t =
          count-join xs lo i (i + 1) h (omega arith) (omega arith)
          ∙ ap (λ (k : ℕ). count_in p xs lo i + k) (count-one-cell i l ∙ ap (λ (b : Bool). cond b 1 0) t)
          ∙ (omega arith)

      -- ---- one step of the search for the n-th, along what is left
      pub nth-done : (n i : ℕ) → length xs ≤ i → nth_of p n i (drop i xs) ≡ None
      unfolding nth_of
      nth-done n i h = ap (nth_of p n i) (drop_of_length-le xs h)

      nth-step : (n i : ℕ) → i < length xs
          → nth_of p n i (drop i xs) ≡ cond (p (get_or xs i d)) (cond (eqb n 0) (Some i) (nth_of p (n - 1) (i + 1) (drop (i + 1) xs))) (nth_of p n (i + 1) (drop (i + 1) xs))
      unfolding nth_of
      nth-step n i h = ap (nth_of p n i) (drop-cons xs i d h) ∙ rw (add-one i)

      pub nth-hit : (n i : ℕ) → i < length xs → p (get_or xs i d) ≡ true → n ≡ 0 → nth_of p n i (drop i xs) ≡ Some i
      nth-hit n i h t e = nth-step n i h ∙ rw (t, eq-eqb n 0 e)

      pub nth-pass : (n i : ℕ) → i < length xs → p (get_or xs i d) ≡ true → (n ≡ 0 → ⊥) → nth_of p n i (drop i xs) ≡ nth_of p (n - 1) (i + 1) (drop (i + 1) xs)
      nth-pass n i h t e = nth-step n i h ∙ rw (t, ne_eqb n 0 e)

      pub nth-miss : (n i : ℕ) → i < length xs → p (get_or xs i d) ≡ false → nth_of p n i (drop i xs) ≡ nth_of p n (i + 1) (drop (i + 1) xs)
      nth-miss n i h t = nth-step n i h ∙ rw t

      -- and past a range that has at most n
      pub nth_past : (n i j : ℕ) → i ≤ j → j ≤ length xs → count_in p xs i j ≤ n → nth_of p n i (drop i xs) ≡ nth_of p (n - count_in p xs i j) j (drop j xs)
      unfolding count_in
      nth_past n i j a b h =
          ap (nth_of p n i) (ap (drop i) (sym (take-append-drop j xs)) ∙ drop-append-le i (take j xs) (drop j xs) (omega (arith, length-take-le j xs b)))
          ∙ nth-append (slice i j xs) (drop j xs) n i h
          ∙ ap (λ (k : ℕ). nth_of p (n - count_of p (slice i j xs)) k (drop j xs)) (omega (arith, length-slice i j xs b))

-- ---- a loop's invariant: from lo up to i nothing passes, so the search from lo is the search from i
pub record Upto {A : Type 0} (p : A → Bool) (d : A) (xs : List A) (lo hi i : ℕ) : Type 0 where
  pub fits : hi ≤ length xs
  pub same : first_in p xs lo hi ≡ first_in p xs i hi

module _ {A : Type 0} {p : A → Bool} {d : A} {xs : List A} {lo hi : ℕ} where
  pub upto-start : {i : ℕ} → hi ≤ length xs → lo ≡ i → Upto p d xs lo hi i
  upto-start h e = record { fits = h; same = ap (λ (k : ℕ). first_in p xs k hi) e }

  pub upto-move : {i j : ℕ} → Upto p d xs lo hi i → i ≡ j → Upto p d xs lo hi j
  upto-move u e = record { fits = u.fits; same = u.same ∙ ap (λ (k : ℕ). first_in p xs k hi) e }

  pub upto_next : {i j : ℕ} → Upto p d xs lo hi i → i < hi → p (get_or xs i d) ≡ false → i + 1 ≡ j → Upto p d xs lo hi j
  upto_next {i} u h t e = upto-move (record { fits = u.fits; same = u.same ∙ first-miss p d xs i hi h u.fits t }) e

  pub upto-hit : {i : ℕ} → Upto p d xs lo hi i → i < hi → p (get_or xs i d) ≡ true → Some i ≡ first_in p xs lo hi
  upto-hit {i} u h t = sym (u.same ∙ first-hit p d xs i hi h u.fits t)

  pub upto-end : {i : ℕ} → Upto p d xs lo hi i → hi ≤ i → None ≡ first_in p xs lo hi
  upto-end {i} u h = sym (u.same ∙ first_done p xs i hi h)

-- ---- the same downwards: from i up to hi nothing passes
pub record Downto {A : Type 0} (p : A → Bool) (d : A) (xs : List A) (lo hi i : ℕ) : Type 0 where
  pub fits : i ≤ length xs
  pub same : last_in p xs lo hi ≡ last_in p xs lo i

module _ {A : Type 0} {p : A → Bool} {d : A} {xs : List A} {lo hi : ℕ} where
  pub down-start : {i : ℕ} → hi ≤ length xs → hi ≡ i → Downto p d xs lo hi i
  down-start h e = record { fits = omega arith; same = ap (λ (k : ℕ). last_in p xs lo k) e }

  pub down-move : {i j : ℕ} → Downto p d xs lo hi i → i ≡ j → Downto p d xs lo hi j
  down-move u e = record { fits = omega arith; same = u.same ∙ ap (λ (k : ℕ). last_in p xs lo k) e }

  pub down-next : {i j : ℕ} → Downto p d xs lo hi i → lo ≤ j → p (get_or xs j d) ≡ false → i ≡ j + 1 → Downto p d xs lo hi j
  down-next {i} {j} u h t e =
      record { fits = omega arith; same = u.same ∙ ap (λ (k : ℕ). last_in p xs lo k) e ∙ last-miss p d xs lo j h (omega arith) t }

  pub down-hit : {i j : ℕ} → Downto p d xs lo hi i → lo ≤ j → p (get_or xs j d) ≡ true → i ≡ j + 1 → Some j ≡ last_in p xs lo hi
  down-hit {i} {j} u h t e = sym (u.same ∙ ap (λ (k : ℕ). last_in p xs lo k) e ∙ last-hit p d xs lo j h (omega arith) t)

  pub down-end : {i : ℕ} → Downto p d xs lo hi i → i ≤ lo → None ≡ last_in p xs lo hi
  down-end {i} u h = sym (u.same ∙ last_done p xs lo i h)

-- ---- the same for the n-th: what is left to pass from cell i on
pub record Passed {A : Type 0} (p : A → Bool) (d : A) (xs : List A) (n i m : ℕ) : Type 0 where
  pub same : nth_of p n 0 xs ≡ nth_of p m i (drop i xs)

module _ {A : Type 0} {p : A → Bool} {d : A} {xs : List A} {n : ℕ} where
  pub passed_start : Passed p d xs n 0 n
  passed_start = record { same = refl }

  passed-move : {i j m l : ℕ} → Passed p d xs n i m → i ≡ j → l ≡ m → Passed p d xs n j l
  passed-move {i} {j} {m} {l} u e f =
      record { same = u.same ∙ ap (λ (k : ℕ). nth_of p m k (drop k xs)) e ∙ ap (λ (k : ℕ). nth_of p k j (drop j xs)) (sym f) }

  pub passed-miss : {i j m l : ℕ} → Passed p d xs n i m → i < length xs → p (get_or xs i d) ≡ false → i + 1 ≡ j → l ≡ m → Passed p d xs n j l
  passed-miss {i} {j} {m} {l} u h t e f = passed-move (record { same = u.same ∙ nth-miss p d xs m i h t }) e f

  pub passed-next : {i j m l : ℕ} → Passed p d xs n i m → i < length xs → p (get_or xs i d) ≡ true → (m ≡ 0 → ⊥) → i + 1 ≡ j → l ≡ m - 1 → Passed p d xs n j l
  passed-next {i} {j} {m} {l} u h t z e f = passed-move (record { same = u.same ∙ nth-pass p d xs m i h t z }) e f

  pub passed-count : {i j m l : ℕ} → Passed p d xs n i m → i ≤ j → j ≤ length xs → count_in p xs i j ≤ m → l ≡ m - count_in p xs i j → Passed p d xs n j l
  passed-count {i} {j} {m} {l} u a b h f = passed-move (record { same = u.same ∙ nth_past p d xs m i j a b h }) refl f

  pub passed-hit : {i m : ℕ} → Passed p d xs n i m → i < length xs → p (get_or xs i d) ≡ true → m ≡ 0 → Some i ≡ nth_of p n 0 xs
  passed-hit {i} {m} u h t z = sym (u.same ∙ nth-hit p d xs m i h t z)

  pub passed-end : {i m : ℕ} → Passed p d xs n i m → length xs ≤ i → None ≡ nth_of p n 0 xs
  passed-end {i} {m} u h = sym (u.same ∙ nth-done p d xs m i h)

-- ---- the same for a count: n of the cells from lo up to i pass
pub record Counted {A : Type 0} (p : A → Bool) (d : A) (xs : List A) (lo i n : ℕ) : Type 0 where
  pub same : n ≡ count_in p xs lo i

module _ {A : Type 0} {p : A → Bool} {d : A} {xs : List A} {lo : ℕ} where
  pub counted_start : {i n : ℕ} → i ≤ lo → n ≡ 0 → Counted p d xs lo i n
  counted_start {i} h e = record { same = e ∙ sym (count-done p xs lo i h) }

  pub counted-hit : {i j n m : ℕ} → Counted p d xs lo i n → lo ≤ i → i < length xs → p (get_or xs i d) ≡ true → i + 1 ≡ j → m ≡ n + 1 → Counted p d xs lo j m
  counted-hit {i} u a h t e f = record { same = omega (arith, u.same, count-hit p d xs lo i a h t, ap (count_in p xs lo) e) }

  pub counted-miss : {i j n m : ℕ} → Counted p d xs lo i n → lo ≤ i → i < length xs → p (get_or xs i d) ≡ false → i + 1 ≡ j → m ≡ n → Counted p d xs lo j m
  counted-miss {i} u a h t e f = record { same = f ∙ u.same ∙ sym (count-miss p d xs lo i a h t) ∙ ap (count_in p xs lo) e }

-- ---- the answers are right
module _ {A : Type 0} (p : A → Bool) (d : A) (xs : List A) where
  -- what holds of lo, and of all from lo + 1 up to hi, holds of all from lo up to hi; and at the upper end
  none_below : (lo hi : ℕ) → p (get_or xs lo d) ≡ false → NoneIn p d xs (lo + 1) hi → NoneIn p d xs lo hi
  none_below lo hi t n j a b = ⊎_elim (λ e. rw (← e) t) (λ l. n j (omega arith) b) (eq-or-lt_of_le a)

  none_above : (lo hi : ℕ) → p (get_or xs hi d) ≡ false → NoneIn p d xs lo hi → NoneIn p d xs lo (hi + 1)
  none_above lo hi t n j a b = ⊎_elim (λ e. rw e t) (λ s. n j a s) (eq-or-lt_of_le {n = j} {m = hi} (omega arith))

  first_more : (lo hi : ℕ) (f : Option ℕ) → lo < hi → p (get_or xs lo d) ≡ false → FindsFirst p d xs (lo + 1) hi f → FindsFirst p d xs lo hi f
  first_more lo hi (Some k) h t r = record { low = omega (arith, r.low); high = r.high; hit = r.hit; none = none_below lo k t r.none }
  first_more lo hi None h t r = none_below lo hi t r

  first-steps : (n lo hi : ℕ) → lo + n ≡ hi → hi ≤ length xs → FindsFirst p d xs lo hi (first_in p xs lo hi)
  first-steps zero lo hi e l = rw (first_done p xs lo hi (omega arith)) (λ j a b. absurd (omega arith))
  first-steps (suc n) lo hi e l = go (p (get_or xs lo d)) refl (first-steps n (lo + 1) hi (omega arith) l)
    where
      go : (b : Bool) → p (get_or xs lo d) ≡ b → FindsFirst p d xs (lo + 1) hi (first_in p xs (lo + 1) hi) → FindsFirst p d xs lo hi (first_in p xs lo hi)
      go true t r =
          rw (first-hit p d xs lo hi (omega arith) l t)
          (record { low = omega arith; high = omega arith; hit = t; none = λ j a b. absurd (omega arith) })
      go false t r = rw (first-miss p d xs lo hi (omega arith) l t) (first_more lo hi (first_in p xs (lo + 1) hi) (omega arith) t r)

  last_more : (lo hi : ℕ) (f : Option ℕ) → p (get_or xs hi d) ≡ false → FindsLast p d xs lo hi f → FindsLast p d xs lo (hi + 1) f
  last_more lo hi (Some k) t r = record { low = r.low; high = omega (arith, r.high); hit = r.hit; none = none_above (suc k) hi t r.none }
  last_more lo hi None t r = none_above lo hi t r

  last-steps : (n lo hi : ℕ) → lo + n ≡ hi → hi ≤ length xs → FindsLast p d xs lo hi (last_in p xs lo hi)
  last-steps zero lo hi e l = rw (last_done p xs lo hi (omega arith)) (λ j a b. absurd (omega arith))
  last-steps (suc n) lo hi e l =
      let q : lo + n + 1 ≡ hi = omega arith in
      subst (λ (k : ℕ). FindsLast p d xs lo k (last_in p xs lo k)) q (go (p (get_or xs (lo + n) d)) refl (last-steps n lo (lo + n) refl (omega arith)))
    where
      go : (b : Bool) → p (get_or xs (lo + n) d) ≡ b → FindsLast p d xs lo (lo + n) (last_in p xs lo (lo + n)) → FindsLast p d xs lo (lo + n + 1) (last_in p xs lo (lo + n + 1))
      go true t r =
          rw (last-hit p d xs lo (lo + n) (omega arith) (omega arith) t)
          (record { low = omega arith; high = omega arith; hit = t; none = λ j a b. absurd (omega arith) })
      go false t r = rw (last-miss p d xs lo (lo + n) (omega arith) (omega arith) t) (last_more lo (lo + n) (last_in p xs lo (lo + n)) t r)

  module _ (lo hi : ℕ) where
    pub first_finds : hi ≤ length xs → FindsFirst p d xs lo hi (first_in p xs lo hi)
    first_finds l = go (dec_le lo hi)
      where
        go : Dec (lo ≤ hi) → FindsFirst p d xs lo hi (first_in p xs lo hi)
        go (yes h) = first-steps (hi - lo) lo hi (omega arith) l
        go (no h) = rw (first_done p xs lo hi (omega arith)) (λ j a b. absurd (omega arith))

    pub last-finds : hi ≤ length xs → FindsLast p d xs lo hi (last_in p xs lo hi)
    last-finds l = go (dec_le lo hi)
      where
        go : Dec (lo ≤ hi) → FindsLast p d xs lo hi (last_in p xs lo hi)
        go (yes h) = last-steps (hi - lo) lo hi (omega arith) l
        go (no h) = rw (last_done p xs lo hi (omega arith)) (λ j a b. absurd (omega arith))

    -- ---- and no others are
    first_one : (f g : Option ℕ) → FindsFirst p d xs lo hi f → FindsFirst p d xs lo hi g → f ≡ g
    first_one (Some i) (Some k) r s =
        let a : i < k → ⊥ = λ l. not-both r.hit (s.none i r.low l) in
        let b : k < i → ⊥ = λ l. not-both s.hit (r.none k s.low l) in
        ap Some (omega arith)
    first_one (Some i) None r s = absurd (not-both r.hit (s i r.low r.high))
    first_one None (Some k) r s = absurd (not-both s.hit (r k s.low s.high))
    first_one None None r s = refl

    last_one : (f g : Option ℕ) → FindsLast p d xs lo hi f → FindsLast p d xs lo hi g → f ≡ g
    last_one (Some i) (Some k) r s =
        let a : k < i → ⊥ = λ l. not-both r.hit (s.none i l r.high) in
        let b : i < k → ⊥ = λ l. not-both s.hit (r.none k l s.high) in
        ap Some (omega arith)
    last_one (Some i) None r s = absurd (not-both r.hit (s i r.low r.high))
    last_one None (Some k) r s = absurd (not-both s.hit (r k s.low s.high))
    last_one None None r s = refl

    -- ---- so an answer that is right is the search's, and what the search gives is right
    pub first-is : hi ≤ length xs → (f : Option ℕ) → FindsFirst p d xs lo hi f → first_in p xs lo hi ≡ f
    first-is l f r = first_one (first_in p xs lo hi) f (first_finds l) r

    pub last-is : hi ≤ length xs → (f : Option ℕ) → FindsLast p d xs lo hi f → last_in p xs lo hi ≡ f
    last-is l f r = last_one (last_in p xs lo hi) f (last-finds l) r

    pub first_found : hi ≤ length xs → {f : Option ℕ} → first_in p xs lo hi ≡ f → FindsFirst p d xs lo hi f
    first_found l e = subst (FindsFirst p d xs lo hi) e (first_finds l)

    pub last_found : hi ≤ length xs → {f : Option ℕ} → last_in p xs lo hi ≡ f → FindsLast p d xs lo hi f
    last_found l e = subst (FindsLast p d xs lo hi) e (last-finds l)

  -- ---- what is found lies in the range, wherever the memory ends
  pub first_range : (lo hi k : ℕ) → first_in p xs lo hi ≡ Some k → (lo ≤ k) × (k < hi)
  first_range lo hi k e = go (dec_le hi (length xs))
    where
      go : Dec (hi ≤ length xs) → (lo ≤ k) × (k < hi)
      go (yes h) = let r = first_found lo hi h e in (r.low, r.high)
      go (no h) =
          let r = first_found lo (length xs) (omega arith) (sym (first-cut p xs lo hi (omega arith)) ∙ e) in
          (r.low, omega (arith, r.high))

  pub last-range : (lo hi k : ℕ) → last_in p xs lo hi ≡ Some k → (lo ≤ k) × (k < hi)
  last-range lo hi k e = go (dec_le hi (length xs))
    where
      go : Dec (hi ≤ length xs) → (lo ≤ k) × (k < hi)
      go (yes h) = let r = last_found lo hi h e in (r.low, r.high)
      go (no h) =
          let r = last_found lo (length xs) (omega arith) (sym (last-cut p xs lo hi (omega arith)) ∙ e) in
          (r.low, omega (arith, r.high))

-- ---- a search of a part, counted from its first cell on
module _ {A : Type 0} (p : A → Bool) (d : A) (xs : List A) (lo hi : ℕ) (order : lo ≤ hi) (fits : hi ≤ length xs) where
  abbrev part : List A
  part = take (hi - lo) (drop lo xs)

  part-length : length part ≡ hi - lo
  part-length = simp (length-take, length-drop) (omega arith)

  part-cell : (k : ℕ) → lo ≤ k → k < hi → p (get_or part (k - lo) d) ≡ p (get_or xs k d)
  part-cell k a b =
      let e : lo + (k - lo) ≡ k = omega arith in
      ap p (get_or-take (hi - lo) (drop lo xs) (k - lo) d (omega arith) ∙ get_or-drop lo xs (k - lo) d ∙ ap (λ (j : ℕ). get_or xs j d) e)

  part-at : (k : ℕ) → k < length part → p (get_or part k d) ≡ p (get_or xs (lo + k) d)
  part-at k l =
      let e : lo + k - lo ≡ k = omega arith in
      ap (λ (j : ℕ). p (get_or part j d)) (sym e) ∙ part-cell (lo + k) (omega arith) (omega (arith, part-length))

  pub first-in-part : (o : Option ℕ) → FirstPlace p d part o → option_map (λ k. lo + k) o ≡ first_in p xs lo hi
  first-in-part None h = sym (first-is p d xs lo hi fits None (λ j a b. sym (part-cell j a b) ∙ h (j - lo) (omega (arith, part-length))))
  first-in-part (Some i) h =
      sym (first-is p d xs lo hi fits (Some (lo + i))
      (record { low = omega arith; high = omega (arith, part-length, h.0); hit = sym (part-at i h.0) ∙ h.1; none = λ j a b. sym (part-cell j a (omega (arith, part-length, h.0))) ∙ h.2 (j - lo) (omega arith) }))

  pub last-in-part : (o : Option ℕ) → LastPlace p d part o → option_map (λ k. lo + k) o ≡ last_in p xs lo hi
  last-in-part None h = sym (last-is p d xs lo hi fits None (λ j a b. sym (part-cell j a b) ∙ h (j - lo) (omega (arith, part-length))))
  last-in-part (Some i) h =
      sym (last-is p d xs lo hi fits (Some (lo + i))
      (record { low = omega arith; high = omega (arith, part-length, h.0); hit = sym (part-at i h.0) ∙ h.1; none = λ j a b. sym (part-cell j (omega arith) b) ∙ h.2 (j - lo) (omega arith) (omega (arith, part-length)) }))

-- ---- and of the whole list, and of its front
pub last-in-whole : {A : Type 0} (p : A → Bool) (d : A) (xs : List A) (o : Option ℕ) → LastPlace p d xs o → o ≡ last_in p xs 0 (length xs)
last-in-whole p d xs None h = sym (last-is p d xs 0 (length xs) (omega arith) None (λ j a b. h j b))
last-in-whole p d xs (Some i) h =
    sym (last-is p d xs 0 (length xs) (omega arith) (Some i) (record { low = omega arith; high = h.0; hit = h.1; none = λ j a b. h.2 j (omega arith) b }))

pub last-in-front : {A : Type 0} (p : A → Bool) (d : A) (xs : List A) (to : ℕ) → to ≤ length xs → (o : Option ℕ) → LastPlace p d (take to xs) o → o ≡ last_in p xs 0 to
unfolding last_in
last-in-front p d xs to h o f = last-in-whole p d (take to xs) o f ∙ ap (last_of p 0) (take-length (take to xs))

-- ---- the answers depend on the tests' values in the range alone
module _ {A B : Type 0} (p : A → Bool) (d : A) (xs : List A) (q : B → Bool) (e : B) (ys : List B) where
  -- the cells lo, .., hi - 1 of the two memories pass alike
  abbrev pub Alike : ℕ → ℕ → Type 0
  Alike lo hi = (k : ℕ) → lo ≤ k → k < hi → p (get_or xs k d) ≡ q (get_or ys k e)

  module _ (lo hi : ℕ) (h : Alike lo hi) where
    first_to : (f : Option ℕ) → FindsFirst p d xs lo hi f → FindsFirst q e ys lo hi f
    first_to (Some k) r =
        record { low = r.low; high = r.high; hit = sym (h k r.low r.high) ∙ r.hit; none = λ j a b. sym (h j a (omega (arith, r.high))) ∙ r.none j a b }
    first_to None r = λ j a b. sym (h j a b) ∙ r j a b

    last-to : (f : Option ℕ) → FindsLast p d xs lo hi f → FindsLast q e ys lo hi f
    last-to (Some k) r =
        record { low = r.low; high = r.high; hit = sym (h k r.low r.high) ∙ r.hit; none = λ j a b. sym (h j (omega (arith, r.low)) b) ∙ r.none j a b }
    last-to None r = λ j a b. sym (h j a b) ∙ r j a b

    pub first_alike : hi ≤ length xs → hi ≤ length ys → first_in p xs lo hi ≡ first_in q ys lo hi
    first_alike l m = sym (first-is q e ys lo hi m (first_in p xs lo hi) (first_to (first_in p xs lo hi) (first_finds p d xs lo hi l)))

    pub last-alike : hi ≤ length xs → hi ≤ length ys → last_in p xs lo hi ≡ last_in q ys lo hi
    last-alike l m = sym (last-is q e ys lo hi m (last_in p xs lo hi) (last-to (last_in p xs lo hi) (last-finds p d xs lo hi l)))

  count-from : (n lo hi : ℕ) → lo + n ≡ hi → Alike lo hi → hi ≤ length xs → hi ≤ length ys → count_in p xs lo hi ≡ count_in q ys lo hi
  count-from zero lo hi z h l m = count-done p xs lo hi (omega arith) ∙ sym (count-done q ys lo hi (omega arith))
  count-from (suc n) lo hi z h l m =
      let w : lo + n + 1 ≡ hi = omega arith in
      subst (λ (k : ℕ). count_in p xs lo k ≡ count_in q ys lo k) w
      (go (p (get_or xs (lo + n) d)) refl (count-from n lo (lo + n) refl (λ k a b. h k a (omega arith)) (omega arith) (omega arith)))
    where
      go : (b : Bool) → p (get_or xs (lo + n) d) ≡ b → count_in p xs lo (lo + n) ≡ count_in q ys lo (lo + n) → count_in p xs lo (lo + n + 1) ≡ count_in q ys lo (lo + n + 1)
      go true t r =
          count-hit p d xs lo (lo + n) (omega arith) (omega arith) t ∙ ap (λ (k : ℕ). k + 1) r
          ∙ sym (count-hit q e ys lo (lo + n) (omega arith) (omega arith) (sym (h (lo + n) (omega arith) (omega arith)) ∙ t))
      go false t r =
          count-miss p d xs lo (lo + n) (omega arith) (omega arith) t ∙ r
          ∙ sym (count-miss q e ys lo (lo + n) (omega arith) (omega arith) (sym (h (lo + n) (omega arith) (omega arith)) ∙ t))

  pub count-alike : (lo hi : ℕ) → Alike lo hi → hi ≤ length xs → hi ≤ length ys → count_in p xs lo hi ≡ count_in q ys lo hi
  count-alike lo hi h l m = go (dec_le lo hi)
    where
      go : Dec (lo ≤ hi) → count_in p xs lo hi ≡ count_in q ys lo hi
      go (yes a) = count-from (hi - lo) lo hi (omega arith) h l m
      go (no a) = count-done p xs lo hi (omega arith) ∙ sym (count-done q ys lo hi (omega arith))

-- ---- a test after a function is the test of what the function gives
module _ {A B : Type 0} (p : B → Bool) (f : A → B) where
  take-map : (n : ℕ) (xs : List A) → take n (map f xs) ≡ map f (take n xs)
  take-map zero xs = refl
  take-map (suc n) [] = refl
  take-map (suc n) (x ∷ xs) = ap (λ (r : List B). f x ∷ r) (take-map n xs)

  drop-map : (n : ℕ) (xs : List A) → drop n (map f xs) ≡ map f (drop n xs)
  drop-map zero xs = refl
  drop-map (suc n) [] = refl
  drop-map (suc n) (x ∷ xs) = drop-map n xs

  first_walk : (i : ℕ) (xs : List A) → first_of p i (map f xs) ≡ first_of (λ a. p (f a)) i xs
  unfolding first_of
  first_walk i [] = refl
  first_walk i (x ∷ xs) = ap (cond (p (f x)) (Some i)) (first_walk (suc i) xs)

  last-walk : (i : ℕ) (xs : List A) → last_of p i (map f xs) ≡ last_of (λ a. p (f a)) i xs
  unfolding last_of
  last-walk i [] = refl
  last-walk i (x ∷ xs) = ap (λ (r : Option ℕ). option_or r (cond (p (f x)) (Some i) None)) (last-walk (suc i) xs)

  pub nth-map : (n i : ℕ) (xs : List A) → nth_of p n i (map f xs) ≡ nth_of (λ a. p (f a)) n i xs
  unfolding nth_of
  nth-map n i [] = refl
  nth-map n i (x ∷ xs) =
      ap (λ (r : Option ℕ). cond (p (f x)) (cond (eqb n 0) (Some i) r) (nth_of p n (suc i) (map f xs))) (nth-map (n - 1) (suc i) xs)
      ∙ ap (cond (p (f x)) (cond (eqb n 0) (Some i) (nth_of (λ a. p (f a)) (n - 1) (suc i) xs))) (nth-map n (suc i) xs)

  count-walk : (xs : List A) → count_of p (map f xs) ≡ count_of (λ a. p (f a)) xs
  unfolding count_of
  count-walk [] = refl
  count-walk (x ∷ xs) = ap (λ (n : ℕ). cond (p (f x)) (suc n) n) (count-walk xs)

  module _ (xs : List A) (lo hi : ℕ) where
    slice-map : slice lo hi (map f xs) ≡ map f (slice lo hi xs)
    slice-map = ap (drop lo) (take-map hi xs) ∙ drop-map lo (take hi xs)

    pub first-map : first_in p (map f xs) lo hi ≡ first_in (λ a. p (f a)) xs lo hi
    unfolding first_in
    first-map = ap (first_of p lo) slice-map ∙ first_walk lo (slice lo hi xs)

    pub last-map : last_in p (map f xs) lo hi ≡ last_in (λ a. p (f a)) xs lo hi
    unfolding last_in
    last-map = ap (last_of p lo) slice-map ∙ last-walk lo (slice lo hi xs)

    pub count_map : count_in p (map f xs) lo hi ≡ count_in (λ a. p (f a)) xs lo hi
    unfolding count_in
    count_map = ap (count_of p) slice-map ∙ count-walk (slice lo hi xs)

-- ---- the n-th and the count are inverse
module _ {A : Type 0} (p : A → Bool) (d : A) where
  -- what the search for the n-th gives, from cell i on
  abbrev From : ℕ → ℕ → List A → Option ℕ → Type 0
  From n i xs (Some k) = (j : ℕ) × (k ≡ i + j) × NthIs p d xs n j
  From n i xs None = count_of p xs ≤ n

  from_cons : (n m i : ℕ) (x : A) (xs : List A) (f : Option ℕ) → ((j : ℕ) → count_of p (take j xs) ≡ m → count_of p (x ∷ take j xs) ≡ n) → (count_of p xs ≤ m → count_of p (x ∷ xs) ≤ n)
      → From m (suc i) xs f → From n i (x ∷ xs) f
  unfolding count_in
  from_cons n m i x xs (Some k) g h r =
      (suc r.0, omega (arith, r.1), record { high = suc-le-suc r.2.high; hit = r.2.hit; before = g r.0 r.2.before })
  from_cons n m i x xs None g h r = h r

  from-finds : (xs : List A) (n i : ℕ) → From n i xs (nth_of p n i xs)
  unfolding nth_of count_of count_in
  from-finds [] n i = omega arith
  from-finds (x ∷ xs) n i = go (p x) refl (eqb n 0) refl (from-finds xs (n - 1) (suc i)) (from-finds xs n (suc i))
    where
      counted : (b : Bool) → p x ≡ b → (ys : List A) → count_of p (x ∷ ys) ≡ cond b (suc (count_of p ys)) (count_of p ys)
      counted b t ys = ap (λ (c : Bool). cond c (suc (count_of p ys)) (count_of p ys)) t

      go : (b : Bool) → p x ≡ b → (z : Bool) → eqb n 0 ≡ z
          → From (n - 1) (suc i) xs (nth_of p (n - 1) (suc i) xs) → From n (suc i) xs (nth_of p n (suc i) xs)
          → From n i (x ∷ xs) (cond b (cond z (Some i) (nth_of p (n - 1) (suc i) xs)) (nth_of p n (suc i) xs))
      go true t true z r s = (0, omega arith, record { high = omega arith; hit = t; before = sym (eqb-true n 0 z) })
      go true t false z r s =
          let ne : n ≡ 0 → ⊥ = eqb-false n 0 z in
          from_cons n (n - 1) i x xs (nth_of p (n - 1) (suc i) xs)
          (λ j e. counted true t (take j xs) ∙ (omega arith)) (λ l. omega (arith, counted true t xs)) r
      go false t z w r s =
          from_cons n n i x xs (nth_of p n (suc i) xs) (λ j e. counted false t (take j xs) ∙ e) (λ l. omega (arith, counted false t xs)) s

  module _ (xs : List A) where
    pub nth-finds : (n : ℕ) → FindsNth p d xs n (nth_of p n 0 xs)
    nth-finds n = go (nth_of p n 0 xs) (from-finds xs n 0)
      where
        go : (f : Option ℕ) → From n 0 xs f → FindsNth p d xs n f
        go (Some k) r = let e : r.0 ≡ k = omega (arith, r.1) in subst (NthIs p d xs n) e r.2
        go None r = r

    -- the count of all, and its growth
    pub count-all : count_in p xs 0 (length xs) ≡ count_of p xs
    unfolding count_in
    count-all = ap (count_of p) (take-length xs)

    pub count-le : (i k : ℕ) → i ≤ k → k ≤ length xs → count_in p xs 0 i ≤ count_in p xs 0 k
    count-le i k h l = omega (arith, count-join p xs 0 i k (omega arith) h l)

    pub count-lt : (i k : ℕ) → i < k → k ≤ length xs → p (get_or xs i d) ≡ true → count_in p xs 0 i < count_in p xs 0 k
    count-lt i k h l t = omega (arith, count-hit p d xs 0 i (omega arith) (omega arith) t, count-le (i + 1) k (omega arith) l)

    nth-one : (n : ℕ) (f g : Option ℕ) → FindsNth p d xs n f → FindsNth p d xs n g → f ≡ g
    nth-one n (Some i) (Some k) r s =
        let a : i < k → ⊥ = λ l. omega (arith, count-lt i k l (omega (arith, s.high)) r.hit, r.before, s.before) in
        let b : k < i → ⊥ = λ l. omega (arith, count-lt k i l (omega (arith, r.high)) s.hit, r.before, s.before) in
        ap Some (omega arith)
    nth-one n (Some i) None r s = absurd (omega (arith, count-lt i (length xs) r.high (omega arith) r.hit, count-all, r.before, s))
    nth-one n None (Some k) r s = absurd (omega (arith, count-lt k (length xs) s.high (omega arith) s.hit, count-all, s.before, r))
    nth-one n None None r s = refl

    pub nth-is : (n : ℕ) (f : Option ℕ) → FindsNth p d xs n f → nth_of p n 0 xs ≡ f
    nth-is n f r = nth-one n (nth_of p n 0 xs) f (nth-finds n) r

    pub nth-found : (n : ℕ) {f : Option ℕ} → nth_of p n 0 xs ≡ f → FindsNth p d xs n f
    nth-found n e = subst (FindsNth p d xs n) e (nth-finds n)
