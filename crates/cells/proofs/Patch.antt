-- `patch` and `changed_where` cell by cell, and the invariant `Cells` of a loop that writes in place, with its steps. Assumes nothing.
use mathlib.Core.Path.{◌≡◌, refl, sym, ap, ◌∙◌}
use mathlib.Core.Logic.{◌⊎◌, inl, inr, ⊎_elim}
use mathlib.Core.Bool.{Bool, true, false, cond, ◌&&◌, and-false, and-eq-true_iff}
use mathlib.Core.List.{List, [], ◌∷◌}
use Prim.Native.Nat.{ℕ, zero, suc, ◌+◌, ◌-◌, ◌≤◌, ◌<◌}
use native.Mathlib.Nat.{le_of_suc-le-suc, not-suc-le-zero}
use native.Mathlib.Omega.{arith}
use native.Mathlib.Decide.{dec_lt, ℕ_discrete}
use lib.ListN.{length, get_or, set, length-set, get_or-eq_default}
use lib.Seq.{ext_get_or, get_or-set_same, get_or-set_other}
use lib.Dec.{leb, ltb}
use borrow.Author.Tests.{lt-ltb, le-ltb, le-leb, lt-leb, leb-true}
use Rattle.std.specs.List.{CopiedTo, SameBelow, SameFrom}
use Rattle.cells.specs.Memory.{inside, patch_from, patch, changed_where_from, changed_where}

-- ---- cases on two numbers
pub lt-or : (a b : ℕ) → (a < b) ⊎ (b ≤ a)
lt-or a b = elim (dec_lt a b) [ yes h ↦ inl h | no h ↦ inr (omega arith) ]

pub eq-or : (a b : ℕ) → (a ≡ b) ⊎ (a ≡ b → ⊥)
eq-or a b = elim (ℕ_discrete a b) [ yes h ↦ inl h | no h ↦ inr h ]

-- ---- the test `inside`
pub inside-true : (lo hi k : ℕ) → lo ≤ k → k < hi → inside lo hi k ≡ true
inside-true lo hi k a b = simp (le-leb lo k a, lt-ltb k hi b)

pub inside-false : (lo hi k : ℕ) → (k < lo) ⊎ (hi ≤ k) → inside lo hi k ≡ false
inside-false lo hi k o = ⊎_elim (λ a. simp (lt-leb lo k a)) (λ a. ap (◌&&◌ (leb lo k)) (le-ltb k hi a) ∙ and-false (leb lo k)) o

-- ---- the walks
length-patch_from : (k : ℕ) (xs : List ℕ) (lo hi : ℕ) (f : ℕ → ℕ) → length (patch_from k xs lo hi f) ≡ length xs
unfolding patch_from
length-patch_from k [] lo hi f = refl
length-patch_from k (x ∷ xs) lo hi f = ap suc (length-patch_from (suc k) xs lo hi f)

get_or-patch_from : (k : ℕ) (xs : List ℕ) (lo hi : ℕ) (f : ℕ → ℕ) (j n : ℕ) → n ≡ k + j → j < length xs → get_or (patch_from k xs lo hi f) j 0 ≡ cond (inside lo hi n) (f n) (get_or xs j 0)
unfolding patch_from
get_or-patch_from k [] lo hi f j n e h = absurd (not-suc-le-zero h)
get_or-patch_from k (x ∷ xs) lo hi f zero n e h = let q : k ≡ n = omega arith in ap (λ (i : ℕ). cond (inside lo hi i) (f i) x) q
get_or-patch_from k (x ∷ xs) lo hi f (suc j) n e h = get_or-patch_from (suc k) xs lo hi f j n (omega arith) (le_of_suc-le-suc h)

length-changed_where_from : (k : ℕ) (xs : List ℕ) (from : ℕ) (test : ℕ → Bool) (f : ℕ → ℕ) → length (changed_where_from k xs from test f) ≡ length xs
unfolding changed_where_from
length-changed_where_from k [] from test f = refl
length-changed_where_from k (x ∷ xs) from test f = ap suc (length-changed_where_from (suc k) xs from test f)

get_or-changed_where_from : (k : ℕ) (xs : List ℕ) (from : ℕ) (test : ℕ → Bool) (f : ℕ → ℕ) (j n : ℕ) → n ≡ k + j → j < length xs → get_or (changed_where_from k xs from test f) j 0 ≡ cond (leb from n && test n) (f (get_or xs j 0)) (get_or xs j 0)
unfolding changed_where_from
get_or-changed_where_from k [] from test f j n e h = absurd (not-suc-le-zero h)
get_or-changed_where_from k (x ∷ xs) from test f zero n e h = let q : k ≡ n = omega arith in ap (λ (i : ℕ). cond (leb from i && test i) (f x) x) q
get_or-changed_where_from k (x ∷ xs) from test f (suc j) n e h = get_or-changed_where_from (suc k) xs from test f j n (omega arith) (le_of_suc-le-suc h)

-- ---- the length of a patch, and each of its cells
module _ (xs : List ℕ) (lo hi : ℕ) (f : ℕ → ℕ) where
  pub length-patch : length (patch xs lo hi f) ≡ length xs
  unfolding patch
  length-patch = length-patch_from 0 xs lo hi f

  -- a cell of the memory, for any range
  patch-here : (k : ℕ) → k < length xs → get_or (patch xs lo hi f) k 0 ≡ cond (inside lo hi k) (f k) (get_or xs k 0)
  unfolding patch
  patch-here k l = get_or-patch_from 0 xs lo hi f k k (omega arith) l

  -- any cell, for a range in the memory
  pub patch-cell : hi ≤ length xs → (k : ℕ) → get_or (patch xs lo hi f) k 0 ≡ cond (inside lo hi k) (f k) (get_or xs k 0)
  patch-cell b k =
      elim (lt-or k (length xs)) [
        | inl m ↦ patch-here k m
        | inr m ↦ get_or-eq_default (patch xs lo hi f) 0 (rw length-patch m) ∙ sym (get_or-eq_default xs 0 m) ∙ sym (simp (inside-false lo hi k (inr (omega arith))))
      ]

  -- cells outside the range are kept
  pub patch-out : hi ≤ length xs → (k : ℕ) → (k < lo) ⊎ (hi ≤ k) → get_or (patch xs lo hi f) k 0 ≡ get_or xs k 0
  patch-out b k o = patch-cell b k ∙ simp (inside-false lo hi k o)

-- ---- the invariant of a loop that writes in place: cells lo, .., hi - 1 of ys are new, the others are those of xs
pub record Cells (xs ys : List ℕ) (lo hi : ℕ) (f : ℕ → ℕ) : Type 0 where
  pub len : length ys ≡ length xs
  pub low : (k : ℕ) → k < lo → get_or ys k 0 ≡ get_or xs k 0
  pub new : (k : ℕ) → lo ≤ k → k < hi → get_or ys k 0 ≡ f k
  pub high : (k : ℕ) → hi ≤ k → get_or ys k 0 ≡ get_or xs k 0

-- nothing is written yet
pub none : {xs : List ℕ} {i j : ℕ} {f : ℕ → ℕ} → i ≡ j → Cells xs xs i j f
none e = record { len = refl; low = λ k h. refl; new = λ k h l. absurd (omega arith); high = λ k h. refl }

-- a turn of a loop that goes up: one cell more at the end
pub up : {xs ys : List ℕ} {lo i j : ℕ} {f : ℕ → ℕ} {v : ℕ} → Cells xs ys lo i f → lo ≤ i → i < length xs → v ≡ f i → j ≡ i + 1 → Cells xs (set ys i v) lo j f
up {xs} {ys} {lo} {i} {j} {f} {v} c a b e n =
    let m : i < length ys = omega (arith, c.len) in
    record {
      len = length-set ys i v ∙ c.len;
      low = λ k h. get_or-set_other ys i k v 0 (omega arith) ∙ c.low k h;
      new = λ k h l. elim (eq-or k i) [ inl q ↦ rw q (get_or-set_same ys i v 0 m ∙ e) | inr q ↦ get_or-set_other ys i k v 0 q ∙ c.new k h (omega arith) ];
      high = λ k h. get_or-set_other ys i k v 0 (omega arith) ∙ c.high k (omega arith);
    }

-- the same where a callee has stored
pub stored : {xs ys zs : List ℕ} {lo i j : ℕ} {f : ℕ → ℕ} {v : ℕ} → zs ≡ set ys i v → Cells xs ys lo i f → lo ≤ i → i < length xs → v ≡ f i → j ≡ i + 1 → Cells xs zs lo j f
stored q c a b e n = rw q (up c a b e n)

-- a turn of a loop that goes down: one cell more at the start
pub down : {xs ys : List ℕ} {i j hi : ℕ} {f : ℕ → ℕ} {v : ℕ} → Cells xs ys j hi f → i < hi → i < length xs → v ≡ f i → j ≡ i + 1 → Cells xs (set ys i v) i hi f
down {xs} {ys} {i} {j} {hi} {f} {v} c a b e n =
    let m : i < length ys = omega (arith, c.len) in
    record {
      len = length-set ys i v ∙ c.len;
      low = λ k h. get_or-set_other ys i k v 0 (omega arith) ∙ c.low k (omega arith);
      new = λ k h l. elim (eq-or k i) [ inl q ↦ rw q (get_or-set_same ys i v 0 m ∙ e) | inr q ↦ get_or-set_other ys i k v 0 q ∙ c.new k (omega arith) l ];
      high = λ k h. get_or-set_other ys i k v 0 (omega arith) ∙ c.high k (omega arith);
    }

-- a turn that stores nothing, since the cell is right already
pub skip : {xs ys : List ℕ} {lo i j : ℕ} {f : ℕ → ℕ} → Cells xs ys lo i f → get_or xs i 0 ≡ f i → j ≡ i + 1 → Cells xs ys lo j f
skip {i = i} c e n =
    record {
      len = c.len;
      low = c.low;
      new = λ k h l. elim (eq-or k i) [ inl q ↦ rw q (c.high i (omega arith) ∙ e) | inr q ↦ c.new k h (omega arith) ];
      high = λ k h. c.high k (omega arith);
    }

-- every cell in one equation
pub cells_at : {xs ys : List ℕ} {lo hi : ℕ} {f : ℕ → ℕ} → Cells xs ys lo hi f → (k : ℕ) → get_or ys k 0 ≡ cond (inside lo hi k) (f k) (get_or xs k 0)
cells_at {xs} {ys} {lo} {hi} c k =
    elim (lt-or k lo) [
      | inl u ↦ c.low k u ∙ sym (simp (inside-false lo hi k (inl u)))
      | inr u ↦ elim (lt-or k hi) [
        | inl w ↦ c.new k u w ∙ sym (simp (inside-true lo hi k u w))
        | inr w ↦ c.high k w ∙ sym (simp (inside-false lo hi k (inr w)))
      ]
    ]

-- all is written
pub done : {xs ys : List ℕ} {a b lo hi : ℕ} {f : ℕ → ℕ} → Cells xs ys a b f → a ≡ lo → b ≡ hi → ys ≡ patch xs lo hi f
done {xs} {ys} {lo = lo} {hi = hi} {f = f} c p q =
    ext_get_or 0 ys (patch xs lo hi f) (c.len ∙ sym (length-patch xs lo hi f)) (λ k l. rw (p, q) at (cells_at c k) ∙ sym (patch-here xs lo hi f k (omega (arith, c.len))))

-- what a callee wrote
pub patched : {xs ys : List ℕ} {lo hi : ℕ} {f : ℕ → ℕ} → ys ≡ patch xs lo hi f → hi ≤ length xs → Cells xs ys lo hi f
patched {xs} {ys} {lo} {hi} {f} e b =
    record {
      len = ap length e ∙ length-patch xs lo hi f;
      low = λ k h. at k ∙ patch-out xs lo hi f b k (inl h);
      new = λ k h l. at k ∙ patch-cell xs lo hi f b k ∙ simp (inside-true lo hi k h l);
      high = λ k h. at k ∙ patch-out xs lo hi f b k (inr h);
    }
  where
    at : (k : ℕ) → get_or ys k 0 ≡ get_or (patch xs lo hi f) k 0
    at k = ap (λ (t : List ℕ). get_or t k 0) e

-- cells that a copy within the memory moved
pub moved : {xs ys : List ℕ} (f : ℕ → ℕ) (from lo n hi : ℕ) → length ys ≡ length xs → CopiedTo xs ys from lo n × SameBelow xs ys lo × SameFrom xs ys (lo + n) → lo + n ≡ hi
    → ((k : ℕ) → lo ≤ k → k < hi → get_or xs (from + (k - lo)) 0 ≡ f k) → Cells xs ys lo hi f
moved f from lo n hi l c e h =
    record {
      len = l;
      low = λ k m. c.1 k 0 m;
      new = λ k m w. c.0 k 0 m (omega arith) ∙ h k m w;
      high = λ k m. c.2 k 0 (omega arith);
    }

-- two stretches that meet: the second above the first, and below it
pub join : {xs ys zs : List ℕ} {a b e : ℕ} {f g : ℕ → ℕ} → Cells xs ys a b f → Cells ys zs b e g → a ≤ b → b ≤ e → ((k : ℕ) → b ≤ k → k < e → g k ≡ f k) → Cells xs zs a e f
join {b = b} c d p q s =
    record {
      len = d.len ∙ c.len;
      low = λ k h. d.low k (omega arith) ∙ c.low k h;
      new = λ k h l. elim (lt-or k b) [ inl w ↦ d.low k w ∙ c.new k h w | inr w ↦ d.new k w l ∙ s k w l ];
      high = λ k h. d.high k h ∙ c.high k (omega arith);
    }

pub join-down : {xs ys zs : List ℕ} {a b e : ℕ} {f g : ℕ → ℕ} → Cells xs ys b e f → Cells ys zs a b g → a ≤ b → b ≤ e → ((k : ℕ) → a ≤ k → k < b → g k ≡ f k) → Cells xs zs a e f
join-down {b = b} c d p q s =
    record {
      len = d.len ∙ c.len;
      low = λ k h. d.low k h ∙ c.low k (omega arith);
      new = λ k h l. elim (lt-or k b) [ inl w ↦ d.new k h w ∙ s k h w | inr w ↦ d.high k w ∙ c.new k w l ];
      high = λ k h. d.high k (omega arith) ∙ c.high k h;
    }

-- ---- cells that pass a test are changed: the length, each cell, and what a loop that changes them ends with, along the memory or up to a cell
module _ (xs : List ℕ) (from : ℕ) (test : ℕ → Bool) (f : ℕ → ℕ) where
  pub length-changed_where : length (changed_where xs from test f) ≡ length xs
  unfolding changed_where
  length-changed_where = length-changed_where_from 0 xs from test f

  pub changed_where-cell : (k : ℕ) → k < length xs → get_or (changed_where xs from test f) k 0 ≡ cond (leb from k && test k) (f (get_or xs k 0)) (get_or xs k 0)
  unfolding changed_where
  changed_where-cell k l = get_or-changed_where_from 0 xs from test f k k (omega arith) l

  -- each cell stays, or is one from `from` on that passes, and is changed
  pub changed_where-either : (k : ℕ) → (get_or (changed_where xs from test f) k 0 ≡ get_or xs k 0) ⊎ ((from ≤ k) × (test k ≡ true) × (get_or (changed_where xs from test f) k 0 ≡ f (get_or xs k 0)))
  changed_where-either k = elim (lt-or k (length xs)) [
    | inl l ↦ go l (leb from k && test k) refl
    | inr l ↦ inl (get_or-eq_default (changed_where xs from test f) 0 (rw length-changed_where l) ∙ sym (get_or-eq_default xs 0 l))
  ]
    where
      go : k < length xs → (b : Bool) → (leb from k && test k) ≡ b → (get_or (changed_where xs from test f) k 0 ≡ get_or xs k 0) ⊎ ((from ≤ k) × (test k ≡ true) × (get_or (changed_where xs from test f) k 0 ≡ f (get_or xs k 0)))
      go l true t =
          let b = (and-eq-true_iff (leb from k) (test k)).0 t in
          inr (leb-true from k b.0, b.1, changed_where-cell k l ∙ ap (λ (c : Bool). cond c (f (get_or xs k 0)) (get_or xs k 0)) t)
      go l false t = inl (changed_where-cell k l ∙ ap (λ (c : Bool). cond c (f (get_or xs k 0)) (get_or xs k 0)) t)

-- what a choice in a range gives, inside its end
in-range : (lo t u : Bool) (x y : ℕ) → u ≡ true → cond (lo && u) (cond t x y) y ≡ cond (lo && t) x y
in-range true t u x y e = rw e refl
in-range false t u x y e = refl

pub done-where : {xs ys : List ℕ} {from to : ℕ} (test : ℕ → Bool) (f : ℕ → ℕ) → Cells xs ys from to (λ k. cond (test k) (f (get_or xs k 0)) (get_or xs k 0)) → to ≡ length xs → ys ≡ changed_where xs from test f
done-where {xs} {ys} {from} {to} test f c e =
    ext_get_or 0 ys (changed_where xs from test f) (c.len ∙ sym (length-changed_where xs from test f))
    (λ k l.
    let m : k < length xs = omega (arith, c.len) in
    cells_at c k ∙ in-range (leb from k) (test k) (ltb k to) (f (get_or xs k 0)) (get_or xs k 0) (lt-ltb k to (omega arith)) ∙ sym (changed_where-cell xs from test f k m))

pub done-upto : {xs ys : List ℕ} {from i to : ℕ} (f : ℕ → ℕ) → Cells xs ys from i (λ k. f (get_or xs k 0)) → i ≡ to → ys ≡ changed_where xs from (λ k. ltb k to) f
done-upto {xs} {ys} {from} {i} {to} f c e =
    ext_get_or 0 ys (changed_where xs from (λ k. ltb k to) f) (c.len ∙ sym (length-changed_where xs from (λ k. ltb k to) f))
    (λ k l. rw e at (cells_at c k) ∙ sym (changed_where-cell xs from (λ k. ltb k to) f k (omega (arith, c.len))))
