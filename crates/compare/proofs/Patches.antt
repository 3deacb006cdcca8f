-- A patch changes a memory where one of its cells differs; a patch within a row; the row of a longer patch. Assumes nothing.
use Prim.Native.Nat.{ℕ, ◌+◌, ◌-◌, ◌*◌, ◌≤◌, ◌<◌, max}
use mathlib.Core.Path.{◌≡◌, refl, sym, ap, ◌∙◌}
use mathlib.Core.Bool.{Bool, true, false, cond, ◌||◌, not}
use mathlib.Core.Logic.{inl, inr}
use mathlib.Core.List.{List}
use native.Mathlib.Omega.{arith}
use lib.ListN.{length, get_or, set, take, drop, length-set, length-take, length-drop}
use lib.Seq.{ext_get_or, get_or-set_other, get_or-take, get_or-drop}
use lib.Dec.{ltb}
use Rattle.std.specs.Str.{bytes_eq}
use Rattle.std.proofs.lemmas.Slice.Eq.{bytes_eq-Decides}
use Rattle.cells.specs.Memory.{patch, changed_where}
use Rattle.cells.proofs.Patch.{lt-or, eq-or, patched, done, done-upto}
use Rattle.changes.specs.Differing.{differs}
use Rattle.changes.specs.Rows.{row_of}
use Rattle.changes.proofs.Differing.{true-or, differs-same, differs-equal, differs-cell, rows_same, Beside, row-differs}

module _ (xs : List ℕ) (lo hi : ℕ) (f : ℕ → ℕ) where
  -- every new cell is as before
  patch-same : ((k : ℕ) → lo ≤ k → k < hi → get_or xs k 0 ≡ f k) → patch xs lo hi f ≡ xs
  patch-same h = sym (done {xs = xs} {ys = xs} {lo = lo} {hi = hi} {f = f} (record { len = refl; low = λ k l. refl; new = h; high = λ k l. refl }) refl refl)

  pub kept : ((k : ℕ) → lo ≤ k → k < hi → get_or xs k 0 ≡ f k) → false ≡ differs xs (patch xs lo hi f)
  kept h = sym (ap (differs xs) (patch-same h) ∙ differs-same xs)

  -- one is not
  pub altered : hi ≤ length xs → (k : ℕ) → lo ≤ k → k < hi → (get_or xs k 0 ≡ f k → ⊥) → true ≡ differs xs (patch xs lo hi f)
  altered fits k a b h = sym (differs-cell xs (patch xs lo hi f) k (λ e. h (e ∙ (patched {xs = xs} {lo = lo} {hi = hi} {f = f} refl fits).new k a b)))

  -- another function with the same values
  pub patch-as : hi ≤ length xs → (g : ℕ → ℕ) → ((k : ℕ) → lo ≤ k → k < hi → f k ≡ g k) → patch xs lo hi f ≡ patch xs lo hi g
  patch-as fits g h =
      let c = patched {xs = xs} {lo = lo} {hi = hi} {f = f} refl fits in
      done {xs = xs} {ys = patch xs lo hi f} {lo = lo} {hi = hi} {f = g} (record { len = c.len; low = c.low; new = λ k a b. c.new k a b ∙ h k a b; high = c.high }) refl refl

  -- the first cells are as before
  pub patch-from : hi ≤ length xs → (mid : ℕ) → lo ≤ mid → mid ≤ hi → ((k : ℕ) → lo ≤ k → k < mid → get_or xs k 0 ≡ f k) → patch xs lo hi f ≡ patch xs mid hi f
  patch-from fits mid a b h =
      let c = patched {xs = xs} {lo = mid} {hi = hi} {f = f} refl fits in
      sym (done {xs = xs} {ys = patch xs mid hi f} {lo = lo} {hi = hi} {f = f} (record { len = c.len; low = λ k l. c.low k (omega arith); new = λ k l m. elim (lt-or k mid) [ inl u ↦ c.low k u ∙ h k l u | inr u ↦ c.new k u m ]; high = c.high }) refl refl)

  -- the last cells are as before
  pub patch-upto : hi ≤ length xs → (mid : ℕ) → lo ≤ mid → mid ≤ hi → ((k : ℕ) → mid ≤ k → k < hi → get_or xs k 0 ≡ f k) → patch xs lo hi f ≡ patch xs lo mid f
  patch-upto fits mid a b h =
      let c = patched {xs = xs} {lo = lo} {hi = mid} {f = f} refl (omega arith) in
      sym (done {xs = xs} {ys = patch xs lo mid f} {lo = lo} {hi = hi} {f = f} (record { len = c.len; low = c.low; new = λ k l m. elim (lt-or k mid) [ inl u ↦ c.new k l u | inr u ↦ c.high k u ∙ h k u m ]; high = λ k l. c.high k (omega arith) }) refl refl)

  -- a cell that is replaced anyway
  pub patch-set : hi ≤ length xs → (k v : ℕ) → lo ≤ k → k < hi → patch (set xs k v) lo hi f ≡ patch xs lo hi f
  patch-set fits i v a b =
      let c = patched {xs = set xs i v} {lo = lo} {hi = hi} {f = f} refl (rw (length-set xs i v) fits) in
      done {xs = xs} {ys = patch (set xs i v) lo hi f} {lo = lo} {hi = hi} {f = f}
      (record { len = c.len ∙ length-set xs i v; low = λ k l. c.low k l ∙ get_or-set_other xs i k v 0 (omega arith); new = c.new; high = λ k l. c.high k l ∙ get_or-set_other xs i k v 0 (omega arith) }) refl refl

-- ---- the invariant of a loop that leaves at the first cell that differs: the cells lo, .., hi - 1 are as the patch has them
pub record Alike (xs : List ℕ) (lo hi : ℕ) (f : ℕ → ℕ) : Type 0 where
  pub each : (k : ℕ) → lo ≤ k → k < hi → get_or xs k 0 ≡ f k

pub alike-none : {xs : List ℕ} {i j : ℕ} {f : ℕ → ℕ} → i ≡ j → Alike xs i j f
alike-none e = record { each = λ k a b. absurd (omega arith) }

pub alike-more : {xs : List ℕ} {lo i j : ℕ} {f : ℕ → ℕ} → Alike xs lo i f → get_or xs i 0 ≡ f i → j ≡ i + 1 → Alike xs lo j f
alike-more {i = i} a e n = record { each = λ k l m. elim (eq-or k i) [ inl q ↦ rw q e | inr q ↦ a.each k l (omega arith) ] }

-- ---- the invariant of a loop that goes on: whether one of the cells lo, .., hi - 1 differs
pub record Seen (xs : List ℕ) (lo hi : ℕ) (f : ℕ → ℕ) (on : Bool) : Type 0 where
  pub told : on ≡ differs xs (patch xs lo hi f)

pub seen_none : {xs : List ℕ} {i j : ℕ} {f : ℕ → ℕ} → i ≡ j → Seen xs i j f false
seen_none {xs} {i} {j} {f} e = record { told = kept xs i j f (λ k a b. absurd (omega arith)) }

pub seen_other : {xs : List ℕ} {lo i j : ℕ} {f : ℕ → ℕ} → lo ≤ i → i < length xs → (get_or xs i 0 ≡ f i → ⊥) → j ≡ i + 1 → Seen xs lo j f true
seen_other {xs} {lo} {i} {j} {f} a b h n = record { told = altered xs lo j f (omega arith) i a (omega arith) h }

-- what a patch that changes nothing says of its cells
each_same : (xs : List ℕ) (lo hi : ℕ) (f : ℕ → ℕ) → hi ≤ length xs → differs xs (patch xs lo hi f) ≡ false → (k : ℕ) → lo ≤ k → k < hi → get_or xs k 0 ≡ f k
each_same xs lo hi f fits e k a b = ap (λ (t : List ℕ). get_or t k 0) (differs-equal xs (patch xs lo hi f) e) ∙ (patched {xs = xs} {lo = lo} {hi = hi} {f = f} refl fits).new k a b

pub seen_same : {xs : List ℕ} {lo i j : ℕ} {f : ℕ → ℕ} {on : Bool} → Seen xs lo i f on → i < length xs → get_or xs i 0 ≡ f i → j ≡ i + 1 → Seen xs lo j f on
seen_same {xs} {lo} {i} {j} {f} {on} s fits same n =
    record {
      told = s.told ∙ elim (true-or (differs xs (patch xs lo i f))) [
        | inl t ↦ elim (true-or (differs xs (patch xs lo j f))) [ inl u ↦ t ∙ sym u | inr u ↦ sym (kept xs lo i f (λ k a l. each_same xs lo j f (omega arith) u k a (omega arith))) ∙ sym u ]
        | inr t ↦ t ∙ kept xs lo j f (λ k a l. elim (eq-or k i) [ inl q ↦ rw q same | inr q ↦ each_same xs lo i f (omega arith) t k a (omega arith) ])
      ];
    }

-- ---- a patch in two stretches that meet, and the code's `!=` of two parts: a patch that takes its cells from another place
pub stretches : (xs : List ℕ) (lo mid hi : ℕ) (f : ℕ → ℕ) → lo ≤ mid → mid ≤ hi → hi ≤ length xs → differs xs (patch xs lo mid f) || differs xs (patch xs mid hi f) ≡ differs xs (patch xs lo hi f)
stretches xs lo mid hi f a b fits =
    elim (true-or (differs xs (patch xs lo mid f))) [
      | inl t ↦ elim (true-or (differs xs (patch xs lo hi f))) [
        | inl u ↦ rw t (sym u)
        | inr u ↦ (let e = kept xs lo mid f (λ k c l. each_same xs lo hi f fits u k c (omega arith)) in absurd (cc (t, e)))
      ]
      | inr t ↦ rw t (ap (differs xs) (sym (patch-from xs lo hi f fits mid a b (each_same xs lo mid f (omega arith) t))))
    ]

pub length-part : (xs : List ℕ) (lo hi : ℕ) → hi ≤ length xs → length (take (hi - lo) (drop lo xs)) ≡ hi - lo
length-part xs lo hi h = simp (length-take, length-drop) (omega arith)

pub part-at : (xs : List ℕ) (lo n j : ℕ) → j < n → get_or (take n (drop lo xs)) j 0 ≡ get_or xs (lo + j) 0
part-at xs lo n j h = get_or-take n (drop lo xs) j 0 h ∙ get_or-drop lo xs j 0

module _ (xs zs : List ℕ) (lo hi n : ℕ) (f : ℕ → ℕ) (q : n ≡ hi - lo) (z : length zs ≡ hi - lo) (up : lo ≤ hi) (fits : hi ≤ length xs) (taken : (k : ℕ) → lo ≤ k → k < hi → f k ≡ get_or zs (k - lo) 0) where
  part-each : take n (drop lo xs) ≡ zs → (k : ℕ) → lo ≤ k → k < hi → get_or xs k 0 ≡ f k
  part-each e k a l =
      let i : lo + (k - lo) ≡ k = omega arith in
      ap (λ (j : ℕ). get_or xs j 0) (sym i) ∙ sym (part-at xs lo n (k - lo) (omega arith)) ∙ ap (λ (t : List ℕ). get_or t (k - lo) 0) e ∙ sym (taken k a l)

  part-equal : ((k : ℕ) → lo ≤ k → k < hi → get_or xs k 0 ≡ f k) → take n (drop lo xs) ≡ zs
  part-equal each =
      let u : length (take n (drop lo xs)) ≡ hi - lo = simp (length-take, length-drop) (omega arith) in
      ext_get_or 0 (take n (drop lo xs)) zs (u ∙ sym z)
      (λ j l.
      let i : lo + j - lo ≡ j = omega arith in
      part-at xs lo n j (omega arith) ∙ each (lo + j) (omega arith) (omega arith) ∙ taken (lo + j) (omega arith) (omega arith) ∙ ap (λ (k : ℕ). get_or zs k 0) i)

  pub part-told : {t : Bool} → t ≡ not (bytes_eq (take n (drop lo xs)) zs) → t ≡ differs xs (patch xs lo hi f)
  part-told {t} e =
      let d = bytes_eq-Decides (take n (drop lo xs)) zs in
      elim (true-or (bytes_eq (take n (drop lo xs)) zs)) [
        | inl g ↦ e ∙ ap not g ∙ kept xs lo hi f (part-each (d.0 g))
        | inr g ↦ elim (true-or (differs xs (patch xs lo hi f))) [
          | inl u ↦ e ∙ ap not g ∙ sym u
          | inr u ↦ (let o = d.1 (part-equal (each_same xs lo hi f fits u)) in absurd (cc (g, o)))
        ]
      ]

-- the same where the cells come from the cells of a memory from b on
pub parts-told : (xs ys : List ℕ) (lo hi b n m : ℕ) (f : ℕ → ℕ) → n ≡ hi - lo → m ≡ hi - lo → lo ≤ hi → hi ≤ length xs → b + (hi - lo) ≤ length ys → ((k : ℕ) → lo ≤ k → k < hi → f k ≡ get_or ys (b + (k - lo)) 0) → {t : Bool} → t ≡ not (bytes_eq (take n (drop lo xs)) (take m (drop b ys))) → t ≡ differs xs (patch xs lo hi f)
parts-told xs ys lo hi b n m f q r up fits other taken =
    part-told xs (take m (drop b ys)) lo hi n f q (simp (length-take, length-drop) (omega arith)) up fits (λ k a l. taken k a l ∙ sym (part-at ys b m (k - lo) (omega arith)))

-- where all cells of a patch are as before, so are those of them that pass a test
cond_same : (t : Bool) {x y : ℕ} → x ≡ y → x ≡ cond t y x
cond_same true e = e
cond_same false e = refl

pub kept-where : (xs : List ℕ) (lo hi : ℕ) (f : ℕ → ℕ) (test : ℕ → Bool) → hi ≤ length xs → differs xs (patch xs lo hi f) ≡ false → false ≡ differs xs (patch xs lo hi (λ k. cond (test k) (f k) (get_or xs k 0)))
kept-where xs lo hi f test fits e = kept xs lo hi _ (λ k a b. cond_same (test k) (each_same xs lo hi f fits e k a b))

-- ---- a patch that changes each of its cells by f
pub patch-changed : (xs : List ℕ) (lo hi : ℕ) (f : ℕ → ℕ) → hi ≤ length xs → patch xs lo hi (λ k. f (get_or xs k 0)) ≡ changed_where xs lo (λ k. ltb k hi) f
patch-changed xs lo hi f fits = done-upto f (patched {xs = xs} {lo = lo} {hi = hi} {f = λ k. f (get_or xs k 0)} refl fits) refl

-- ---- a memory of n rows
module _ (n r : ℕ) (xs : List ℕ) (f : ℕ → ℕ) (here : r < n) (long : length xs ≡ n * 80) where
  -- a patch within row r
  pub patch-beside : (lo hi : ℕ) → r * 80 ≤ lo → hi ≤ r * 80 + 80 → Beside n r xs (patch xs lo hi f)
  patch-beside lo hi a b =
      let c = patched {xs = xs} {lo = lo} {hi = hi} {f = f} refl (omega arith) in
      record {
        here = here;
        long = long;
        same-long = c.len ∙ long;
        kept = λ k o. elim o [ inl u ↦ sym (c.low k (omega arith)) | inr u ↦ sym (c.high k (omega arith)) ];
      }

  -- row r of a patch that runs to the end: its cells from lo on
  pub patch-row : (lo start : ℕ) → start ≡ max lo (r * 80) → differs xs (patch xs start (r * 80 + 80) f) ≡ differs (row_of r xs) (row_of r (patch xs lo (length xs) f))
  patch-row lo start e =
      row-differs (patch-beside start (r * 80 + 80) (omega arith) (omega arith))
      ∙ ap (differs (row_of r xs)) same
    where
      same : row_of r (patch xs start (r * 80 + 80) f) ≡ row_of r (patch xs lo (length xs) f)
      same =
          let c = patched {xs = xs} {lo = start} {hi = r * 80 + 80} {f = f} refl (omega arith) in
          let d = patched {xs = xs} {lo = lo} {hi = length xs} {f = f} refl (omega arith) in
          rows_same r r _ _ (omega (arith, c.len)) (omega (arith, d.len))
          (λ j l. elim (lt-or (r * 80 + j) lo) [
            | inl u ↦ c.low (r * 80 + j) (omega arith) ∙ sym (d.low (r * 80 + j) u)
            | inr u ↦ c.new (r * 80 + j) (omega arith) (omega arith) ∙ sym (d.new (r * 80 + j) u (omega arith))
          ])
