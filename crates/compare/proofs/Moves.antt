-- Row r of each edit that changes several rows: rows that move up or down, cells that are cleared. Assumes nothing.
use Prim.Native.Nat.{ℕ, ◌+◌, ◌-◌, ◌*◌, ◌≤◌, ◌<◌, max}
use mathlib.Core.Path.{◌≡◌, refl, sym, ap, ap₂, ◌∙◌}
use mathlib.Core.Bool.{Bool, true, false, cond, ◌||◌}
use mathlib.Core.List.{List}
use native.Mathlib.Omega.{arith}
use lib.ListN.{length, get_or, set, length-set}
use lib.Seq.{get_or-set_same, get_or-set_other, set-get_or}
use lib.Dec.{ltb}
use borrow.Author.Tests.{lt-ltb, le-ltb}
use Rattle.cells.specs.Memory.{patch, filled, changed_where, moved_up, moved_down}
use Rattle.cells.proofs.Patch.{patched, done-where}
use Rattle.cells.proofs.Splice.{moved_up-patch, moved_down-patch}
use Rattle.changes.specs.Differing.{differs}
use Rattle.changes.specs.Rows.{row_of}
use Rattle.changes.proofs.Differing.{or-first, or-second}
use Rattle.compare.proofs.Patches.{kept, altered, patch-as, patch-upto, patch-set, patch-row}

-- ---- the cells that each replaces in row r
module _ (n r : ℕ) (xs : List ℕ) (here : r < n) (long : length xs ≡ n * 80) where
  -- row `at` goes, the rows below it move up, the last becomes v; the memory's last cell counts as e
  abbrev from_below : ℕ → ℕ → ℕ → ℕ
  from_below v e k = cond (ltb (k + 80) (n * 80)) (get_or (set xs (n * 80 - 1) e) (k + 80) 0) v

  up-row : (at v e start : ℕ) → at < n → start ≡ max (at * 80) (r * 80) → differs xs (patch xs start (r * 80 + 80) (from_below v e)) ≡ differs (row_of r xs) (row_of r (moved_up (set xs (n * 80 - 1) e) (at * 80) v))
  up-row at v e start h s =
      let ys = set xs (n * 80 - 1) e in
      let l : length ys ≡ n * 80 = length-set xs (n * 80 - 1) e ∙ long in
      patch-row n r xs (from_below v e) here long (at * 80) start s
      ∙ ap (λ (zs : List ℕ). differs (row_of r xs) (row_of r zs))
      (sym (moved_up-patch ys (at * 80) v (omega arith) ∙ ap (λ (m : ℕ). patch ys (at * 80) m (λ k. cond (ltb (k + 80) m) (get_or ys (k + 80) 0) v)) l ∙ patch-set xs (at * 80) (n * 80) (from_below v e) (omega arith) (n * 80 - 1) e (omega arith) (omega arith) ∙ ap (λ (m : ℕ). patch xs (at * 80) m (from_below v e)) (sym long)))

  -- a row of v enters at row `at`, the rows from there on move down
  abbrev from_above : ℕ → ℕ → ℕ → ℕ
  from_above at v k = cond (ltb k (at * 80 + 80)) v (get_or xs (k - 80) 0)

  down-row : (at v start : ℕ) → at < n → start ≡ max (at * 80) (r * 80) → differs xs (patch xs start (r * 80 + 80) (from_above at v)) ≡ differs (row_of r xs) (row_of r (moved_down xs (at * 80) v))
  down-row at v start h s =
      patch-row n r xs (from_above at v) here long (at * 80) start s
      ∙ ap (λ (zs : List ℕ). differs (row_of r xs) (row_of r zs)) (sym (moved_down-patch xs (at * 80) v (omega arith)))

  -- all cells from cell k on become v
  clear-row : (k v start : ℕ) → start ≡ max k (r * 80) → differs xs (filled xs start (r * 80 + 80) v) ≡ differs (row_of r xs) (row_of r (filled xs k (n * 80) v))
  unfolding filled
  clear-row k v start s = patch-row n r xs (λ i. v) here long k start s ∙ ap (λ (m : ℕ). differs (row_of r xs) (row_of r (patch xs k m (λ i. v)))) long

  -- those that pass a test are changed by f
  where-row : (test : ℕ → Bool) (f : ℕ → ℕ) (k start : ℕ) → start ≡ max k (r * 80) → differs xs (patch xs start (r * 80 + 80) (λ i. cond (test i) (f (get_or xs i 0)) (get_or xs i 0))) ≡ differs (row_of r xs) (row_of r (changed_where xs k test f))
  where-row test f k start s =
      patch-row n r xs (λ i. cond (test i) (f (get_or xs i 0)) (get_or xs i 0)) here long k start s
      ∙ ap (λ (zs : List ℕ). differs (row_of r xs) (row_of r zs)) (done-where test f (patched {xs = xs} {lo = k} {hi = length xs} {f = λ i. cond (test i) (f (get_or xs i 0)) (get_or xs i 0)} refl (omega arith)) refl)

-- both memories, from cell `start` of row r on
module _ (n r : ℕ) (chars attrs : List ℕ) (here : r < n) (long : length chars ≡ n * 80) (also : length attrs ≡ n * 80) (k start : ℕ) (s : start ≡ max k (r * 80)) where
  pub clear_both : differs chars (filled chars start (r * 80 + 80) 32) || differs attrs (filled attrs start (r * 80 + 80) 0) ≡ differs (row_of r chars) (row_of r (filled chars k (n * 80) 32)) || differs (row_of r attrs) (row_of r (filled attrs k (n * 80) 0))
  clear_both = ap₂ (λ (a b : Bool). a || b) (clear-row n r chars here long k 32 start s) (clear-row n r attrs here also k 0 start s)

  pub where-both : (test : ℕ → Bool) (f g : ℕ → ℕ) → differs chars (patch chars start (r * 80 + 80) (λ i. cond (test i) (f (get_or chars i 0)) (get_or chars i 0))) || differs attrs (patch attrs start (r * 80 + 80) (λ i. cond (test i) (g (get_or attrs i 0)) (get_or attrs i 0))) ≡ differs (row_of r chars) (row_of r (changed_where chars k test f)) || differs (row_of r attrs) (row_of r (changed_where attrs k test g))
  where-both test f g = ap₂ (λ (a b : Bool). a || b) (where-row n r chars here long test f k start s) (where-row n r attrs here also test g k start s)

-- ---- by cases
module _ (n r at : ℕ) (xs : List ℕ) (here : r < n) (long : length xs ≡ n * 80) (inside : at < n) (v : ℕ) where
  pub up_above : (e : ℕ) → r < at → false ≡ differs (row_of r xs) (row_of r (moved_up (set xs (n * 80 - 1) e) (at * 80) v))
  up_above e h = kept xs (at * 80) (r * 80 + 80) _ (λ k a b. absurd (omega arith)) ∙ up-row n r xs here long at v e (at * 80) inside (omega arith)

  pub up-last : (e : ℕ) → at ≤ r → r + 1 ≡ n → differs xs (filled xs (r * 80) (r * 80 + 80) v) ≡ differs (row_of r xs) (row_of r (moved_up (set xs (n * 80 - 1) e) (at * 80) v))
  unfolding filled
  up-last e h l =
      ap (differs xs) (patch-as xs (r * 80) (r * 80 + 80) (λ k. v) (omega arith) (from_below n r xs here long v e) (λ k a b. sym (simp (le-ltb (k + 80) (n * 80) (omega arith)))))
      ∙ up-row n r xs here long at v e (r * 80) inside (omega arith)

  below : (e k : ℕ) → k + 80 < n * 80 - 1 → get_or xs (k + 80) 0 ≡ from_below n r xs here long v e k
  below e k h = sym (get_or-set_other xs (n * 80 - 1) (k + 80) e 0 (omega arith)) ∙ sym (simp (lt-ltb (k + 80) (n * 80) (omega arith)))

  pub up-inner : (e : ℕ) → at ≤ r → r + 2 < n → differs xs (patch xs (r * 80) (r * 80 + 80) (λ k. get_or xs (r * 80 + 80 + (k - r * 80)) 0)) ≡ differs (row_of r xs) (row_of r (moved_up (set xs (n * 80 - 1) e) (at * 80) v))
  up-inner e h l =
      ap (differs xs) (patch-as xs (r * 80) (r * 80 + 80) _ (omega arith) (from_below n r xs here long v e)
      (λ k a b. let i : r * 80 + 80 + (k - r * 80) ≡ k + 80 = omega arith in rw i (below e k (omega arith))))
      ∙ up-row n r xs here long at v e (r * 80) inside (omega arith)

  pub up_first : (e : ℕ) → at ≤ r → r + 2 < n → (get_or xs (r * 80) 0 ≡ get_or xs (r * 80 + 80) 0 → ⊥) → true ≡ differs (row_of r xs) (row_of r (moved_up (set xs (n * 80 - 1) e) (at * 80) v))
  up_first e h l d =
      altered xs (r * 80) (r * 80 + 80) (from_below n r xs here long v e) (omega arith) (r * 80) (omega arith) (omega arith) (λ q. d (q ∙ sym (below e (r * 80) (omega arith))))
      ∙ up-row n r xs here long at v e (r * 80) inside (omega arith)

  at-end : (e : ℕ) → r + 2 ≡ n → from_below n r xs here long v e (r * 80 + 79) ≡ e
  at-end e l =
      let i : r * 80 + 79 + 80 ≡ n * 80 - 1 = omega arith in
      simp (lt-ltb (r * 80 + 79 + 80) (n * 80) (omega arith)) (rw i (get_or-set_same xs (n * 80 - 1) e 0 (omega arith)))

  pub up_second : (e : ℕ) → at ≤ r → r + 2 ≡ n → (get_or xs (r * 80 + 79) 0 ≡ e → ⊥) → true ≡ differs (row_of r xs) (row_of r (moved_up (set xs (n * 80 - 1) e) (at * 80) v))
  up_second e h l d =
      altered xs (r * 80) (r * 80 + 80) (from_below n r xs here long v e) (omega arith) (r * 80 + 79) (omega arith) (omega arith) (λ q. d (q ∙ at-end e l))
      ∙ up-row n r xs here long at v e (r * 80) inside (omega arith)

  pub up-second-same : (e : ℕ) → at ≤ r → r + 2 ≡ n → get_or xs (r * 80 + 79) 0 ≡ e → differs xs (patch xs (r * 80) (r * 80 + 79) (λ k. get_or xs (r * 80 + 80 + (k - r * 80)) 0)) ≡ differs (row_of r xs) (row_of r (moved_up (set xs (n * 80 - 1) e) (at * 80) v))
  up-second-same e h l d =
      ap (differs xs) (patch-as xs (r * 80) (r * 80 + 79) _ (omega arith) (from_below n r xs here long v e)
      (λ k a b. let i : r * 80 + 80 + (k - r * 80) ≡ k + 80 = omega arith in rw i (below e k (omega arith)))
      ∙ sym (patch-upto xs (r * 80) (r * 80 + 80) (from_below n r xs here long v e) (omega arith) (r * 80 + 79) (omega arith) (omega arith)
      (λ k a b. let i : k ≡ r * 80 + 79 = omega arith in rw i (d ∙ sym (at-end e l)))))
      ∙ up-row n r xs here long at v e (r * 80) inside (omega arith)

  -- the memory's last cell as it is
  own : differs (row_of r xs) (row_of r (moved_up (set xs (n * 80 - 1) (get_or xs (n * 80 - 1) 0)) (at * 80) v)) ≡ differs (row_of r xs) (row_of r (moved_up xs (at * 80) v))
  own = ap (λ (zs : List ℕ). differs (row_of r xs) (row_of r (moved_up zs (at * 80) v))) (set-get_or xs (n * 80 - 1) 0)

  pub up-copy : at ≤ r → r + 1 < n → differs xs (patch xs (r * 80) (r * 80 + 80) (λ k. get_or xs (r * 80 + 80 + (k - r * 80)) 0)) ≡ differs (row_of r xs) (row_of r (moved_up xs (at * 80) v))
  up-copy h l =
      let e = get_or xs (n * 80 - 1) 0 in
      ap (differs xs) (patch-as xs (r * 80) (r * 80 + 80) _ (omega arith) (from_below n r xs here long v e)
      (λ k a b.
      let i : r * 80 + 80 + (k - r * 80) ≡ k + 80 = omega arith in
      rw i (ap (λ (zs : List ℕ). get_or zs (k + 80) 0) (sym (set-get_or xs (n * 80 - 1) 0)) ∙ sym (simp (lt-ltb (k + 80) (n * 80) (omega arith))))))
      ∙ up-row n r xs here long at v e (r * 80) inside (omega arith)
      ∙ own

  pub down-above : r < at → false ≡ differs (row_of r xs) (row_of r (moved_down xs (at * 80) v))
  down-above h = kept xs (at * 80) (r * 80 + 80) _ (λ k a b. absurd (omega arith)) ∙ down-row n r xs here long at v (at * 80) inside (omega arith)

  pub down-here : r ≡ at → differs xs (filled xs (r * 80) (r * 80 + 80) v) ≡ differs (row_of r xs) (row_of r (moved_down xs (at * 80) v))
  unfolding filled
  down-here e =
      ap (differs xs) (patch-as xs (r * 80) (r * 80 + 80) (λ k. v) (omega arith) (from_above n r xs here long at v) (λ k a b. sym (simp (lt-ltb k (at * 80 + 80) (omega arith)))))
      ∙ down-row n r xs here long at v (r * 80) inside (omega arith)

  above : (k : ℕ) → at < r → r * 80 ≤ k → get_or xs (k - 80) 0 ≡ from_above n r xs here long at v k
  above k h l = sym (simp (le-ltb k (at * 80 + 80) (omega arith)))

  pub down-under : at < r → differs xs (patch xs (r * 80) (r * 80 + 80) (λ k. get_or xs (r * 80 - 80 + (k - r * 80)) 0)) ≡ differs (row_of r xs) (row_of r (moved_down xs (at * 80) v))
  down-under h =
      ap (differs xs) (patch-as xs (r * 80) (r * 80 + 80) _ (omega arith) (from_above n r xs here long at v)
      (λ k a b. let i : r * 80 - 80 + (k - r * 80) ≡ k - 80 = omega arith in rw i (above k h a)))
      ∙ down-row n r xs here long at v (r * 80) inside (omega arith)

-- ---- both memories, where the rows below row `at` move up and the last character counts as e
abbrev pub up_told : ℕ → ℕ → ℕ → List ℕ → List ℕ → ℕ → Bool
up_told n r at chars attrs e = differs (row_of r chars) (row_of r (moved_up (set chars (n * 80 - 1) e) (at * 80) 32)) || differs (row_of r attrs) (row_of r (moved_up attrs (at * 80) 0))

module _ (n r at : ℕ) (chars attrs : List ℕ) (here : r < n) (long : length chars ≡ n * 80) (also : length attrs ≡ n * 80) (inside : at < n) (e : ℕ) where
  pub both-above : r < at → false ≡ up_told n r at chars attrs e
  both-above h = or-second (sym (up_above n r at chars here long inside 32 e h)) (up_above n r at attrs here also inside 0 _ h ∙ own n r at attrs here also inside 0)

  pub both-last : at ≤ r → r + 1 ≡ n → differs chars (filled chars (r * 80) (r * 80 + 80) 32) || differs attrs (filled attrs (r * 80) (r * 80 + 80) 0) ≡ up_told n r at chars attrs e
  both-last h l = ap₂ (λ (a b : Bool). a || b) (up-last n r at chars here long inside 32 e h l) (up-last n r at attrs here also inside 0 _ h l ∙ own n r at attrs here also inside 0)

  pub both-copy : (first : ℕ) → first ≡ r * 80 → at ≤ r → r + 2 < n → differs chars (patch chars first (first + 80) (λ k. get_or chars (first + 80 + (k - first)) 0)) || differs attrs (patch attrs first (first + 80) (λ k. get_or attrs (first + 80 + (k - first)) 0)) ≡ up_told n r at chars attrs e
  both-copy first q h l = rw q (ap₂ (λ (a b : Bool). a || b) (up-inner n r at chars here long inside 32 e h l) (up-copy n r at attrs here also inside 0 h (omega arith)))

  pub both_first : (first under : ℕ) → first ≡ r * 80 → under ≡ r * 80 + 80 → at ≤ r → r + 2 < n → (get_or chars first 0 ≡ get_or chars under 0 → ⊥) → true ≡ up_told n r at chars attrs e
  both_first first under q u h l d = or-first _ (sym (up_first n r at chars here long inside 32 e h l (λ same. d (rw q (rw u same)))))
