-- `written`, `posted`, `moved_up` and `moved_down`: the splices are the patches that the loops make; a part that was lent on; writing in steps. Assumes nothing.
use mathlib.Core.Path.{◌≡◌, refl, sym, ap, ◌∙◌}
use mathlib.Core.Logic.{inl, inr}
use mathlib.Core.Bool.{cond}
use mathlib.Core.List.{List, [], ◌++◌, append-nil, append_assoc}
use Prim.Native.Nat.{ℕ, ◌+◌, ◌-◌, ◌≤◌, ◌<◌}
use native.Mathlib.Omega.{arith}
use lib.ListN.{length, get_or, take, drop, replicate, length-append, length-take, length-drop, length-replicate, get_or-replicate, get_or-append, drop_of_length-le, take-append-drop}
use lib.Seq.{ext_get_or, length-take-le, get_or-take, get_or-drop, get_or-append-add, take_at, drop_at, take-append-le, take-append-add, drop-append-add, take-take, drop-drop}
use lib.Dec.{ltb}
use borrow.Author.Tests.{lt-ltb, le-ltb}
use Rattle.cells.specs.Memory.{patch, written, posted, moved_up, moved_down}
use Rattle.cells.proofs.Patch.{lt-or, length-patch, Cells, done}

-- a cell of the second list of an append
pub get_or-right : (xs ys : List ℕ) (k : ℕ) → length xs ≤ k → get_or (xs ++ ys) k 0 ≡ get_or ys (k - length xs) 0
get_or-right xs ys k h =
    let e : k ≡ length xs + (k - length xs) = omega arith in
    ap (λ (n : ℕ). get_or (xs ++ ys) n 0) e ∙ get_or-append-add xs ys (k - length xs) 0

-- ---- written: its length, and the patch that it is
module _ (xs : List ℕ) (at : ℕ) (bytes : List ℕ) (fits : at + length bytes ≤ length xs) where
  pub length-written : length (written xs at bytes) ≡ length xs
  unfolding written
  length-written = simp (length-append, length-take-le at xs (omega arith), length-drop) (omega arith)

  -- as a patch by any function that gives the bytes
  written-by : (hi : ℕ) (f : ℕ → ℕ) → at + length bytes ≡ hi → ((j : ℕ) → j < length bytes → get_or bytes j 0 ≡ f (at + j)) → written xs at bytes ≡ patch xs at hi f
  unfolding written
  written-by hi f e h =
      let t : length (take at xs) ≡ at = length-take-le at xs (omega arith) in
      let r = bytes ++ drop (at + length bytes) xs in
      let c : Cells xs (written xs at bytes) at (at + length bytes) f =
      record {
        len = length-written;
        low = λ k l. get_or-append (take at xs) r 0 k (omega arith) ∙ get_or-take at xs k 0 l;
        new = λ k l m.
            let u : at + (k - at) ≡ k = omega arith in
            get_or-right (take at xs) r k (omega arith) ∙ rw t (get_or-append bytes _ 0 (k - at) (omega arith) ∙ h (k - at) (omega arith) ∙ ap f u);
        high = λ k l.
            let u : at + length bytes + (k - at - length bytes) ≡ k = omega arith in
            get_or-right (take at xs) r k (omega arith) ∙ rw t (get_or-right bytes _ (k - at) (omega arith) ∙ rw (get_or-drop, u));
      } in
      done c refl e

  pub written-patch : written xs at bytes ≡ patch xs at (at + length bytes) (λ k. get_or bytes (k - at) 0)
  written-patch = written-by (at + length bytes) _ refl (λ j l. let u : at + j - at ≡ j = omega arith in sym (simp u))

-- the new cells run to the memory's end
written-end : (xs ys : List ℕ) (at : ℕ) → at + length ys ≡ length xs → take at xs ++ ys ≡ written xs at ys
unfolding written
written-end xs ys at e =
    let r : drop (at + length ys) xs ≡ [] = drop_of_length-le xs {i = at + length ys} (omega arith) in
    ap (λ (t : List ℕ). take at xs ++ t) (sym (append-nil ys) ∙ ap (λ (t : List ℕ). ys ++ t) (sym r))

-- the part `&mut s[from..to]` has to - from cells
pub length_part : (xs : List ℕ) (from to : ℕ) → to ≤ length xs → length (take (to - from) (drop from xs)) ≡ to - from
length_part xs from to fits = simp (length-take, length-drop) (omega arith)

-- lent on, it comes back as ys
pub lent : (xs ys : List ℕ) (from to : ℕ) → length ys ≡ to - from → take from xs ++ (ys ++ drop (to - from) (drop from xs)) ≡ written xs from ys
unfolding written
lent xs ys from to n = ap (λ (t : List ℕ). take from xs ++ (ys ++ t)) (drop-drop (to - from) from xs ∙ ap (λ (k : ℕ). drop (from + k) xs) (sym n))

-- lent on and filled with v, it comes back as v
pub lent-filled : (xs ys : List ℕ) (from to v : ℕ) → from ≤ to → to ≤ length xs → ys ≡ replicate (length (take (to - from) (drop from xs))) v → take from xs ++ (ys ++ drop (to - from) (drop from xs)) ≡ patch xs from to (λ k. v)
lent-filled xs ys from to v order fits e =
    let n : length ys ≡ to - from = ap length e ∙ length-replicate (length (take (to - from) (drop from xs))) v ∙ length_part xs from to fits in
    lent xs ys from to n ∙ written-by xs from ys (omega arith) to (λ k. v) (omega arith)
    (λ j l. ap (λ (t : List ℕ). get_or t j 0) e ∙ get_or-replicate (length (take (to - from) (drop from xs))) j v 0 (omega (arith, length_part xs from to fits)))

-- ---- text, then blanks: each cell, and a list that has these cells
pub text-cell : (text : List ℕ) (n v j : ℕ) → j < length text + n → get_or (text ++ replicate n v) j 0 ≡ cond (ltb j (length text)) (get_or text j 0) v
text-cell text n v j l =
    elim (lt-or j (length text)) [
      | inl m ↦ get_or-append text (replicate n v) 0 j m ∙ sym (simp (lt-ltb j (length text) m))
      | inr m ↦ get_or-right text (replicate n v) j m ∙ get_or-replicate n (j - length text) v 0 (omega arith) ∙ sym (simp (le-ltb j (length text) m))
    ]

pub is-text : (text ys : List ℕ) (n v : ℕ) → length ys ≡ length text + n → ((j : ℕ) → j < length text + n → get_or ys j 0 ≡ cond (ltb j (length text)) (get_or text j 0) v) → ys ≡ text ++ replicate n v
is-text text ys n v e h =
    let m : length (text ++ replicate n v) ≡ length text + n = simp (length-append, length-replicate) in
    ext_get_or 0 ys (text ++ replicate n v) (e ∙ sym m) (λ j l. h j (omega arith) ∙ sym (text-cell text n v j (omega arith)))

-- ---- a post
module _ (xs : List ℕ) (from to : ℕ) (text : List ℕ) (order : from ≤ to) (fits : to ≤ length xs) (short : length text ≤ to - from) where
  post-length : from + length (text ++ replicate (to - from - length text) 32) ≡ to
  post-length = simp (length-append, length-replicate) (omega arith)

  pub posted-patch : posted xs from to text ≡ patch xs from to (λ k. cond (ltb (k - from) (length text)) (get_or text (k - from) 0) 32)
  unfolding posted
  posted-patch =
      written-by xs from _ (omega (arith, post-length)) to _ post-length
      (λ j l.
      let u : from + j - from ≡ j = omega arith in
      text-cell text (to - from - length text) 32 j (omega (arith, post-length)) ∙ sym (simp u))

  pub length-posted : length (posted xs from to text) ≡ length xs
  length-posted = ap length posted-patch ∙ length-patch xs from to _

-- ---- the cells from `from` on move by some cells, towards `from` and away from it
module _ (xs : List ℕ) (from by v : ℕ) (fits : from + by ≤ length xs) where
  nearer-length : from + length (drop (from + by) xs ++ replicate by v) ≡ length xs
  nearer-length = simp (length-append, length-drop, length-replicate) (omega arith)

  nearer-patch : take from xs ++ (drop (from + by) xs ++ replicate by v) ≡ patch xs from (length xs) (λ k. cond (ltb (k + by) (length xs)) (get_or xs (k + by) 0) v)
  nearer-patch =
      let d : length (drop (from + by) xs) ≡ length xs - (from + by) = length-drop (from + by) xs in
      written-end xs _ from nearer-length ∙ written-by xs from _ (omega (arith, nearer-length)) (length xs) _ nearer-length
      (λ j l. elim (lt-or (from + j + by) (length xs)) [
        | inl w ↦ (
            let u : from + by + j ≡ from + j + by = omega arith in
            get_or-append (drop (from + by) xs) _ 0 j (omega arith) ∙ get_or-drop (from + by) xs j 0 ∙ rw u (sym (simp (lt-ltb (from + j + by) (length xs) w))))
        | inr w ↦ get_or-right (drop (from + by) xs) _ j (omega arith) ∙ get_or-replicate by (j - length (drop (from + by) xs)) v 0 (omega (arith, nearer-length)) ∙ sym (simp (le-ltb (from + j + by) (length xs) w))
      ])

  farther-length : from + length (replicate by v ++ take (length xs - (from + by)) (drop from xs)) ≡ length xs
  farther-length = simp (length-append, length-take, length-drop, length-replicate) (omega arith)

  farther-patch : take from xs ++ (replicate by v ++ take (length xs - (from + by)) (drop from xs)) ≡ patch xs from (length xs) (λ k. cond (ltb k (from + by)) v (get_or xs (k - by) 0))
  farther-patch =
      let d : length (replicate by v) ≡ by = length-replicate by v in
      let r = take (length xs - (from + by)) (drop from xs) in
      written-end xs _ from farther-length ∙ written-by xs from _ (omega (arith, farther-length)) (length xs) _ farther-length
      (λ j l. elim (lt-or j by) [
        | inl w ↦ get_or-append (replicate by v) r 0 j (omega arith) ∙ get_or-replicate by j v 0 w ∙ sym (simp (lt-ltb (from + j) (from + by) (omega arith)))
        | inr w ↦ (
            let u : from + (j - by) ≡ from + j - by = omega arith in
            get_or-right (replicate by v) r j (omega arith) ∙ rw d (get_or-take (length xs - (from + by)) (drop from xs) (j - by) 0 (omega (arith, farther-length)) ∙ get_or-drop from xs (j - by) 0 ∙ rw u (sym (simp (le-ltb (from + j) (from + by) (omega arith))))))
      ])

-- ---- the row moves
module _ (xs : List ℕ) (from v : ℕ) (fits : from + 80 ≤ length xs) where
  pub moved_up-patch : moved_up xs from v ≡ patch xs from (length xs) (λ k. cond (ltb (k + 80) (length xs)) (get_or xs (k + 80) 0) v)
  unfolding moved_up
  moved_up-patch = nearer-patch xs from 80 v fits

  pub moved_down-patch : moved_down xs from v ≡ patch xs from (length xs) (λ k. cond (ltb k (from + 80)) v (get_or xs (k - 80) 0))
  unfolding moved_down
  moved_down-patch = farther-patch xs from 80 v fits

  pub length-moved_up : length (moved_up xs from v) ≡ length xs
  length-moved_up = ap length moved_up-patch ∙ length-patch xs from (length xs) _

  pub length-moved_down : length (moved_down xs from v) ≡ length xs
  length-moved_down = ap length moved_down-patch ∙ length-patch xs from (length xs) _

-- ---- writing in steps
pub written_none : (xs : List ℕ) (at : ℕ) → written xs at [] ≡ xs
unfolding written
written_none xs at = let e : at + 0 ≡ at = omega arith in rw e (take-append-drop at xs)

module _ (xs : List ℕ) (at : ℕ) (bytes : List ℕ) (fits : at ≤ length xs) where
  head-length : length (take at xs ++ bytes) ≡ at + length bytes
  head-length = simp (length-append, length-take-le at xs fits)

  -- up to the bytes' end: what stood before them, then the bytes
  pub take-written : take (at + length bytes) (written xs at bytes) ≡ take at xs ++ bytes
  unfolding written
  take-written = rw (← append_assoc (take at xs) bytes) (take_at (take at xs ++ bytes) _ _ head-length)

  -- after them: what stood there
  pub drop-written : drop (at + length bytes) (written xs at bytes) ≡ drop (at + length bytes) xs
  unfolding written
  drop-written = rw (← append_assoc (take at xs) bytes) (drop_at (take at xs ++ bytes) _ _ head-length)

  -- before them: what stood there
  pub take-written-before : (n : ℕ) → n ≤ at → take n (written xs at bytes) ≡ take n xs
  unfolding written
  take-written-before n h = take-append-le n (take at xs) _ (rw (length-take-le at xs fits) h) ∙ take-take n at xs h

-- written behind other bytes
pub written_behind : (out xs : List ℕ) (at : ℕ) (bytes : List ℕ) → written (out ++ xs) (length out + at) bytes ≡ out ++ written xs at bytes
unfolding written
written_behind out xs at bytes =
    let e : length out + at + length bytes ≡ length out + (at + length bytes) = omega arith in
    rw (e, take-append-add out xs at, drop-append-add out xs (at + length bytes)) (append_assoc out (take at xs) _)

pub written_twice : (xs : List ℕ) (at : ℕ) (a b : List ℕ) → at ≤ length xs → written (written xs at a) (at + length a) b ≡ written xs at (a ++ b)
unfolding written
written_twice xs at a b h =
    let ys = written xs at a in
    let n : at + length a + length b ≡ at + length (a ++ b) = simp length-append (omega arith) in
    let e : drop (at + length a + length b) ys ≡ drop (at + length (a ++ b)) xs =
    sym (drop-drop (length b) (at + length a) ys) ∙ ap (drop (length b)) (drop-written xs at a h) ∙ drop-drop (length b) (at + length a) xs ∙ ap (λ (i : ℕ). drop i xs) n in
    ap (λ (t : List ℕ). t ++ (b ++ drop (at + length a + length b) ys)) (take-written xs at a h) ∙ ap (λ (t : List ℕ). (take at xs ++ a) ++ (b ++ t)) e ∙ simp append_assoc
