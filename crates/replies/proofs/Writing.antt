-- A loop that writes bytes one after the other: what is still to be written, written where the loop stands, gives all of them. Assumes nothing.
use Prim.Native.Nat.{ℕ, ◌+◌, ◌≤◌, ◌<◌}
use mathlib.Core.Path.{◌≡◌, refl, sym, ap, ap₂, ◌∙◌}
use mathlib.Core.List.{List, [], ◌∷◌, ◌++◌}
use native.Mathlib.Numerals.{add-one}
use native.Mathlib.Omega.{arith}
use lib.ListN.{length, set, length-append, length-set}
use lib.Seq.{set_split}
use Rattle.cells.specs.Memory.{written}
use Rattle.cells.proofs.Splice.{length-written, written_none, written_twice}

-- one byte written is a cell set
pub written_one : (xs : List ℕ) (at v : ℕ) → at < length xs → set xs at v ≡ written xs at (v ∷ [])
unfolding written
written_one xs at v h = set_split xs at v h ∙ rw (add-one at)

pub written_next : (xs : List ℕ) (at v : ℕ) (bytes : List ℕ) → at < length xs → written (set xs at v) (at + 1) bytes ≡ written xs at (v ∷ bytes)
written_next xs at v bytes h = ap (λ (l : List ℕ). written l (at + 1) bytes) (written_one xs at v h) ∙ written_twice xs at (v ∷ []) bytes (omega arith)

-- `bytes` go into the memory xs from `at` on: the loop has left the memory ys, and `left` is still to be written from cell n on
pub record Writing (xs : List ℕ) (at : ℕ) (bytes ys : List ℕ) (n : ℕ) (left : List ℕ) : Type 0 where
  pub size : length ys ≡ length xs
  pub room : n + length left ≤ length ys
  pub ends : n + length left ≡ at + length bytes
  pub same : written ys n left ≡ written xs at bytes

module _ {xs : List ℕ} {at : ℕ} {bytes : List ℕ} where
  pub none_yet : at + length bytes ≤ length xs → Writing xs at bytes xs at bytes
  none_yet h = record { size = refl; room = h; ends = refl; same = refl }

  -- what is left, said otherwise
  pub left_is : {ys : List ℕ} {n : ℕ} {left rest : List ℕ} → Writing xs at bytes ys n left → left ≡ rest → Writing xs at bytes ys n rest
  left_is {ys} {n} w e = rw e at w

  -- one byte more
  pub one_more : {ys : List ℕ} {n : ℕ} {v : ℕ} {left : List ℕ} → Writing xs at bytes ys n (v ∷ left) → Writing xs at bytes (set ys n v) (n + 1) left
  one_more {ys} {n} {v} {left} w =
      let z : length (set ys n v) ≡ length ys = length-set ys n v in
      record {
        size = z ∙ w.size;
        room = omega (arith, w.room);
        ends = omega (arith, w.ends);
        same = written_next ys n v left (omega (arith, w.room)) ∙ w.same;
      }

  -- several bytes more
  pub many_more : {ys zs : List ℕ} {n m : ℕ} {left : List ℕ} (more : List ℕ) → Writing xs at bytes ys n (more ++ left) → zs ≡ written ys n more → m ≡ n + length more → Writing xs at bytes zs m left
  many_more {ys} {zs} {n} {m} {left} more w e f =
      let l : length (more ++ left) ≡ length more + length left = length-append more left in
      let z : length zs ≡ length ys = ap length e ∙ length-written ys n more (omega (arith, w.room)) in
      record {
        size = z ∙ w.size;
        room = omega (arith, w.room);
        ends = omega (arith, w.ends);
        same = ap₂ (λ (k : List ℕ) (j : ℕ). written k j left) e f ∙ written_twice ys n more left (omega (arith, w.room)) ∙ w.same;
      }

  -- all bytes
  pub all-written : {ys : List ℕ} {n : ℕ} → Writing xs at bytes ys n [] → ys ≡ written xs at bytes
  all-written {ys} {n} w = sym (written_none ys n) ∙ w.same

  pub all-ends : {ys : List ℕ} {n : ℕ} → Writing xs at bytes ys n [] → n ≡ at + length bytes
  all-ends w = omega (arith, w.ends)
