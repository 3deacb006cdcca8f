-- The codes that are listed are those of two ranges: a code below 274 by a computed test, one above by none of the list. Assumes nothing.
use Prim.Native.Nat.{ℕ, ◌≤◌, ◌<◌}
use mathlib.Core.Path.{◌≡◌, refl, sym, ◌∙◌}
use mathlib.Core.Logic.{inl, inr}
use mathlib.Core.Bool.{Bool, true, false, cond, ◌||◌, not, and-eq-true_iff}
use native.Mathlib.Omega.{arith}
use native.Mathlib.Decide.{dec_lt}
use lib.Dec.{leb, eqb}
use borrow.Author.Tests.{ne_eqb, le-leb, lt-leb, leb-true, eqb-true}
use Rattle.cells.specs.Range.{within}
use Rattle.changes.proofs.Differing.{true-or}
use Rattle.reading.specs.Action.{rest}
use Rattle.reading.proofs.Computed.{below}
use Rattle.key.specs.Keys.{key_action}

-- in one of the two ranges
abbrev ranged : ℕ → Bool
ranged code = within 32 126 code || within 256 273 code

-- the law as a test
abbrev holds : Bool → ℕ → Bool
holds insert code =
    let b = not (ranged code) in
    cond (eqb (key_action code insert) rest) b (not b)

held : (a b : Bool) → cond a b (not b) ≡ true → a ≡ b
held true true e = refl
held true false e = sym e
held false true e = e
held false false e = refl

low : (insert : Bool) (code : ℕ) → code < 274 → holds insert code ≡ true
unfolding key_action
low true code h = below 274 (holds true) refl code h
low false code h = below 274 (holds false) refl code h

high : (insert : Bool) (code : ℕ) → 274 ≤ code → eqb (key_action code insert) rest ≡ not (ranged code)
unfolding key_action
high insert code h =
    rw (
      le-leb 32 code (omega arith),
      lt-leb code 126 (omega arith),
      le-leb 256 code (omega arith),
      lt-leb code 273 (omega arith),
      far 256 (omega arith),
      far 257 (omega arith),
      far 258 (omega arith),
      far 259 (omega arith),
      far 260 (omega arith),
      far 261 (omega arith),
      far 262 (omega arith),
      far 263 (omega arith),
      far 264 (omega arith),
      far 265 (omega arith),
      far 266 (omega arith),
      far 267 (omega arith),
      far 268 (omega arith),
      far 269 (omega arith),
      far 270 (omega arith),
      far 271 (omega arith),
      far 272 (omega arith),
      far 273 (omega arith),
    )
  where
    far : (k : ℕ) → k < 274 → eqb code k ≡ false
    far k l = ne_eqb code k (λ z. omega arith)

pub listed-ranged : (code : ℕ) (insert : Bool) → eqb (key_action code insert) rest ≡ not (ranged code)
listed-ranged code insert = go (dec_lt code 274)
  where
    go : Dec (code < 274) → eqb (key_action code insert) rest ≡ not (ranged code)
    go (yes h) = held (eqb (key_action code insert) rest) (not (ranged code)) (low insert code h)
    go (no h) = high insert code (omega arith)

-- a code of neither range is not listed
pub unlisted : (code : ℕ) (insert : Bool) → (32 ≤ code → code ≤ 126 → ⊥) → (256 ≤ code → code ≤ 273 → ⊥) → key_action code insert ≡ rest
unlisted code insert p q = eqb-true (key_action code insert) rest (listed-ranged code insert ∙ rw (apart 32 126 p, apart 256 273 q) refl)
  where
    apart : (low high : ℕ) → (low ≤ code → code ≤ high → ⊥) → within low high code ≡ false
    apart low high p = elim (true-or (within low high code)) [
      | inl t ↦ let e = (and-eq-true_iff (leb low code) (leb code high)).0 t in absurd (p (leb-true low code e.0) (leb-true code high e.1))
      | inr f ↦ f
    ]
