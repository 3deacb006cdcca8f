-- A list of refusals that comes to 0 passed each of its tests; what the tests that calls begin with say of a whole list. Assumes nothing.
use Prim.Native.Nat.{ℕ}
use mathlib.Core.Path.{◌≡◌, refl, sym}
use mathlib.Core.Bool.{Bool, true, false, cond, not}
use native.Mathlib.Omega.{arith}
use Rattle.std.specs.Prelude.{List, [], ◌∷◌}
use Rattle.terminal.specs.declared.refusal.Refusal.{Refusal}
use Rattle.terminal.specs.declared.refusal.Refusal.TheVariants.{Size, State, Key, Barred, Target, Character, Room, Format, Field, Length, Form, Part, Owner}
use Rattle.terminal.specs.Numbers.{number_of}
use Rattle.terminal.specs.Refusals.{◌when◌, first_refusal}
use Rattle.terminal.specs.Refusals as tests

-- the first test does not apply, and so on with the others (`first_refusal` unfolds to such a choice)
pub passed : {n later : ℕ} (applies : Bool) → (n ≡ 0 → ⊥) → cond applies n later ≡ 0 → (applies ≡ false) × (later ≡ 0)
passed true h e = absurd (h e)
passed false h e = (refl, e)

-- no refusal has the number 0
pub not-done : (e : Refusal) → number_of e ≡ 0 → ⊥
not-done Size e = omega arith
not-done State e = omega arith
not-done Key e = omega arith
not-done Barred e = omega arith
not-done Target e = omega arith
not-done Character e = omega arith
not-done Room e = omega arith
not-done Format e = omega arith
not-done Field e = omega arith
not-done Length e = omega arith
not-done Form e = omega arith
not-done Part e = omega arith
not-done Owner e = omega arith

-- where the first two tests come to 0, what they ask for is so
pub opened : (a b : Bool) → 0 ≡ first_refusal ((1 when not a) ∷ (2 when not b) ∷ []) → (a ≡ true) × (b ≡ true)
unfolding first_refusal
opened true true e = (refl, refl)
opened true false e = absurd (not-done State (sym e))
opened false b e = absurd (not-done Size (sym e))

-- where they refuse, the whole list does, by the same number
pub closed : (a b : Bool) (later : List tests.Refusal) (e : Refusal) → number_of e ≡ first_refusal ((1 when not a) ∷ (2 when not b) ∷ []) → number_of e ≡ first_refusal ((1 when not a) ∷ (2 when not b) ∷ later)
unfolding first_refusal
closed true true later e h = absurd (not-done e h)
closed true false later e h = h
closed false b later e h = h
