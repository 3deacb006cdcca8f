-- The actions of a sequence, one byte of it, and the steps of a loop that follows its bytes. Assumes nothing.
use Prim.Native.Nat.{ℕ, suc, ◌+◌, ◌%◌, ◌≤◌, ◌<◌}
use mathlib.Core.Path.{◌≡◌, refl, sym, ap, ◌∙◌}
use mathlib.Core.Bool.{true, false, cond, and-eq-true_iff}
use mathlib.Core.Logic.{inl, inr}
use mathlib.Core.List.{List}
use native.Mathlib.Omega.{arith}
use native.Mathlib.Numerals.{add-one}
use lib.ListN.{length, drop, get_or}
use lib.Dec.{leb}
use lib.Seq.{drop-cons, drop-length}
use borrow.Author.Tests.{leb-true, lt-leb}
use Rattle.cells.specs.Range.{within}
use Rattle.cells.proofs.Choices.{choose-by}
use Rattle.cells.proofs.Patch.{lt-or, eq-or}
use Rattle.cursor.specs.declared.Cursor.{Cursor}
use Rattle.cursor.specs.Cursor.{InPlace}
use Rattle.cursor.proofs.Addressing.{to-column-in, to-row-in, to-window-row-in}
use Rattle.reading.specs.declared.Number.{Number}
use Rattle.reading.specs.Action as Action
use Rattle.reading.specs.Reading.{action_of, settled, counted, next_reading, SoundNumber}
use Rattle.reading.proofs.Computed.{or_right}
use Rattle.reading.proofs.Numbers.{sound-kept}
use Rattle.reading.proofs.Rules.{either, next_small}
use Rattle.runs.specs.declared.Reader.{Reader}
use Rattle.runs.specs.Sequences.{in_sequence, addressed, reader, turned, followed}

-- ---- the actions of a sequence
at_one : (P : ℕ → Type 0) {a : ℕ} (k : ℕ) → k ≤ a → P k → (suc k ≤ a → P a) → P a
at_one P {a} k l p q = elim (eq-or a k) [ inl e ↦ rw e p | inr h ↦ q (omega arith) ]

-- what holds at each of them, in their order, holds at any
pub each : (P : ℕ → Type 0) → P Action.rest → P Action.esc → P Action.to_group → P Action.to_set → P Action.to_cursor → P Action.to_enhance → P Action.to_other → P Action.plus → P Action.minus → P Action.digit → P Action.column_on → P Action.column_end → P Action.row_on → P Action.row_end → P Action.window_on → P Action.window_end → P Action.stay → (a : ℕ) → in_sequence a ≡ true → P a
unfolding in_sequence
each P p0 p1 p46 p47 p48 p49 p50 p51 p52 p53 p54 p55 p56 p57 p58 p59 p60 a e =
    elim (lt-or 1 a) [
      | inl h ↦ (
          let x = (and-eq-true_iff (leb 46 a) _).0 (or_right (leb a 1) _ e (lt-leb a 1 h)) in
          at_one P 46 (leb-true _ _ x.0) p46 (λ a46. at_one P 47 a46 p47 (λ a47. at_one P 48 a47 p48 (λ a48. at_one P 49 a48 p49 (λ a49. at_one P 50 a49 p50 (λ a50.
          at_one P 51 a50 p51 (λ a51. at_one P 52 a51 p52 (λ a52. at_one P 53 a52 p53 (λ a53. at_one P 54 a53 p54 (λ a54. at_one P 55 a54 p55 (λ a55.
          at_one P 56 a55 p56 (λ a56. at_one P 57 a56 p57 (λ a57. at_one P 58 a57 p58 (λ a58. at_one P 59 a58 p59 (λ a59. at_one P 60 a59 p60 (λ a60. absurd (omega (arith, leb-true a 60 x.1))))))))))))))))))
      | inr h ↦ at_one P 0 (omega arith) p0 (λ a0. at_one P 1 a0 p1 (λ a1. absurd (omega arith)))
    ]

-- ---- an action of a sequence keeps the cursor in place
addressed-in : {rows : ℕ} {c : Cursor} → InPlace rows c → (a : ℕ) (n : Number) → InPlace rows (addressed rows a n c)
unfolding addressed
addressed-in {rows} {c} g a n =
    either (InPlace rows) (within Action.column_on Action.column_end a) (to-column-in g n.sign n.value)
    (either (InPlace rows) (within Action.row_on Action.row_end a) (to-row-in g n.sign n.value)
    (either (InPlace rows) (within Action.window_on Action.window_end a) (to-window-row-in g n.sign n.value) g))

-- ---- one byte
-- a reader that the loop can have: a reading state, a number that it can hold, and a cursor in place
pub record Reads (rows : ℕ) (r : Reader) : Type 0 where
  pub reading_in : r.reading < 7
  pub number_in : SoundNumber r.reading r.number
  pub place : InPlace rows r.cursor

module _ (rows a b next : ℕ) (r : Reader) where
  -- a byte of a sequence
  pub turned_on : in_sequence (settled a r.number) ≡ true → turned rows a b next r ≡ (let s = settled a r.number in reader (addressed rows s r.number r.cursor) (counted s b r.number) (next_reading s) next)
  unfolding turned
  turned_on t = rw t

  -- a byte of none
  turned-off : in_sequence (settled a r.number) ≡ false → turned rows a b next r ≡ r
  unfolding turned
  turned-off t = rw t

  -- either leaves such a reader
  pub turned-reads : Reads rows r → Reads rows (turned rows a b next r)
  unfolding turned
  turned-reads g =
      either (Reads rows) (in_sequence (settled a r.number))
      (record { reading_in = next_small _; number_in = sound-kept _ _ g.number_in; place = addressed-in g.place _ _ }) g

-- ---- the steps of a loop that follows the bytes
module _ (rows : ℕ) (bytes : List ℕ) (r : Reader) where
  pub follow-end : r.at ≡ length bytes → r ≡ followed rows (drop r.at bytes) r
  unfolding followed
  follow-end e = rw (ap (λ (k : ℕ). drop k bytes) e ∙ drop-length bytes)

  module _ {a : ℕ} {q : Reader} (h : r.at < length bytes) (e : a ≡ action_of r.reading (get_or bytes r.at 0)) (p : q ≡ turned rows a (get_or bytes r.at 0 % 128) (r.at + 1) r) where
    followed-by : followed rows (drop r.at bytes) r ≡ cond (in_sequence (settled a r.number)) (followed rows (drop (r.at + 1) bytes) q) r
    unfolding followed
    followed-by = rw (p, e, drop-cons bytes r.at 0 h, add-one r.at)

    goes_on : in_sequence (settled a r.number) ≡ true → q.at ≡ r.at + 1
    goes_on t = ap (λ (x : Reader). x.at) (p ∙ turned_on rows a _ _ r t)

    pub follow-stop : q.at ≡ r.at → r ≡ followed rows (drop r.at bytes) r
    follow-stop z =
        choose-by (λ (x : Reader). r ≡ x) (in_sequence (settled a r.number)) (λ t. absurd (omega (arith, goes_on t))) (λ _. refl)
        ∙ sym followed-by

    pub follow-turn : (q.at ≡ r.at → ⊥) → (q.at ≡ r.at + 1) × (followed rows (drop q.at bytes) q ≡ followed rows (drop r.at bytes) r)
    follow-turn z =
        rw followed-by
        (choose-by (λ (x : Reader). (q.at ≡ r.at + 1) × (followed rows (drop q.at bytes) q ≡ x)) (in_sequence (settled a r.number))
        (λ t. let n = goes_on t in (n, ap (λ (k : ℕ). followed rows (drop k bytes) q) n))
        (λ t. absurd (z (ap (λ (x : Reader). x.at) (p ∙ turned-off rows a _ _ r t)))))
