-- A table whose rows are those of the rules is a table of the rules, and has their action at each entry. Assumes nothing.
use mathlib.Core.Path.{◌≡◌, ◌∙◌, ap, ap₂, sym}
use mathlib.Core.List.{List, [], ◌∷◌, map}
use Prim.Native.Nat.{ℕ, zero, suc, ◌+◌, ◌*◌, ◌/◌, ◌%◌, ◌<◌}
use native.Mathlib.Omega.{arith}
use lib.ListN.{get_or}
use Rattle.std.proofs.Math.ListN.{get_or-map}
use Rattle.std.proofs.lemmas.List.FromFn.{get_or-map-range_with_len}
use Rattle.reading.specs.declared.action.Action.{Action}
use Rattle.reading.specs.declared.action.Action.TheVariants.{Rest}
use Rattle.reading.specs.Action.{number_of}
use Rattle.reading.specs.Reading.{action_at}
use Rattle.table.specs.Table.{Tabled, entry_of, numbers_of, row_of}

module _ (table : List (List Action)) where
  -- the number at a reading state and a byte
  at_entry : (s b : ℕ) → s < 7 → b < 128 → get_or (numbers_of table) (s * 128 + b) 0 ≡ entry_of table s b
  unfolding numbers_of
  at_entry s b hs hb =
      let row : (s * 128 + b) / 128 ≡ s = omega arith in
      let column : (s * 128 + b) % 128 ≡ b = omega arith in
      get_or-map-range_with_len (λ k. entry_of table (k / 128) (k % 128)) 0 896 (s * 128 + b) (s * 128 + b) 0 (omega arith) (omega arith)
      ∙ ap₂ (entry_of table) row column

  -- a table of the rules has their action
  pub ruled : Tabled (numbers_of table) → (s b : ℕ) → s < 7 → b < 128 → entry_of table s b ≡ action_at s b
  ruled t s b hs hb = sym (at_entry s b hs hb) ∙ t.entry s b hs hb

  -- each row is that of the rules
  tabled : ((s : ℕ) → s < 7 → map number_of (get_or table s []) ≡ row_of s) → Tabled (numbers_of table)
  tabled rows =
      record {
        entry =
            λ s b hs hb.
            at_entry s b hs hb ∙ sym (get_or-map number_of (get_or table s []) b Rest) ∙ ap (λ (row : List ℕ). get_or row b 0) (rows s hs)
            ∙ get_or-map-range_with_len (action_at s) 0 128 b b 0 hb (omega arith);
      }

-- seven such rows are a table of the rules
pub rows_tabled : (p a g c e o z : List Action) → map number_of p ≡ row_of 0 → map number_of a ≡ row_of 1 → map number_of g ≡ row_of 2 → map number_of c ≡ row_of 3
    → map number_of e ≡ row_of 4 → map number_of o ≡ row_of 5 → map number_of z ≡ row_of 6 → Tabled (numbers_of (p ∷ a ∷ g ∷ c ∷ e ∷ o ∷ z ∷ []))
rows_tabled p a g c e o z h0 h1 h2 h3 h4 h5 h6 = tabled _ by_row
  where
    by_row : (s : ℕ) → s < 7 → map number_of (get_or (p ∷ a ∷ g ∷ c ∷ e ∷ o ∷ z ∷ []) s []) ≡ row_of s
    by_row zero h = h0
    by_row (suc zero) h = h1
    by_row (suc (suc zero)) h = h2
    by_row (suc (suc (suc zero))) h = h3
    by_row (suc (suc (suc (suc zero)))) h = h4
    by_row (suc (suc (suc (suc (suc zero))))) h = h5
    by_row (suc (suc (suc (suc (suc (suc zero)))))) h = h6
    by_row (suc (suc (suc (suc (suc (suc (suc s))))))) h = absurd (omega arith)
