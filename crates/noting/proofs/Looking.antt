-- A mark or an enhancement changes one row; the rows of an action that is no edit; where all rows are set there is none to add. Assumes nothing.
use Prim.Native.Nat.{ℕ, ◌+◌, ◌*◌, ◌%◌, ◌≤◌, ◌<◌}
use mathlib.Core.Path.{◌≡◌, refl, sym, ap, ◌∙◌}
use mathlib.Core.Bool.{Bool, true, false, cond}
use mathlib.Core.List.{List}
use lib.ListN.{length, get_or, replicate, length-replicate}
use lib.Dec.{eqb}
use Rattle.changes.specs.declared.Changes.{Changes}
use Rattle.changes.specs.Sets.{set_of, rows_of, either}
use Rattle.changes.specs.Differing.{differing_both}
use Rattle.changes.proofs.Sets.{rows-set, all_either}
use Rattle.changes.proofs.Differing.{Beside}
use Rattle.fields.specs.Fields.{mark_of, is_in}
use Rattle.reading.specs.Action as Action
use Rattle.reading.proofs.Rules as Rules
use Rattle.screen.specs.Edits.{mark_turned}
use Rattle.looks.proofs.Pages.{marked-beside, enhanced-beside}
use Rattle.terminal.specs.declared.Terminal.{Terminal}
use Rattle.terminal.specs.State.{world}
use Rattle.terminal.specs.Acts.{stamped}
use Rattle.terminal.specs.Noted.{differing_rows}

module _ (n r : ℕ) (xs : List ℕ) (here : r < n) (long : length xs ≡ n * 80) (format : Bool) (k : ℕ) (low : r * 80 ≤ k) (high : k < r * 80 + 80) where
  turned-beside : (m : ℕ) → Beside n r xs (mark_turned format m xs k)
  unfolding mark_turned
  turned-beside m =
      Rules.either (Beside n r xs) (is_in 3 (mark_of (get_or xs k 0))) (marked-beside n r xs here long format m k low high)
      (record { here = here; long = long; same-long = long; kept = λ i o. refl })

  pub stamped-beside : (a v : ℕ) → Beside n r xs (stamped a v format xs k)
  unfolding stamped
  stamped-beside a v =
      let P = Beside n r xs in
      Rules.either P (eqb a Action.mark1) (marked-beside n r xs here long format 1 k low high)
      (Rules.either P (eqb a Action.mark4) (marked-beside n r xs here long format 4 k low high)
      (Rules.either P (eqb a Action.mark5) (marked-beside n r xs here long format 5 k low high)
      (Rules.either P (eqb a Action.turn2) (turned-beside 2)
      (Rules.either P (eqb a Action.turn3) (turned-beside 3)
      (Rules.either P (eqb a Action.turn1) (turned-beside 1)
      (enhanced-beside n r xs here long format (v % 16) k low high))))))

-- a mark in the first world, another state in the second
pub stamped-rows : (rows : ℕ) (t u : Terminal) (chars attrs attrs' : List ℕ) (b : Bool) → differing_both rows chars attrs chars (cond b attrs' attrs) ≡ differing_rows rows (world t chars attrs) (cond b (world t chars attrs') (world u chars attrs))
unfolding differing_rows
stamped-rows rows t u chars attrs attrs' true = refl
stamped-rows rows t u chars attrs attrs' false = refl

-- all rows, and any others
pub all_noted : (rows : ℕ) (c : Changes) (l : List Bool) → length l ≡ rows → c ≡ set_of (replicate rows true) → c ≡ set_of (either (rows_of rows c) l)
all_noted rows c l n e =
    e
    ∙ ap set_of
    (sym
    (ap (λ (d : Changes). either (rows_of rows d) l) e
    ∙ ap (λ (m : List Bool). either m l) (rows-set (replicate rows true) (length-replicate rows true))
    ∙ all_either l n))
