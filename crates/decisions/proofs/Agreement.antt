-- The decisions are the rules by which the table is made: for every reading state, number and byte they come to the rules' action, a sign that is not first settled, and to the
-- reading state and the number after it. Assumes nothing.
use mathlib.Core.Path.{◌≡◌, refl}
use mathlib.Core.Bool.{◌||◌}
use mathlib.Core.List.{List, [], ◌∷◌, map}
use Prim.Native.Nat.{ℕ, ◌%◌}
use lib.Dec.{eqb, ltb}
use Rattle.cells.specs.Range.{within}
use Rattle.cells.proofs.Choices.{choose-as}
use Rattle.reading.specs.declared.Number.{Number}
use Rattle.reading.specs.Action.{ack, left, tab, line_feed, column0, trigger, to_cursor, to_enhance, column_on, column_end, row_on, row_end, window_on, window_end}
use Rattle.reading.specs.Reading as Reading
use Rattle.reading.specs.Reading.{listed, action_at, action_of, unbegun, settled, counted, next_reading}
use Rattle.decisions.specs.Decisions.{Step, step, in_plain, after_esc, after_group, in_cursor, in_enhance, in_other, decided_at, decided}

-- what an action of the byte b comes to
abbrev pub came_to : ℕ → ℕ → Number → Step
came_to a b n = step a (next_reading a) (counted a b n)

-- a list of what is f of each action gives f of what the list of the actions gives
listed-as : {A : Type 0} (f : ℕ → A) (b : ℕ) (rows : List (ℕ × ℕ)) {d : A} {other : ℕ} → d ≡ f other → listed (map (λ (r : ℕ × ℕ). (r.0, f r.1)) rows) d b ≡ f (listed rows other b)
listed-as f b [] e = e
listed-as f b (r ∷ rows) e = choose-as f (eqb b r.0) refl (listed-as f b rows e)

-- ---- state by state, an action settled first
module _ (n : Number) (b : ℕ) where
  abbrev reached : ℕ → Step
  reached a = came_to (settled a n) b n

  plain : in_plain b ≡ reached (Reading.in_plain b)
  unfolding settled counted next_reading
  plain =
      listed-as reached b ((5, ack) ∷ (8, left) ∷ (9, tab) ∷ (10, line_feed) ∷ (13, column0) ∷ (17, trigger) ∷ [])
      (choose-as reached (within 32 126 b) refl refl)

  after-esc : after_esc b ≡ reached (listed Reading.after_esc 0 b)
  unfolding settled counted next_reading
  after-esc = listed-as reached b Reading.after_esc refl

  after-group : after_group b ≡ reached (Reading.in_group b)
  unfolding settled counted next_reading
  after-group = listed-as reached b ((97, to_cursor) ∷ (100, to_enhance) ∷ []) (choose-as reached (within 97 122 b) refl refl)

  in-cursor : in_cursor n b ≡ reached (Reading.in_cursor b)
  unfolding settled counted next_reading
  in-cursor =
      let made : ℕ → Step = λ a. came_to a b n in
      choose-as reached (eqb b 43) (choose-as made (unbegun n) refl refl)
      (choose-as reached (eqb b 45) (choose-as made (unbegun n) refl refl)
      (choose-as reached (within 48 57 b) refl
      (listed-as reached b ((99, column_on) ∷ (67, column_end) ∷ (114, row_on) ∷ (82, row_end) ∷ (121, window_on) ∷ (89, window_end) ∷ []) refl)))

  in-enhance : in_enhance b ≡ reached (Reading.in_enhance b)
  unfolding settled counted next_reading
  in-enhance = choose-as reached (within 64 79 b) refl refl

  in-other : in_other b ≡ reached (Reading.in_other b)
  unfolding settled counted next_reading
  in-other = choose-as reached (within 64 90 b || ltb b 32) refl refl

  at_byte : (s : ℕ) → decided_at s n b ≡ reached (action_at s b)
  unfolding settled counted next_reading
  at_byte s =
      choose-as reached (eqb b 27) refl
      (choose-as reached (eqb s 0) plain
      (choose-as reached (eqb s 1) after-esc
      (choose-as reached (eqb s 2) after-group
      (choose-as reached (eqb s 3) in-cursor
      (choose-as reached (eqb s 4) in-enhance
      (choose-as reached (eqb s 5) in-other refl))))))

pub decided-as : (s : ℕ) (n : Number) (byte : ℕ) → decided s n byte ≡ came_to (settled (action_of s byte) n) (byte % 128) n
unfolding decided action_of
decided-as s n byte = at_byte n (byte % 128) s
