-- A table of the actions (document 01, 'Reading host bytes'): 896 entries, seven reading states by 128 byte values. Assumes nothing.
use Rattle.std.specs.Prelude.{◌≡◌, List, [], map, ℕ, ◌+◌, ◌*◌, ◌/◌, ◌%◌, ◌<◌, get_or}
use Rattle.std.specs.List.{range_with_len}
use Rattle.reading.specs.declared.action.Action.{Action}
use Rattle.reading.specs.declared.action.Action.TheVariants.{Rest}
use Rattle.reading.specs.Action.{number_of}
use Rattle.reading.specs.Reading.{action_at}

-- it equals the rules at each entry
pub record Tabled (table : List ℕ) : Type 0 where
  pub entry : (s b : ℕ) → s < 7 → b < 128 → get_or table (s * 128 + b) 0 ≡ action_at s b

-- the number of the action of a reading state and a byte in the code's table, a row for each state
abbrev pub entry_of : List (List Action) → ℕ → ℕ → ℕ
entry_of table s b = number_of (get_or (get_or table s []) b Rest)

-- the numbers of its actions, row after row
unfoldable pub numbers_of : List (List Action) → List ℕ
numbers_of table = map (λ k. entry_of table (k / 128) (k % 128)) (range_with_len 0 896)

-- the row of the rules for a reading state
abbrev pub row_of : ℕ → List ℕ
row_of s = map (action_at s) (range_with_len 0 128)
