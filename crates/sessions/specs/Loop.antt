-- What a program's loop over the parts of a session rests on: a part that `run_records` ran, and what is left to run, print what all would. Assumes nothing.
use Rattle.std.specs.Prelude.{ℕ, ◌*◌, ◌≤◌, ◌<◌, ◌≡◌, ◌⊎◌, List, [], ◌++◌, length, take, drop}
use Rattle.terminal.specs.State.{World}
use Rattle.sessions.specs.Session.{split, printed}
use Rattle.sessions.specs.Parts.{Batch}

-- a part of a session ends between two records, or the session ends with it
abbrev pub Ends : List ℕ → List ℕ → Type 0
Ends part more = ((k : ℕ) × (length part ≡ k * 84)) ⊎ (more ≡ [])

-- `part` was run from a number and a terminal on, with some room for lines, and left l; `more` comes after it
pub record Resumed (rows number : ℕ) (w : World) (part more room : List ℕ) (l : Batch) : Type 0 where
  -- what is left of the part is a part again, and there is less of it where a line fits
  pub taken_in : l.taken ≤ length part
  pub ends : Ends (drop l.taken part) more
  pub goes_on : 0 < length part → 63 ≤ length room → 0 < l.taken
  -- the lines written, and then what is printed from the number and the terminal that came back on, are what is printed of all
  pub written_in : l.written ≤ length l.lines
  pub prints : take l.written l.lines ++ printed rows l.number l.world (split (drop l.taken part ++ more)) ≡ printed rows number w (split (part ++ more))
