-- What it means that format mode stays on while host bytes come. Assumes nothing.
use Rattle.std.specs.Prelude.{ℕ, ◌≡◌, true, List, [], ◌∷◌}
use Rattle.terminal.specs.State.{World}
use Rattle.streams.specs.Streams.{stepped}

-- format mode is on in w, and after each of the bytes that are run from it
abbrev pub StaysOn : ℕ → List ℕ → World → Type 0
StaysOn rows [] w = w.state.format ≡ true
StaysOn rows (b ∷ bytes) w = (w.state.format ≡ true) × StaysOn rows bytes (stepped rows b w)
