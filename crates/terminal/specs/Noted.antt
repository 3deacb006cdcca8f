-- The rows that changed: a host byte, a key and a post add the rows whose cells differ after it from before it to those of the state. Assumes nothing.
use Rattle.std.specs.Prelude.{ℕ, Bool, List}
use Rattle.changes.specs.Sets.{set_of, rows_of, either}
use Rattle.changes.specs.Differing.{differing_both}
use Rattle.terminal.specs.State.{World, stated, flagged}

-- v before, w after: for each row whether a character or an attribute byte differs
unfoldable pub differing_rows : ℕ → World → World → List Bool
differing_rows rows v w = differing_both rows v.chars v.attrs w.chars w.attrs

-- w, its rows those of v and those in which the two differ, no others
abbrev pub noted : ℕ → World → World → World
noted rows v w = stated w (flagged w.state (set_of (either (rows_of rows v.state.changes) (differing_rows rows v w))))
