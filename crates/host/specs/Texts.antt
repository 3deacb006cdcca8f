-- Only proofs and inner contracts need this: where text goes to the cursor's cell, so that a run of it may be copied at once. Assumes nothing.
use Rattle.std.specs.Prelude.{ℕ, ◌+◌, ◌*◌, Bool, ◌&&◌, not, eqb, ltb}
use Rattle.cursor.specs.Cursor.{cell_of}
use Rattle.runs.specs.Texts.{is_text}
use Rattle.terminal.specs.declared.Terminal.{Terminal}

-- a text byte goes to the cursor's cell, and the cursor right: reading state 0, format and insert off, not at the last cell
unfoldable pub types_freely : ℕ → Terminal → ℕ → Bool
types_freely rows t byte =
    is_text byte && (eqb t.reading 0 && (not t.format && (not t.insert && ltb (cell_of t.cursor + 1) (rows * 80))))
