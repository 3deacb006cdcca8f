-- Only proofs and inner contracts need this: the state after a key, from the cursor after it, and the keys that write. Assumes nothing.
use Rattle.std.specs.Prelude.{ℕ, cond, not, eqb}
use Rattle.cells.specs.Range.{within}
use Rattle.cursor.specs.declared.Cursor.{Cursor}
use Rattle.reading.specs.Action as Action
use Rattle.terminal.specs.declared.Terminal.{Terminal}
use Rattle.terminal.specs.State.{placed, moded}
use Rattle.key.specs.Keys.{enter}

-- besides the cursor, 266 changes insert mode over, and ENTER asks for a block
unfoldable pub pressed : ℕ → Cursor → Terminal → Terminal
pressed code c t = moded (placed t c) t.format (cond (eqb code 266) (not t.insert) t.insert) t.lock (cond (eqb code enter) 4 t.pending)

-- the action of a key that writes; `rest` for every other code
unfoldable pub edits : ℕ → ℕ
edits code =
    cond (within 32 126 code) Action.text
    (cond (eqb code 264) Action.clear_display
    (cond (eqb code 265) Action.clear_line
    (cond (eqb code 267) Action.delete_char
    Action.rest)))
