-- Only proofs and inner contracts need this: a run of text that is copied at once. Assumes nothing.
use Rattle.std.specs.Prelude.{ℕ, ◌+◌, ◌-◌, ◌%◌, ◌≤◌, ◌<◌, ◌≡◌, Bool, true, List, length, get_or}
use Rattle.cells.specs.Memory.{patch}
use Rattle.changes.specs.Differing.{differs}
use Rattle.cells.specs.Range.{within}
use Rattle.fields.specs.Fields.{end_of_row}
use Rattle.runs.specs.declared.Stretch.{Stretch}

-- text is 32 to 126, a byte modulo 128
abbrev pub is_text : ℕ → Bool
is_text byte = within 32 126 (byte % 128)

-- as many text bytes as r counts, from byte `from` on, stand in the cells from `cell` on, each modulo 128, up to the row's end at most; the last cell is not reached.
-- r tells whether a cell changed
pub record Copied (bytes : List ℕ) (from : ℕ) (chars : List ℕ) (cell : ℕ) (r : Stretch) (left : List ℕ) : Type 0 where
  pub some : 0 < r.count
  pub bytes_upto : from + r.count ≤ length bytes
  pub cells_upto : cell + r.count < length chars
  pub row_upto : cell + r.count ≤ end_of_row cell
  pub texts : (j : ℕ) → j < r.count → is_text (get_or bytes (from + j) 0) ≡ true
  pub told : r.changed ≡ differs chars left
  pub cells : left ≡ patch chars cell (cell + r.count) (λ k. get_or bytes (from + (k - cell)) 0 % 128)
