-- `looks::look_clear_display` meets its contract, by the format. Assumes nothing.
use Prim.Native.Nat.{ℕ, ◌*◌}
use mathlib.Core.Path.{sym, ap, ap₂, ◌∙◌}
use Rattle.cells.specs.Memory.{filled, changed_where}
use Rattle.changes.specs.Sets.{set_of}
use Rattle.changes.specs.Differing.{differing_both}
use Rattle.cursor.specs.Cursor.{cell_of}
use Rattle.fields.specs.Fields.{marks, stripped, unprotected}
use Rattle.screen.specs.Edits.{cleared, display_cleared}
use Rattle.looks.specs.Looks.{changed}
use Rattle.looks.proofs.look_clear_display.Goals as goal

pub returns-then-format : goal.returns-then-format
unfolding changed display_cleared cleared
returns-then-format c =
    let a = c.args in
    let x = a.chars.now in
    let y = a.attrs.now in
    rw c.if-format.true (c.look_wipe.ensures ∙ ap (λ (i : ℕ). set_of (differing_both a.rows x y (changed_where x i (unprotected (marks y)) (λ v. 32)) (changed_where y i (unprotected (marks y)) stripped))) c.cell-k.ensures)

pub returns : goal.returns
unfolding changed display_cleared cleared
returns c =
    let a = c.args in
    let w = c.requires in
    let x = a.chars.now in
    let y = a.attrs.now in
    rw c.if-format.false (c.look_clear.ensures ∙ ap (λ (i : ℕ). set_of (differing_both a.rows x y (filled x i (a.rows * 80) 32) (filled y i (a.rows * 80) 0))) c.cell-k.ensures ∙ ap₂ (λ (m n : ℕ). set_of (differing_both a.rows x y (filled x (cell_of a.cursor) m 32) (filled y (cell_of a.cursor) n 0))) (sym w.chars_long) (sym w.attrs_long))
