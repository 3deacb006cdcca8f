-- `looks::look_delete_row` meets its contract, by the format. Assumes nothing.
use Prim.Native.Nat.{ℕ, ◌-◌, ◌*◌}
use mathlib.Core.Path.{ap, ◌∙◌}
use mathlib.Core.List.{List}
use lib.Seq.{set-get_or}
use Rattle.cells.specs.Memory.{moved_up}
use Rattle.changes.specs.Sets.{set_of}
use Rattle.changes.specs.Differing.{differing_both}
use Rattle.changes.proofs.Differing.{no_row}
use Rattle.screen.specs.Edits.{row_deleted}
use Rattle.looks.specs.Looks.{changed}
use Rattle.looks.proofs.look_delete_row.Goals as goal

pub returns-then-format : goal.returns-then-format
unfolding changed row_deleted
returns-then-format c =
    let a = c.args in
    let x = a.chars.now in
    let y = a.attrs.now in
    rw c.if-format.true (no_row a.rows x y (c.none.ensures a.rows))

pub returns : goal.returns
unfolding changed row_deleted
returns c =
    let a = c.args in
    let x = a.chars.now in
    let y = a.attrs.now in
    rw c.if-format.false (c.look_up.ensures ∙ ap (λ (z : List ℕ). set_of (differing_both a.rows x y (moved_up z (a.cursor.row * 80) 32) (moved_up y (a.cursor.row * 80) 0))) (set-get_or x (a.rows * 80 - 1) 0))
