-- `looks::look_insert_row` meets its contract, by the format. Assumes nothing.
use Rattle.changes.proofs.Differing.{no_row}
use Rattle.screen.specs.Edits.{row_inserted}
use Rattle.looks.specs.Looks.{changed}
use Rattle.looks.proofs.look_insert_row.Goals as goal

pub returns-then-format : goal.returns-then-format
unfolding changed row_inserted
returns-then-format c =
    let a = c.args in
    let x = a.chars.now in
    let y = a.attrs.now in
    rw c.if-format.true (no_row a.rows x y (c.none.ensures a.rows))

pub returns : goal.returns
unfolding changed row_inserted
returns c = rw c.if-format.false c.look_down.ensures
