-- `looks::look_delete_char` meets its contract, by the format and the cursor's cell. Assumes nothing.
use Prim.Native.Nat.{◌+◌, ◌*◌, ◌/◌, ◌≤◌}
use native.Mathlib.Omega.{arith}
use Rattle.changes.proofs.Differing.{chars-row, no_row}
use Rattle.cursor.proofs.Place.{row_in}
use Rattle.fields.specs.Fields.{marks}
use Rattle.fields.proofs.Fields.{field-ends}
use Rattle.screen.specs.Edits.{char_deleted}
use Rattle.compare.proofs.Rows.{shifted_left-beside}
use Rattle.looks.specs.Looks.{changed}
use Rattle.looks.proofs.look_delete_char.Goals as goal

pub shift_left_differs-requires : goal.shift_left_differs-requires
unfolding changed char_deleted
shift_left_differs-requires c =
    let f = field-ends (marks c.args.attrs.now) c.cell-k.result in
    omega (arith, c.field_end-end.ensures, f.past, f.within, c.requires.chars_long, c.requires.place, c.cell-k.ensures)

pub returns-then-is_unprotected : goal.returns-then-is_unprotected
unfolding changed char_deleted
returns-then-is_unprotected c =
    let a = c.args in
    let w = c.requires in
    let x = a.chars.now in
    let y = a.attrs.now in
    let r = row_in w.place in
    let k = c.cell-k.result in
    let e = c.field_end-end.result in
    let lo : a.cursor.row * 80 ≤ k = omega (arith, c.cell-k.ensures) in
    let hi : e ≤ a.cursor.row * 80 + 80 = omega (arith, w.place, c.cell-k.ensures, c.field_end-end.ensures, (field-ends (marks y) k).within) in
    rw (c.if-format.true, ← c.cell-k.ensures, ← c.is_unprotected.ensures, c.if-is_unprotected.true, ← c.field_end-end.ensures)
    (chars-row (c.one.ensures a.rows r) y (shifted_left-beside a.rows a.cursor.row x r w.chars_long k e lo hi 32) c.shift_left_differs.ensures)

pub returns-then-format : goal.returns-then-format
unfolding changed char_deleted
returns-then-format c =
    let a = c.args in
    rw (c.if-format.true, ← c.cell-k.ensures, ← c.is_unprotected.ensures, c.if-is_unprotected.false) (no_row a.rows a.chars.now a.attrs.now (c.none.ensures a.rows))

pub returns : goal.returns
unfolding changed char_deleted
returns c =
    let a = c.args in
    let w = c.requires in
    let x = a.chars.now in
    let y = a.attrs.now in
    let r = row_in w.place in
    let k = c.cell-k.result in
    let lo : a.cursor.row * 80 ≤ k = omega (arith, c.cell-k.ensures) in
    let hi : k / 80 * 80 + 80 ≤ a.cursor.row * 80 + 80 = omega (arith, w.place, c.cell-k.ensures) in
    rw (c.if-format.false, ← c.cell-k.ensures)
    (chars-row (c.one-2.ensures a.rows r) y (shifted_left-beside a.rows a.cursor.row x r w.chars_long k (k / 80 * 80 + 80) lo hi 32) c.shift_left_differs-2.ensures)
