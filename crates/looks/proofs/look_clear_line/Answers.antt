-- `looks::look_clear_line` meets its contract, by the format and the cursor's cell. Assumes nothing.
use Prim.Native.Nat.{ℕ, ◌+◌, ◌*◌, ◌/◌, ◌≤◌}
use mathlib.Core.Path.{ap₂, ◌∙◌}
use mathlib.Core.Bool.{◌||◌}
use mathlib.Core.List.{List}
use native.Mathlib.Omega.{arith}
use Rattle.cells.specs.Memory.{filled}
use Rattle.changes.specs.Differing.{differs}
use Rattle.changes.proofs.Differing.{both-row, no_row}
use Rattle.cursor.proofs.Place.{row_in}
use Rattle.fields.specs.Fields.{marks, stripped}
use Rattle.fields.proofs.Fields.{field-ends}
use Rattle.screen.specs.Edits.{cleared, line_cleared}
use Rattle.compare.proofs.Patches.{patch-changed}
use Rattle.compare.proofs.Rows.{filled_beside, changed-beside}
use Rattle.looks.specs.Looks.{changed}
use Rattle.looks.proofs.look_clear_line.Goals as goal

pub rest_differs-requires : goal.rest_differs-requires
unfolding changed line_cleared cleared filled
rest_differs-requires c =
    let f = field-ends (marks c.args.attrs.now) c.cell-k.result in
    omega (arith, c.field_end-end.ensures, f.past, f.within, c.requires.chars_long, c.requires.place, c.cell-k.ensures)

pub returns-then-is_unprotected : goal.returns-then-is_unprotected
unfolding changed line_cleared cleared filled
returns-then-is_unprotected c =
    let a = c.args in
    let w = c.requires in
    let x = a.chars.now in
    let y = a.attrs.now in
    let r = row_in w.place in
    let k = c.cell-k.result in
    let e = c.field_end-end.result in
    let lo : a.cursor.row * 80 ≤ k = omega (arith, c.cell-k.ensures) in
    let hi : e ≤ a.cursor.row * 80 + 80 = omega (arith, w.place, c.cell-k.ensures, c.field_end-end.ensures, (field-ends (marks y) k).within) in
    rw (c.if-format.true, ← c.cell-k.ensures, ← c.is_unprotected.ensures, c.if-is_unprotected.true, ← c.field_end-end.ensures)
    (both-row (c.one.ensures a.rows r)
    (changed-beside a.rows a.cursor.row x r w.chars_long k e lo hi (λ (v : ℕ). 32))
    (changed-beside a.rows a.cursor.row y r w.attrs_long k e lo hi stripped)
    (c.rest_differs.ensures
    ∙ ap₂ (λ (p q : List ℕ). differs x p || differs y q)
    (patch-changed x k e (λ (v : ℕ). 32) (omega (arith, hi, r, w.chars_long)))
    (patch-changed y k e stripped (omega (arith, hi, r, w.attrs_long)))))

pub returns-then-format : goal.returns-then-format
unfolding changed line_cleared cleared filled
returns-then-format c =
    let a = c.args in
    rw (c.if-format.true, ← c.cell-k.ensures, ← c.is_unprotected.ensures, c.if-is_unprotected.false) (no_row a.rows a.chars.now a.attrs.now (c.none.ensures a.rows))

pub returns : goal.returns
unfolding changed line_cleared cleared filled
returns c =
    let a = c.args in
    let w = c.requires in
    let x = a.chars.now in
    let y = a.attrs.now in
    let r = row_in w.place in
    let k = c.cell-k.result in
    let lo : a.cursor.row * 80 ≤ k = omega (arith, c.cell-k.ensures) in
    let hi : k / 80 * 80 + 80 ≤ a.cursor.row * 80 + 80 = omega (arith, w.place, c.cell-k.ensures) in
    rw (c.if-format.false, ← c.cell-k.ensures)
    (both-row (c.one-2.ensures a.rows r)
    (filled_beside a.rows a.cursor.row x r w.chars_long k (k / 80 * 80 + 80) lo hi 32)
    (filled_beside a.rows a.cursor.row y r w.attrs_long k (k / 80 * 80 + 80) lo hi 0)
    c.line_differs.ensures)
