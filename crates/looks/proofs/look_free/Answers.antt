-- `looks::look_free` meets its contract: one row, or from the last cell all. Assumes nothing.
use Prim.Native.Nat.{ℕ, ◌+◌, ◌*◌, ◌/◌}
use mathlib.Core.Path.{sym, ap, ◌∙◌}
use native.Mathlib.Omega.{arith}
use Rattle.changes.specs.Sets.{set_of}
use Rattle.changes.specs.Differing.{differing_both}
use Rattle.changes.proofs.Differing.{chars-row}
use Rattle.cursor.proofs.Place.{row_in}
use Rattle.fields.specs.Fields.{end_of_row}
use Rattle.screen.specs.Page.{page}
use Rattle.screen.specs.Edits.{put}
use Rattle.looks.proofs.Pages.{put-beside, free-inner, free-last}
use Rattle.looks.proofs.look_free.Goals as goal

pub returns-then-k-rows : goal.returns-then-k-rows
returns-then-k-rows c =
    let a = c.args in
    let w = c.requires in
    let x = a.chars.now in
    let y = a.attrs.now in
    let r = row_in w.place in
    let k = c.cell-k.result in
    let e = c.cell-k.ensures in
    chars-row (c.one.ensures a.rows r) y (put-beside a.rows a.cursor.row x r w.chars_long k (k / 80 * 80 + 80) (omega (arith, w.place)) (omega (arith, w.place)) a.insert a.v (omega arith)) c.put_differs.ensures
    ∙ ap (λ (i : ℕ). set_of (differing_both a.rows x y (put a.insert x i (end_of_row i) a.v) y)) e
    ∙ ap set_of (sym (free-inner a.rows (page a.cursor x y) w a.insert a.v (omega (arith, e, c.if-k-rows.true))))

pub returns : goal.returns
returns c =
    let a = c.args in
    c.look_up.ensures ∙ ap set_of (sym (free-last a.rows (page a.cursor a.chars.now a.attrs.now) c.requires a.insert a.v (omega (arith, c.cell-k.ensures, c.if-k-rows.false))))
