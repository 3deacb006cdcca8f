-- `looks::look_in` meets its contract, by what the search for the target finds and by the test of the character. Assumes nothing.
use Prim.Native.Nat.{◌/◌, ◌<◌}
use mathlib.Core.Path.{sym, ◌∙◌}
use native.Mathlib.Omega.{arith}
use Rattle.changes.proofs.Differing.{chars-row, no_row}
use Rattle.fields.specs.Fields.{marks, field_end}
use Rattle.fields.proofs.Fields.{field-ends}
use Rattle.screen.specs.Edits.{typed_at_cell, typed_in}
use Rattle.screen.proofs.Target.{target-inside}
use Rattle.looks.specs.Looks.{changed}
use Rattle.looks.proofs.Pages.{put-beside}
use Rattle.looks.proofs.look_in.Goals as goal

pub kind_at-kind-requires : goal.kind_at-kind-requires
unfolding changed typed_in typed_at_cell
kind_at-kind-requires c = target-inside c.args.attrs.now c.cell.result _ (omega (arith, c.requires.attrs_long, c.requires.place, c.cell.ensures)) (sym c.find_target-to.ensures ∙ c.in-Some.is)

pub put_in_differs-requires : goal.put_in_differs-requires
unfolding changed typed_in typed_at_cell
put_in_differs-requires c =
    let m = target-inside c.args.attrs.now c.cell.result _ (omega (arith, c.requires.attrs_long, c.requires.place, c.cell.ensures)) (sym c.find_target-to.ensures ∙ c.in-Some.is) in
    omega (arith, c.requires.attrs_long, c.requires.chars_long, m)

pub one-requires : goal.one-requires
unfolding changed typed_in typed_at_cell
one-requires c =
    let m = target-inside c.args.attrs.now c.cell.result _ (omega (arith, c.requires.attrs_long, c.requires.place, c.cell.ensures)) (sym c.find_target-to.ensures ∙ c.in-Some.is) in
    omega (arith, c.requires.attrs_long, c.requires.few, m)

pub returns-then-allows : goal.returns-then-allows
unfolding changed typed_in typed_at_cell
returns-then-allows c =
    let m = target-inside c.args.attrs.now c.cell.result _ (omega (arith, c.requires.attrs_long, c.requires.place, c.cell.ensures)) (sym c.find_target-to.ensures ∙ c.in-Some.is) in
    let a = c.args in
    let w = c.requires in
    let x = a.chars.now in
    let y = a.attrs.now in
    let k = c.in-Some.k in
    let f = field-ends (marks y) k in
    let r : k / 80 < a.rows = omega (arith, w.attrs_long, m) in
    rw (← c.cell.ensures, ← c.find_target-to.ensures, c.in-Some.is, ← c.kind_at-kind.ensures, ← c.allows.ensures, c.if-allows.true)
    (chars-row (c.one.ensures a.rows r) y (put-beside a.rows (k / 80) x r w.chars_long k (field_end (marks y) k) (omega arith) f.within a.insert a.v f.past) c.put_in_differs.ensures)

pub returns-else-allows : goal.returns-else-allows
unfolding changed typed_in typed_at_cell
returns-else-allows c =
    let a = c.args in
    rw (← c.cell.ensures, ← c.find_target-to.ensures, c.in-Some.is, ← c.kind_at-kind.ensures, ← c.allows.ensures, c.if-allows.false)
    (no_row a.rows a.chars.now a.attrs.now (c.none.ensures a.rows))

pub returns-in-None : goal.returns-in-None
unfolding changed typed_in typed_at_cell
returns-in-None c =
    let a = c.args in
    rw (← c.cell.ensures, ← c.find_target-to.ensures, c.in-None.is) (no_row a.rows a.chars.now a.attrs.now (c.none-in-None.ensures a.rows))
