-- `looks::put_in_differs` meets its contract, by cases on insert mode. Assumes nothing.
use native.Mathlib.Omega.{arith}
use Rattle.fields.specs.Fields.{marks}
use Rattle.fields.proofs.Fields.{field-ends}
use Rattle.screen.specs.Edits.{put}
use Rattle.compare.proofs.Rows.{set-differs}
use Rattle.looks.proofs.put_in_differs.Goals as goal

pub shift_right_differs-requires : goal.shift_right_differs-requires
unfolding put
shift_right_differs-requires c =
    let a = c.args in
    let f = field-ends (marks a.attrs.now) a.k in
    omega (arith, c.field_end.ensures, f.past, f.within)

pub returns-then-insert : goal.returns-then-insert
unfolding put
returns-then-insert c = rw (c.if-insert.true, ← c.field_end.ensures) c.shift_right_differs.ensures

pub returns : goal.returns
unfolding put
returns c =
    let a = c.args in
    rw c.if-insert.false (set-differs a.chars.now a.k a.v (omega arith))
