-- `screen::type_at` meets its contract, by what its calls give; the field's end lies in the cell's row. Assumes nothing.
use Rattle.screen.specs.Edits.{typed_at_cell}
use Rattle.fields.proofs.Fields.{field-ends}
use Rattle.fields.specs.Fields.{marks}
use native.Mathlib.Omega.{arith}
use Rattle.screen.proofs.type_at.Goals as goal

pub put_char-requires : goal.put_char-requires
unfolding typed_at_cell
put_char-requires c = let a = c.args in let e = field-ends (marks a.attrs.now) a.k in omega (arith, e.past, e.within)

pub returns : goal.returns
unfolding typed_at_cell
returns c = cc
