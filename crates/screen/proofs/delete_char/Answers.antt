-- `screen::delete_char` meets its contract: by the format and the cursor's cell; a field ends past its cell and within the row. Assumes nothing.
use Rattle.screen.specs.Edits.{char_deleted}
use Rattle.fields.proofs.Fields.{field-ends}
use Rattle.fields.specs.Fields.{marks}
use native.Mathlib.Omega.{arith}
use Rattle.screen.proofs.delete_char.Goals as goal

pub shift_left-requires : goal.shift_left-requires
unfolding char_deleted
shift_left-requires c = let e = field-ends (marks c.args.attrs.now) c.cell-k.result in omega (arith, c.field_end-end.ensures, e.past, e.within)

pub returns-then-is_unprotected : goal.returns-then-is_unprotected
unfolding char_deleted
returns-then-is_unprotected c = rw (c.if-format.true, ← c.cell-k.ensures, ← c.is_unprotected.ensures, c.if-is_unprotected.true) (cc)

pub returns-else-is_unprotected : goal.returns-else-is_unprotected
unfolding char_deleted
returns-else-is_unprotected c = rw (c.if-format.true, ← c.cell-k.ensures, ← c.is_unprotected.ensures, c.if-is_unprotected.false)

pub returns : goal.returns
unfolding char_deleted
returns c = rw c.if-format.false (cc)
