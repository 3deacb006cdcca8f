-- `replies::measure_block` meets its contract: the fields with format on, the row with it off. Assumes nothing.
use mathlib.Core.Path.{ap, sym, ◌∙◌}
use native.Mathlib.Omega.{arith}
use lib.ListN.{length}
use Rattle.replies.proofs.Blocks.{row_in, row-length, block-fields, block_row}
use Rattle.replies.proofs.measure_block.Goals as goal

pub returns-then-format : goal.returns-then-format
returns-then-format c = c.measure_fields.ensures ∙ ap length (sym (block-fields _ _ _ c.if-format.true))

pub overflow_sub-result : goal.overflow_sub-result
overflow_sub-result c =
    let a = c.args in
    omega (arith, row_in a.chars.now a.row (omega arith) c.row_through.ensures)

pub overflow_add-result : goal.overflow_add-result
overflow_add-result c =
    let a = c.args in
    omega (arith, row_in a.chars.now a.row (omega arith) c.row_through.ensures)

pub returns : goal.returns
returns c =
    let a = c.args in
    sym (ap length (block_row a.chars.now a.attrs.now a.row c.if-format.false) ∙ row-length a.chars.now a.row (omega arith) c.row_through.ensures)
