-- `replies::send_row` meets its contract: with the row's cells written, CR is left. Assumes nothing.
use native.Mathlib.Omega.{arith}
use Rattle.replies.proofs.Writing.{one_more, all-written, all-ends}
use Rattle.replies.proofs.Blocks.{row_in, row-part, row-length, row-sent}
use Rattle.replies.proofs.send_row.Goals as goal

pub slice_bounds-write_at-count : goal.slice_bounds-write_at-count
slice_bounds-write_at-count c =
    let a = c.args in
    omega (arith, row_in a.chars.now a.row (omega arith) c.row_through-to.ensures)

pub slice_bounds-write_at-start : goal.slice_bounds-write_at-start
slice_bounds-write_at-start c =
    let a = c.args in
    omega (arith, row_in a.chars.now a.row (omega arith) c.row_through-to.ensures)

pub slice_bounds-write_at-end : goal.slice_bounds-write_at-end
slice_bounds-write_at-end c =
    let a = c.args in
    omega (arith, row_in a.chars.now a.row (omega arith) c.row_through-to.ensures)

pub write_at-requires : goal.write_at-requires
write_at-requires c =
    let a = c.args in
    let e = c.row_through-to.ensures in
    omega (arith, row-part a.chars.now a.row (omega arith) e, row-length a.chars.now a.row (omega arith) e)

pub overflow_sub-end : goal.overflow_sub-end
overflow_sub-end c =
    let a = c.args in
    omega (arith, row_in a.chars.now a.row (omega arith) c.row_through-to.ensures)

pub bounds-reply-end : goal.bounds-reply-end
bounds-reply-end c =
    let a = c.args in
    let w = row-sent a.chars.now a.row (omega arith) (omega arith) c.row_through-to.ensures c.write_at.ensures in
    omega (arith, w.room, w.size)

pub returns-clause-end : goal.returns-clause-end
returns-clause-end c =
    let a = c.args in
    let w = row-sent a.chars.now a.row (omega arith) (omega arith) c.row_through-to.ensures c.write_at.ensures in
    all-ends (one_more w)

pub returns-clause-sent : goal.returns-clause-sent
returns-clause-sent c =
    let a = c.args in
    let w = row-sent a.chars.now a.row (omega arith) (omega arith) c.row_through-to.ensures c.write_at.ensures in
    all-written (one_more w)
