-- `replies::send_block` meets its contract: the fields with format on, the row with it off. Assumes nothing.
use mathlib.Core.Path.{ap}
use native.Mathlib.Omega.{arith}
use lib.ListN.{length}
use Rattle.replies.proofs.Blocks.{block-fields, block_row}
use Rattle.replies.proofs.send_block.Goals as goal

pub send_fields-requires-clause-room : goal.send_fields-requires-clause-room
send_fields-requires-clause-room c =
    let a = c.args in
    let e = ap length (block-fields a.chars.now a.attrs.now a.row c.if-format.true) in
    omega arith

pub returns-then-format-clause-end : goal.returns-then-format-clause-end
returns-then-format-clause-end c =
    let a = c.args in
    rw (block-fields a.chars.now a.attrs.now a.row c.if-format.true) c.send_fields.ensures.end

pub returns-then-format-clause-sent : goal.returns-then-format-clause-sent
returns-then-format-clause-sent c =
    let a = c.args in
    rw (block-fields a.chars.now a.attrs.now a.row c.if-format.true) c.send_fields.ensures.sent

pub send_row-requires-clause-room : goal.send_row-requires-clause-room
send_row-requires-clause-room c =
    let a = c.args in
    let e = ap length (block_row a.chars.now a.attrs.now a.row c.if-format.false) in
    omega arith

pub returns-clause-end : goal.returns-clause-end
returns-clause-end c =
    let a = c.args in
    rw (block_row a.chars.now a.attrs.now a.row c.if-format.false) c.send_row.ensures.end

pub returns-clause-sent : goal.returns-clause-sent
returns-clause-sent c =
    let a = c.args in
    rw (block_row a.chars.now a.attrs.now a.row c.if-format.false) c.send_row.ensures.sent
