-- `looks::put_differs` meets its contract, by cases on insert mode. Assumes nothing.
use native.Mathlib.Omega.{arith}
use Rattle.screen.specs.Edits.{put}
use Rattle.compare.proofs.Rows.{set-differs}
use Rattle.looks.proofs.put_differs.Goals as goal

pub returns-then-insert : goal.returns-then-insert
unfolding put
returns-then-insert c = rw c.if-insert.true c.shift_right_differs.ensures

pub returns : goal.returns
unfolding put
returns c =
    let a = c.args in
    rw c.if-insert.false (set-differs a.chars.now a.k a.v (omega arith))
