-- `replies::row_through` meets its contract: the last non-blank lies in the row. Assumes nothing.
use Prim.Native.Nat.{◌*◌}
use mathlib.Core.Path.{ap, sym, ◌∙◌}
use native.Mathlib.Omega.{arith}
use Rattle.replies.specs.Replies.{through}
use Rattle.replies.proofs.Blocks.{row_in}
use Rattle.replies.proofs.row_through.Goals as goal

pub overflow_add-result : goal.overflow_add-result
overflow_add-result c =
    let a = c.args in
    let e = ap (through (a.row * 80)) (sym c.in-Some.is ∙ c.last_text-last.ensures) in
    omega (arith, row_in a.chars.now a.row (omega arith) e)
