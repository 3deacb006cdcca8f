-- `compare::row_second_differs` meets its contract, by its two tests. Assumes nothing.
use Prim.Native.Nat.{◌-◌}
use mathlib.Core.Path.{sym, ◌∙◌}
use native.Mathlib.Omega.{arith}
use Rattle.changes.proofs.Differing.{or-second}
use Rattle.compare.proofs.Moves.{up-copy}
use Rattle.compare.proofs.row_second_differs.Goals as goal

pub returns-else-second_differs : goal.returns-else-second_differs
returns-else-second_differs c =
    λ at h.
    let a = c.args in
    let p = c.requires in
    or-second (sym (c.second_differs.ensures at h) ∙ c.if-second_differs.false)
    (c.copy_differs.ensures ∙ up-copy a.rows (a.rows - 2) at a.attrs.now (omega arith) p.1 (omega arith) 0 (omega arith) (omega arith))
