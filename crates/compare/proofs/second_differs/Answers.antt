-- `compare::second_differs` meets its contract, by its two tests. Assumes nothing.
use Prim.Native.Nat.{◌-◌}
use mathlib.Core.Path.{ap, ◌∙◌}
use mathlib.Core.Bool.{not}
use native.Mathlib.Omega.{arith}
use borrow.Author.Tests.{ne_eqb}
use Rattle.compare.proofs.Moves.{up_second, up-second-same}
use Rattle.compare.proofs.second_differs.Goals as goal

pub returns-then-chars-first : goal.returns-then-chars-first
returns-then-chars-first c =
    λ at h.
    let a = c.args in
    let p = c.requires in
    ap not (ne_eqb _ _ c.if-chars-first.true) ∙ up_second a.rows (a.rows - 2) at a.chars.now (omega arith) p.0 (omega arith) 32 a.end (omega arith) (omega arith) c.if-chars-first.true

pub returns-else-chars-first : goal.returns-else-chars-first
returns-else-chars-first c =
    λ at h.
    let a = c.args in
    let p = c.requires in
    c.copy_differs.ensures ∙ up-second-same a.rows (a.rows - 2) at a.chars.now (omega arith) p.0 (omega arith) 32 a.end (omega arith) (omega arith) c.if-chars-first.false
