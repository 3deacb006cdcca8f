-- `compare::row_clear_differs` meets its contract, by the place of the row. Assumes nothing.
use Prim.Native.Nat.{◌+◌, ◌*◌}
use mathlib.Core.Path.{sym, ◌∙◌}
use native.Mathlib.Omega.{arith}
use Rattle.cells.specs.Memory.{filled}
use Rattle.changes.proofs.Differing.{or-second}
use Rattle.compare.proofs.Moves.{clear_both}
use Rattle.compare.proofs.Patches.{kept}
use Rattle.compare.proofs.row_clear_differs.Goals as goal

pub returns-then-k-first : goal.returns-then-k-first
unfolding filled
returns-then-k-first c =
    let a = c.args in
    let p = c.requires in
    c.line_differs.ensures ∙ clear_both a.rows a.r a.chars.now a.attrs.now p.3 p.0 p.1 a.k (a.r * 80) (omega arith)

pub returns-then-first-k : goal.returns-then-first-k
unfolding filled
returns-then-first-k c =
    let a = c.args in
    let p = c.requires in
    or-second (sym (kept a.chars.now a.k (a.r * 80 + 80) _ (λ i m n. absurd (omega arith)))) (kept a.attrs.now a.k (a.r * 80 + 80) _ (λ i m n. absurd (omega arith)))
    ∙ clear_both a.rows a.r a.chars.now a.attrs.now p.3 p.0 p.1 a.k a.k (omega arith)

pub returns : goal.returns
unfolding filled
returns c =
    let a = c.args in
    let p = c.requires in
    c.line_differs-2.ensures ∙ clear_both a.rows a.r a.chars.now a.attrs.now p.3 p.0 p.1 a.k a.k (omega arith)
