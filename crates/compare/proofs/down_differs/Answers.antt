-- `compare::down_differs` meets its contract, by the place of the row. Assumes nothing.
use mathlib.Core.Path.{◌∙◌}
use native.Mathlib.Omega.{arith}
use Rattle.compare.proofs.Moves.{down-above, down-here, down-under}
use Rattle.compare.proofs.down_differs.Goals as goal

pub returns-then-r-at : goal.returns-then-r-at
returns-then-r-at c =
    let a = c.args in
    let p = c.requires in
    down-above a.rows a.r a.at a.s.now p.3 p.0 p.2 a.v c.if-r-at.true

pub returns-then-r-at-2 : goal.returns-then-r-at-2
returns-then-r-at-2 c =
    let a = c.args in
    let p = c.requires in
    c.fill_differs.ensures ∙ down-here a.rows a.r a.at a.s.now p.3 p.0 p.2 a.v (omega arith)

pub returns : goal.returns
returns c =
    let a = c.args in
    let p = c.requires in
    c.copy_differs.ensures ∙ down-under a.rows a.r a.at a.s.now p.3 p.0 p.2 a.v (omega arith)
