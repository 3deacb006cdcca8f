-- `looks::look_ends` meets its contract, a row or two by `Told`. Assumes nothing.
use Prim.Native.Nat.{◌-◌, max}
use mathlib.Core.Path.{◌≡◌, ◌∙◌}
use native.Mathlib.Omega.{arith}
use Rattle.changes.proofs.Differing.{told_none, told_more}
use Rattle.compare.proofs.Moves.{both-last}
use Rattle.looks.proofs.look_ends.Goals as goal

pub returns-then-at-rows : goal.returns-then-at-rows
returns-then-at-rows c =
    let a = c.args in
    let p = c.requires in
    let m : max a.at (a.rows - 2) ≡ a.rows - 1 = omega arith in
    rw m (told_more {q = a.rows - 1} {r = a.rows} (told_none (c.none.ensures 0)) (omega arith) (omega arith) (omega arith) c.behind-found.ensures
    (c.line_differs.ensures ∙ both-last a.rows (a.rows - 1) a.at a.chars.now a.attrs.now (omega arith) p.0 p.1 p.3 a.end (omega arith) (omega arith))).told

pub returns : goal.returns
returns c =
    let a = c.args in
    let p = c.requires in
    let m : max a.at (a.rows - 2) ≡ a.rows - 2 = omega arith in
    rw m (told_more {q = a.rows - 2} (told_more {q = a.rows - 1} {r = a.rows} (told_none (c.none.ensures 0)) (omega arith) (omega arith) (omega arith) c.behind-found.ensures
    (c.line_differs.ensures ∙ both-last a.rows (a.rows - 1) a.at a.chars.now a.attrs.now (omega arith) p.0 p.1 p.3 a.end (omega arith) (omega arith)))
    (omega arith) (omega arith) (omega arith) c.behind.ensures (c.row_second_differs.ensures a.at (omega arith))).told
