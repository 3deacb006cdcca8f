-- `looks::look_clear` meets its contract, by the test of a row. Assumes nothing.
use Prim.Native.Nat.{◌*◌}
use mathlib.Core.Path.{◌≡◌, sym, ◌∙◌}
use mathlib.Core.Bool.{◌||◌}
use borrow.Author.Rules.{rules}
use Rattle.cells.specs.Memory.{filled}
use Rattle.changes.specs.Differing.{differs, differing_both}
use Rattle.changes.specs.Rows.{row_of}
use Rattle.changes.proofs.Differing.{length-differing_both, differing_both-at}
use Rattle.looks.proofs.look_clear.Goals as goal

pub returns : goal.returns
returns c =
    let a = c.args in
    let x = filled a.chars.now a.k (a.rows * 80) 32 in
    let y = filled a.attrs.now a.k (a.rows * 80) 0 in
    c.gather.ensures (differing_both a.rows a.chars.now a.attrs.now x y) (length-differing_both a.rows a.chars.now a.attrs.now x y)
    (λ r on h p.
    let e : on ≡ differs (row_of r a.chars.now) (row_of r x) || differs (row_of r a.attrs.now) (row_of r y) = search rules in
    e ∙ sym (differing_both-at a.rows a.chars.now a.attrs.now x y r h))
