-- `looks::look_wipe` meets its contract, by the test of a row. Assumes nothing.
use mathlib.Core.Path.{◌≡◌, sym, ◌∙◌}
use mathlib.Core.Bool.{◌||◌}
use borrow.Author.Rules.{rules}
use Rattle.cells.specs.Memory.{changed_where}
use Rattle.fields.specs.Fields.{marks, stripped, unprotected}
use Rattle.changes.specs.Differing.{differs, differing_both}
use Rattle.changes.specs.Rows.{row_of}
use Rattle.changes.proofs.Differing.{length-differing_both, differing_both-at}
use Rattle.looks.proofs.look_wipe.Goals as goal

pub returns : goal.returns
returns c =
    let a = c.args in
    let x = changed_where a.chars.now a.k (unprotected (marks a.attrs.now)) (λ v. 32) in
    let y = changed_where a.attrs.now a.k (unprotected (marks a.attrs.now)) stripped in
    c.gather.ensures (differing_both a.rows a.chars.now a.attrs.now x y) (length-differing_both a.rows a.chars.now a.attrs.now x y)
    (λ r on h p.
    let e : on ≡ differs (row_of r a.chars.now) (row_of r x) || differs (row_of r a.attrs.now) (row_of r y) = search rules in
    e ∙ sym (differing_both-at a.rows a.chars.now a.attrs.now x y r h))
