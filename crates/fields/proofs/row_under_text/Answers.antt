-- `fields::row_under_text` meets its contract: the last cell that is not blank has its row. Assumes nothing.
use mathlib.Core.Path.{sym, ap, ◌∙◌}
use Rattle.std.proofs.Common.{rules}
use Rattle.cells.proofs.Finds.{LastPlace}
use Rattle.cells.proofs.Search.{last-in-whole}
use Rattle.fields.specs.Fields.{non_blank, row_under, row_under_text}
use Rattle.fields.proofs.row_under_text.Goals as goal

pub returns-in-Some : goal.returns-in-Some
unfolding row_under_text
returns-in-Some c =
    let h : LastPlace non_blank 0 c.args.chars.now c.rposition-last.result = search rules in
    c.min.ensures ∙ ap (row_under c.args.rows) (sym c.in-Some.is ∙ last-in-whole non_blank 0 c.args.chars.now c.rposition-last.result h)

pub returns-in-None : goal.returns-in-None
unfolding row_under_text
returns-in-None c =
    let h : LastPlace non_blank 0 c.args.chars.now c.rposition-last.result = search rules in
    ap (row_under c.args.rows) (sym c.in-None.is ∙ last-in-whole non_blank 0 c.args.chars.now c.rposition-last.result h)
