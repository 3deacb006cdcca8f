-- `fields::first_start` meets its contract: there are as many marks as cells. Assumes nothing.
use mathlib.Core.Path.{ap, sym, ◌∙◌}
use Rattle.cells.specs.Search.{first_in}
use Rattle.fields.specs.Fields.{first_start, is_in, marks}
use Rattle.fields.proofs.Marks.{length-marks}
use Rattle.fields.proofs.first_start.Goals as goal

pub returns : goal.returns
unfolding first_start
returns c = let a = c.args in c.first_mark.ensures ∙ ap (first_in (is_in a.highest) (marks a.attrs.now) 0) (sym (length-marks a.attrs.now))
