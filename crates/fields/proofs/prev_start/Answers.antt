-- `fields::prev_start` meets its contract: what is not found before the cell is the last from it on. Assumes nothing.
use mathlib.Core.Path.{◌≡◌, ◌∙◌}
use lib.ListN.{length}
use native.Mathlib.Omega.{arith}
use Rattle.std.proofs.Common.{rules}
use Rattle.std.specs.Option.{option_or}
use Rattle.cells.specs.Search.{last_in}
use Rattle.fields.specs.Fields.{marks, is_in}
use Rattle.fields.proofs.Scans.{prev-of}
use Rattle.fields.proofs.prev_start.Goals as goal

pub returns : goal.returns
returns c =
    let a = c.args in
    let o : c.or_else.result ≡ option_or c.last_mark-before.result (last_in (is_in 3) (marks a.attrs.now) a.cell (length a.attrs.now)) = search rules in
    o ∙ prev-of a.attrs.now a.cell (omega arith) c.last_mark-before.result c.last_mark-before.ensures
