-- `fields::next_start` meets its contract: what is not found behind the cell is the first up to it. Assumes nothing.
use mathlib.Core.Path.{◌≡◌, ◌∙◌}
use Prim.Native.Nat.{◌+◌}
use native.Mathlib.Omega.{arith}
use Rattle.std.proofs.Common.{rules}
use Rattle.std.specs.Option.{option_or}
use Rattle.cells.specs.Search.{first_in}
use Rattle.fields.specs.Fields.{marks, is_in}
use Rattle.fields.proofs.Scans.{next-of}
use Rattle.fields.proofs.next_start.Goals as goal

pub returns : goal.returns
returns c =
    let a = c.args in
    let o : c.or_else.result ≡ option_or c.first_mark-after.result (first_in (is_in 3) (marks a.attrs.now) 0 (a.cell + 1)) = search rules in
    o ∙ next-of a.attrs.now a.cell (omega arith) c.first_mark-after.result c.first_mark-after.ensures
