-- `post_as_on` meets its contract: by the table, and then the post by one who owns the field or does not. Assumes nothing.
use mathlib.Core.Path.{ap, sym, ◌∙◌}
use mathlib.Core.Bool.{Bool}
use Rattle.terminal.specs.State.{world}
use Rattle.post.specs.Field.{posted_if}
use Rattle.readers.proofs.Kept.{untabled, tabled}
use Rattle.readers.proofs.Readings.{table-long}
use Rattle.readers.proofs.post_as_on.Goals as goal

pub returns-then-not-is_table : goal.returns-then-not-is_table
returns-then-not-is_table c = let a = c.args in rw c.number.ensures (untabled a.rows (world a.t a.chars.now a.attrs.now) a.owners.now a.reader a.field a.text.now (sym c.is_table.ensures ∙ c.if-not-is_table.true))

pub owns_field-owned-requires : goal.owns_field-owned-requires
owns_field-owned-requires c = table-long c.args.owners.now (sym c.is_table.ensures ∙ c.if-not-is_table.false)

pub returns : goal.returns
returns c =
    let a = c.args in
    let w = world a.t a.chars.now a.attrs.now in
    c.post_if.ensures ∙ ap (λ (o : Bool). posted_if a.rows w o a.field a.text.now) c.owns_field-owned.ensures
    ∙ tabled a.rows w a.owners.now a.reader a.field a.text.now (sym c.is_table.ensures ∙ c.if-not-is_table.false)
