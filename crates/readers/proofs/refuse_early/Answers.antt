-- `refuse_early` meets its contract: the table's test beside the sizes', whose number it has, then the others in the definition's order. Assumes nothing.
use mathlib.Core.Path.{◌≡◌, sym, ◌∙◌}
use mathlib.Core.Bool.{and-true, and-false}
use Rattle.std.proofs.lemmas.Result.{err_from_is_err_and}
use Rattle.terminal.specs.State.{is_good, is_sized}
use Rattle.terminal.specs.Refusals.{first_refusal}
use Rattle.terminal.proofs.Refusals.{opened, closed}
use Rattle.readers.specs.Field.{early_refusal}
use Rattle.readers.proofs.refuse_early.Goals as goal

pub returns-then-not-is_table : goal.returns-then-not-is_table
unfolding early_refusal first_refusal
returns-then-not-is_table c = let a = c.args in rw (sym c.is_table.ensures ∙ c.if-not-is_table.true, and-false (is_sized a.rows a.chars.now a.attrs.now))

pub returns-in_err-check : goal.returns-in_err-check
unfolding early_refusal
returns-in_err-check c =
    let a = c.args in
    let p = err_from_is_err_and c.from_residual.result c.from_residual.ensures.1 in
    let e : p.0 ≡ c.in_err-check.field-0.0 = p.2 in
    rw (p.1, e, sym c.is_table.ensures ∙ c.if-not-is_table.false, and-true (is_sized a.rows a.chars.now a.attrs.now))
    (closed (is_sized a.rows a.chars.now a.attrs.now) (is_good a.rows a.t) _ c.in_err-check.field-0.0 c.in_err-check.ensures)

pub returns-then-not-is_readable : goal.returns-then-not-is_readable
unfolding early_refusal first_refusal
returns-then-not-is_readable c =
    let a = c.args in
    let o = opened (is_sized a.rows a.chars.now a.attrs.now) (is_good a.rows a.t) c.in_ok-check.ensures in
    rw (o.0, sym c.is_table.ensures ∙ c.if-not-is_table.false, o.1, sym c.is_readable.ensures ∙ c.if-not-is_readable.true)

pub returns : goal.returns
unfolding early_refusal first_refusal
returns c =
    let a = c.args in
    let o = opened (is_sized a.rows a.chars.now a.attrs.now) (is_good a.rows a.t) c.in_ok-check.ensures in
    rw (o.0, sym c.is_table.ensures ∙ c.if-not-is_table.false, o.1, sym c.is_readable.ensures ∙ c.if-not-is_readable.false)
