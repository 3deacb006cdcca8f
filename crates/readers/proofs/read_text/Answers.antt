-- `read_text` meets its contract: by the tests that do not look at the field, and by those that do. Assumes nothing.
use mathlib.Core.Path.{◌≡◌, sym, ◌∙◌}
use Rattle.std.proofs.lemmas.Result.{err_from_is_err_and}
use Rattle.terminal.specs.State.{world}
use Rattle.terminal.proofs.Good.{sound-in}
use Rattle.terminal.proofs.Refusals.{not-done}
use Rattle.readers.specs.Owners.{text_in_field}
use Rattle.readers.proofs.Readings.{table-long, row_inside, read-nothing, read-open, read-early, read_found}
use Rattle.readers.proofs.read_text.Goals as goal

pub returns-in_err-refuse_early : goal.returns-in_err-refuse_early
returns-in_err-refuse_early c =
    let a = c.args in
    let p = err_from_is_err_and c.from_residual.result c.from_residual.ensures.1 in
    let e : p.0 ≡ c.in_err-refuse_early.field-0.0 = p.2 in
    rw (p.1, e) (read-early a.rows (world a.t a.chars.now a.attrs.now) a.owners.now a.reader a.field a.out.now c.in_err-refuse_early.ensures (not-done c.in_err-refuse_early.field-0.0))

pub owns_field-owned-requires : goal.owns_field-owned-requires
owns_field-owned-requires c =
    let a = c.args in
    table-long a.owners.now (read-open a.rows (world a.t a.chars.now a.attrs.now) a.owners.now (sym c.in_ok-refuse_early.ensures)).table

pub read_field-requires : goal.read_field-requires
read_field-requires c =
    let a = c.args in
    let w = world a.t a.chars.now a.attrs.now in
    let o = read-open a.rows w a.owners.now (sym c.in_ok-refuse_early.ensures) in
    row_inside (sound-in {w = w} c.requires.1 o.sized o.good) a.field _ (sym c.nth_field.ensures ∙ c.in-Some.is)

pub returns-in-Some : goal.returns-in-Some
unfolding text_in_field
returns-in-Some c =
    let a = c.args in
    let w = world a.t a.chars.now a.attrs.now in
    read_found a.rows w a.owners.now a.reader a.field a.out.now (read-open a.rows w a.owners.now (sym c.in_ok-refuse_early.ensures)) (sym c.nth_field.ensures ∙ c.in-Some.is)
    c.owns_field-owned.ensures c.read_field.ensures

pub returns-in-None : goal.returns-in-None
returns-in-None c =
    let a = c.args in
    let w = world a.t a.chars.now a.attrs.now in
    read_found a.rows w a.owners.now a.reader a.field a.out.now (read-open a.rows w a.owners.now (sym c.in_ok-refuse_early.ensures)) (sym c.nth_field.ensures ∙ c.in-None.is)
    c.owns_field-owned.ensures (read-nothing _ _ a.out.now)
