-- `post_to` meets its contract: the tests in the definition's order. Assumes nothing.
use mathlib.Core.Path.{◌≡◌, refl, sym, ◌∙◌}
use borrow.Author.Tests.{not-true, not-false}
use Rattle.std.proofs.lemmas.Result.{err_from_is_err_and}
use Rattle.terminal.specs.State.{world, is_good, is_sized}
use Rattle.terminal.specs.Refusals.{first_refusal}
use Rattle.terminal.proofs.Good.{sound-in}
use Rattle.terminal.proofs.Refusals.{opened}
use Rattle.post.specs.Field.{field_refusal_if, posted_in_if, refusal_if, entered_if}
use Rattle.post.proofs.Kept.{PostOpen, post-found, field-inside, refused-early}
use Rattle.post.proofs.post_to.Goals as goal

pub returns-in_err-check-clause-left : goal.returns-in_err-check-clause-left
returns-in_err-check-clause-left c =
    let a = c.args in
    let p = err_from_is_err_and c.from_residual.result c.from_residual.ensures.1 in
    let e : p.0 ≡ c.in_err-check.field-0.0 = p.2 in
    rw (p.1, e) (refused-early a.rows (world a.t a.chars.now a.attrs.now) a.owned a.field a.text.now _ c.in_err-check.ensures)

pub returns-then-is_barred-clause-left : goal.returns-then-is_barred-clause-left
unfolding entered_if refusal_if first_refusal
returns-then-is_barred-clause-left c =
    let a = c.args in
    let o = opened (is_sized a.rows a.chars.now a.attrs.now) (is_good a.rows a.t) c.in_ok-check.ensures in
    rw (o.0, o.1, sym c.is_barred.ensures ∙ c.if-is_barred.true)

pub returns-then-not-t-clause-left : goal.returns-then-not-t-clause-left
unfolding entered_if refusal_if first_refusal
returns-then-not-t-clause-left c =
    let a = c.args in
    let o = opened (is_sized a.rows a.chars.now a.attrs.now) (is_good a.rows a.t) c.in_ok-check.ensures in
    rw (o.0, o.1, sym c.is_barred.ensures ∙ c.if-is_barred.false, not-true a.t.format c.if-not-t.true)

pub post_field-requires-clause-sound : goal.post_field-requires-clause-sound
post_field-requires-clause-sound c =
    let a = c.args in
    let o = opened (is_sized a.rows a.chars.now a.attrs.now) (is_good a.rows a.t) c.in_ok-check.ensures in
    sound-in {w = world a.t a.chars.now a.attrs.now} c.requires.1 o.0 o.1

pub post_field-requires-clause-inside : goal.post_field-requires-clause-inside
post_field-requires-clause-inside c =
    let a = c.args in
    let o = opened (is_sized a.rows a.chars.now a.attrs.now) (is_good a.rows a.t) c.in_ok-check.ensures in
    (field-inside (sound-in {w = world a.t a.chars.now a.attrs.now} c.requires.1 o.0 o.1) a.field _ (sym c.nth_field.ensures ∙ c.in-Some.is)).0

pub returns-in-Some-clause-left : goal.returns-in-Some-clause-left
returns-in-Some-clause-left c =
    let a = c.args in
    let o = opened (is_sized a.rows a.chars.now a.attrs.now) (is_good a.rows a.t) c.in_ok-check.ensures in
    let open_to : PostOpen a.rows (world a.t a.chars.now a.attrs.now) = record { sized = o.0; good = o.1; unbarred = sym c.is_barred.ensures ∙ c.if-is_barred.false; formatted = not-false a.t.format c.if-not-t.false } in
    post-found open_to a.owned a.field a.text.now (sym c.nth_field.ensures ∙ c.in-Some.is) c.post_field.ensures.left

pub returns-in-None-clause-left : goal.returns-in-None-clause-left
unfolding posted_in_if field_refusal_if first_refusal
returns-in-None-clause-left c =
    let a = c.args in
    let o = opened (is_sized a.rows a.chars.now a.attrs.now) (is_good a.rows a.t) c.in_ok-check.ensures in
    let open_to : PostOpen a.rows (world a.t a.chars.now a.attrs.now) = record { sized = o.0; good = o.1; unbarred = sym c.is_barred.ensures ∙ c.if-is_barred.false; formatted = not-false a.t.format c.if-not-t.false } in
    post-found open_to a.owned a.field a.text.now (sym c.nth_field.ensures ∙ c.in-None.is) refl
