-- `post_field` meets its contract: the tests in the definition's order; the field lies in the memory, in one row; what stands there already is what the post leaves. Assumes nothing.
use Prim.Native.Nat.{ℕ, ◌/◌}
use mathlib.Core.Path.{ap, sym, ◌∙◌}
use mathlib.Core.List.{List}
use native.Mathlib.Omega.{arith}
use borrow.Author.Tests.{ltb-false, lt-ltb, le-ltb}
use Rattle.post.proofs.Fits.{all_fit-all}
use Rattle.cells.specs.Memory.{posted}
use Rattle.changes.specs.Sets.{set_of}
use Rattle.changes.specs.Differing.{differing_both}
use Rattle.changes.proofs.Differing.{differs-equal, no_row, chars-row}
use Rattle.fields.specs.Fields.{marks}
use Rattle.fields.proofs.Fields.{field-ends}
use Rattle.compare.proofs.Rows.{posted-beside}
use Rattle.terminal.specs.State.{world}
use Rattle.terminal.specs.Refusals.{first_refusal}
use Rattle.post.specs.Posts.{Posted, is_too_long, misfits, posted_at}
use Rattle.post.specs.Field.{field_refusal_if, posted_in_if}
use Rattle.post.proofs.post_field.Goals as goal

pub overflow_sub-long : goal.overflow_sub-long
unfolding posted_in_if field_refusal_if first_refusal is_too_long misfits posted_at
overflow_sub-long c = let a = c.args in omega (arith, (field-ends (marks a.attrs.now) a.k).past)

pub returns-then-not-owned-clause-left : goal.returns-then-not-owned-clause-left
unfolding posted_in_if field_refusal_if first_refusal is_too_long misfits posted_at
returns-then-not-owned-clause-left c = rw c.if-not-owned.true

pub returns-then-long-clause-left : goal.returns-then-long-clause-left
unfolding posted_in_if field_refusal_if first_refusal is_too_long misfits posted_at
returns-then-long-clause-left c = rw (← c.field_end-end.ensures, c.if-not-owned.false, lt-ltb _ _ c.if-long.true)

pub returns-then-not-fits_all-clause-left : goal.returns-then-not-fits_all-clause-left
unfolding posted_in_if field_refusal_if first_refusal is_too_long misfits posted_at
returns-then-not-fits_all-clause-left c =
    rw (← c.field_end-end.ensures, c.if-not-owned.false, le-ltb _ _ c.if-long.false, ← c.kind_at-kind.ensures, all_fit-all c.kind_at-kind.result c.args.text.now ∙ sym c.fits_all.ensures ∙ c.if-not-fits_all.true)

pub post_differs-requires : goal.post_differs-requires
unfolding posted_in_if field_refusal_if first_refusal is_too_long misfits posted_at
post_differs-requires c = let a = c.args in let e = field-ends (marks a.attrs.now) a.k in omega (arith, e.past, e.within, ltb-false)

pub returns-then-not-post_differs-clause-left : goal.returns-then-not-post_differs-clause-left
unfolding posted_in_if field_refusal_if first_refusal is_too_long misfits posted_at
returns-then-not-post_differs-clause-left c =
    let end = c.field_end-end in
    let a = c.args in
    let x = a.chars.now in
    let left : List ℕ → Posted = λ xs. record { number = 0; world = world a.t xs a.attrs.now } in
    rw (← end.ensures, c.if-not-owned.false, le-ltb _ _ c.if-long.false, ← c.kind_at-kind.ensures, all_fit-all c.kind_at-kind.result a.text.now ∙ sym c.fits_all.ensures ∙ c.if-not-fits_all.false)
    (ap left (differs-equal x (posted x a.k end.result a.text.now) (sym c.post_differs.ensures ∙ c.if-not-post_differs.true)))

pub returns-then-not-post_differs-clause-changed : goal.returns-then-not-post_differs-clause-changed
returns-then-not-post_differs-clause-changed c = let a = c.args in no_row a.rows a.chars.now a.attrs.now (c.none.ensures a.rows)

pub post_at-requires : goal.post_at-requires
unfolding posted_in_if field_refusal_if first_refusal is_too_long misfits posted_at
post_at-requires c = let a = c.args in let e = field-ends (marks a.attrs.now) a.k in omega (arith, e.past, e.within, ltb-false)

pub returns-clause-left : goal.returns-clause-left
unfolding posted_in_if field_refusal_if first_refusal is_too_long misfits posted_at
returns-clause-left c =
    let end = c.field_end-end in
    let a = c.args in
    let left : List ℕ → Posted = λ xs. record { number = 0; world = world a.t xs a.attrs.now } in
    rw (← end.ensures, c.if-not-owned.false, le-ltb _ _ c.if-long.false, ← c.kind_at-kind.ensures, all_fit-all c.kind_at-kind.result a.text.now ∙ sym c.fits_all.ensures ∙ c.if-not-fits_all.false)
    (ap left c.post_at.ensures)

pub returns-clause-changed : goal.returns-clause-changed
returns-clause-changed c =
    let end = c.field_end-end in
    let a = c.args in
    let x = a.chars.now in
    let y = a.attrs.now in
    let f = field-ends (marks y) a.k in
    let inside = posted-beside a.rows (a.k / 80) x (omega (arith, c.requires.inside)) c.requires.sound.chars_long a.k end.result (omega arith) (omega (arith, end.ensures, f.within)) a.text.now (omega (arith, end.ensures, f.past)) (omega arith) in
    chars-row (c.one.ensures a.rows (omega (arith, c.requires.inside))) y inside (sym (c.if-not-post_differs.false) ∙ c.post_differs.ensures)
    ∙ sym (ap (λ (xs : List ℕ). set_of (differing_both a.rows x y xs y)) c.post_at.ensures)
