-- `read_field` meets its contract: the tests in the definition's order, then the field's text. Assumes nothing.
use mathlib.Core.Path.{ap, ap₂, sym, ◌∙◌}
use mathlib.Core.Bool.{Bool}
use mathlib.Core.List.{List}
use Prim.Native.Nat.{ℕ}
use Rattle.std.specs.Prelude.{Some}
use Rattle.fields.specs.Fields.{marks}
use Rattle.replies.specs.Replies.{field_text}
use Rattle.readers.specs.Field.{read_in}
use Rattle.readers.proofs.Readings.{read-unowned, read_short, read_done}
use Rattle.readers.proofs.read_field.Goals as goal

pub returns-then-not-owned : goal.returns-then-not-owned
returns-then-not-owned c =
    let a = c.args in
    let text = field_text a.chars.now (marks a.attrs.now) a.k in
    read-unowned text a.k a.out.now
    ∙ ap (λ (o : Bool). read_in text o (Some a.k) a.out.now) (sym (c.if-not-owned.true))

pub returns-then-out-text : goal.returns-then-out-text
returns-then-out-text c =
    let a = c.args in
    read_short c.field_part-text.result.now a.k a.out.now c.if-out-text.true
    ∙ ap₂ (λ (t : List ℕ) (o : Bool). read_in t o (Some a.k) a.out.now) c.field_part-text.ensures (sym (c.if-not-owned.false))

pub returns : goal.returns
returns c =
    let a = c.args in
    read_done c.field_part-text.result.now a.k a.out.now c.if-out-text.false c.write_at.ensures
    ∙ ap₂ (λ (t : List ℕ) (o : Bool). read_in t o (Some a.k) a.out.now) c.field_part-text.ensures (sym (c.if-not-owned.false))
