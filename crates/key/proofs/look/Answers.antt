-- `key::look` meets its contract: a key that writes by its action, and every other code leaves the memory. Assumes nothing.
use Prim.Native.Nat.{ℕ, ◌%◌}
use mathlib.Core.Path.{refl, ap, ◌∙◌}
use Rattle.changes.specs.Sets.{set_of}
use Rattle.terminal.specs.State.{world}
use Rattle.terminal.specs.Acts.{acted}
use Rattle.terminal.specs.Noted.{differing_rows}
use Rattle.terminal.proofs.Kept.{whole}
use Rattle.key.proofs.Pressed.{edits-action, edits-not-zero, leaves-rows}
use Rattle.key.proofs.look.Goals as goal

pub returns-in_default : goal.returns-in_default
returns-in_default c =
    let a = c.args in
    leaves-rows a.rows a.code _ (world a.t a.chars.now a.attrs.now) (c.none.ensures a.rows) c.in_default.ensures

pub look-requires : goal.look-requires
look-requires c = whole (c.requires (edits-not-zero _ c.in-Some.ensures.1))

pub returns : goal.returns
returns c =
    let a = c.args in
    let w = world a.t a.chars.now a.attrs.now in
    let made = c.in-Some.ensures in
    c.look.ensures a.t refl refl refl
    ∙ ap (λ (k : ℕ). set_of (differing_rows a.rows w (acted a.rows k (a.code % 256) w))) (made.0 ∙ edits-action a.code a.t.insert made.1)
