-- `noting::look` meets its contract: each arm is its action's, and the rest is what `look_stamp` tells. Assumes nothing.
use Prim.Native.Nat.{ℕ, ◌*◌}
use mathlib.Core.Path.{ap₂, ◌∙◌}
use mathlib.Core.List.{List}
use Rattle.changes.specs.Sets.{set_of}
use Rattle.changes.specs.Differing.{differing_both}
use Rattle.looks.specs.Looks.{changed}
use Rattle.terminal.specs.State.{fresh_world}
use Rattle.terminal.specs.Acts.{acted}
use Rattle.terminal.specs.Noted.{differing_rows}
use Rattle.terminal.proofs.Blank.{filled-whole}
use Rattle.noting.proofs.look.Goals as goal

pub returns-in-HardReset : goal.returns-in-HardReset
unfolding acted differing_rows changed fresh_world
returns-in-HardReset c =
    λ t p q i.
    let a = c.args in
    let x = a.chars.now in
    let y = a.attrs.now in
    rw c.in-HardReset.is
    (c.look_clear.ensures ∙ ap₂ (λ (m n : List ℕ). set_of (differing_both a.rows x y m n)) (filled-whole x (a.rows * 80) 32 c.requires.chars_long) (filled-whole y (a.rows * 80) 0 c.requires.attrs_long))
