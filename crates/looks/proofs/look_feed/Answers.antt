-- `looks::look_feed` meets its contract, by the row and the format. Assumes nothing.
use Prim.Native.Nat.{ℕ, ◌-◌, ◌*◌}
use mathlib.Core.Path.{ap, ◌∙◌}
use mathlib.Core.List.{List}
use lib.Seq.{set-get_or}
use borrow.Author.Tests.{lt-ltb, le-ltb}
use Rattle.cells.specs.Memory.{moved_up}
use Rattle.changes.specs.Sets.{set_of}
use Rattle.changes.specs.Differing.{differing_both}
use Rattle.changes.proofs.Differing.{no_row}
use Rattle.screen.specs.Edits.{line_fed, scrolled}
use Rattle.looks.specs.Looks.{changed}
use Rattle.looks.proofs.look_feed.Goals as goal

pub returns-then-cursor-rows : goal.returns-then-cursor-rows
unfolding changed line_fed scrolled
returns-then-cursor-rows c =
    let a = c.args in
    let x = a.chars.now in
    let y = a.attrs.now in
    rw (lt-ltb _ _ c.if-cursor-rows.true) (no_row a.rows x y (c.none.ensures a.rows))

pub returns-then-format : goal.returns-then-format
unfolding changed line_fed scrolled
returns-then-format c =
    let a = c.args in
    let x = a.chars.now in
    let y = a.attrs.now in
    rw (le-ltb _ _ c.if-cursor-rows.false, c.if-format.true) (no_row a.rows x y (c.none-then-format.ensures a.rows))

pub returns : goal.returns
unfolding changed line_fed scrolled
returns c =
    let a = c.args in
    let x = a.chars.now in
    let y = a.attrs.now in
    rw (le-ltb _ _ c.if-cursor-rows.false, c.if-format.false) (c.look_up.ensures ∙ ap (λ (z : List ℕ). set_of (differing_both a.rows x y (moved_up z 0 32) (moved_up y 0 0))) (set-get_or x (a.rows * 80 - 1) 0))
