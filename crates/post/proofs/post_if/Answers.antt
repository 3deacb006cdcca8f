-- `post_if` meets its contract: the number, and the state with the post's row joined to its own; a refused post changed no row. Assumes nothing.
use mathlib.Core.Path.{ap, ◌∙◌}
use Rattle.changes.specs.declared.Changes.{Changes}
use Rattle.std.specs.Prelude.{ℕ}
use Rattle.terminal.proofs.Refusals.{not-done}
use Rattle.post.proofs.Kept.{entered-noted, entered-left}
use Rattle.post.proofs.post_if.Goals as goal
use Rattle.post.proofs.post_if.Goals.{in-Ok, in-Err}

pub returns : goal.returns
returns c =
    let a = c.args in
    elim c.match-post_to.branch [
      | in-Ok w ↦
          entered-noted a.rows a.t a.chars.now _ a.attrs.now a.owned a.field a.text.now {n = c.match-post_to.number.0} {found = c.match-post_to.number.1} c.requires.1
          (rw w.number-is w.in-Ok.ensures.left) (rw w.number-is w.in-Ok.ensures.changed) c.join-t.ensures.0 c.join-t.ensures.1
      | in-Err w ↦
          rw (c.join-t.ensures.1 0 (ap (λ (p : ℕ × Changes). p.1) w.number-is ∙ w.none.ensures 0), w.number-is, w.number.ensures)
          (entered-left a.rows a.t a.chars.now _ a.attrs.now a.owned a.field a.text.now w.in-Err.ensures.left (not-done w.in-Err.refusal))
    ]
