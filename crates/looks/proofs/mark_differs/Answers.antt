-- `looks::mark_differs` meets its contract, by the format; an attribute is a byte. Assumes nothing.
use mathlib.Core.Path.{sym}
use native.Mathlib.Omega.{arith}
use Rattle.changes.proofs.Differing.{differs-same}
use Rattle.screen.specs.Edits.{mark_set}
use Rattle.compare.proofs.Rows.{set-differs}
use Rattle.looks.proofs.mark_differs.Goals as goal

pub returns-then-format : goal.returns-then-format
unfolding mark_set
returns-then-format c = rw c.if-format.true (sym (differs-same c.args.attrs.now))

pub returns : goal.returns
unfolding mark_set
returns c =
    let a = c.args in
    rw c.if-format.false (set-differs a.attrs.now a.k _ (omega arith))
