-- `looks::enhance_differs` meets its contract, by the format. Assumes nothing.
use mathlib.Core.Path.{sym}
use native.Mathlib.Omega.{arith}
use Rattle.changes.proofs.Differing.{differs-same}
use Rattle.screen.specs.Edits.{enhanced}
use Rattle.compare.proofs.Rows.{set-differs}
use Rattle.looks.proofs.enhance_differs.Goals as goal

pub returns-then-format : goal.returns-then-format
unfolding enhanced
returns-then-format c = rw c.if-format.true (sym (differs-same c.args.attrs.now))

pub returns : goal.returns
unfolding enhanced
returns c =
    let a = c.args in
    rw c.if-format.false (set-differs a.attrs.now a.k _ (omega arith))
