-- `cells::post_at` meets its contract: the lent part comes back with the text and the blanks. Assumes nothing.
use mathlib.Core.Path.{◌≡◌, ap, ◌∙◌}
use Prim.Native.Nat.{◌-◌}
use native.Mathlib.Omega.{arith}
use lib.ListN.{length, take, drop}
use Rattle.cells.specs.Memory.{written, posted}
use Rattle.cells.proofs.Splice.{length_part, lent}
use Rattle.cells.proofs.post_at.Goals as goal

pub returns : goal.returns
unfolding posted
returns c =
    let a = c.args in
    let p : length (take (a.to - a.from) (drop a.from a.s.now)) ≡ a.to - a.from = length_part a.s.now a.from a.to (omega arith) in
    lent a.s.now c.write_text.new.part a.from a.to (c.write_text.auto.part ∙ p) ∙ ap (written a.s.now a.from) (rw p at c.write_text.ensures)
