-- `changes::Changes::all` meets its contract. Assumes nothing.
use Prim.Native.Nat.{◌-◌}
use native.Mathlib.Omega.{arith}
use Rattle.changes.proofs.Sets.{by-words}
use Rattle.changes.proofs.Words.{all-low, all-high, shifted}
use Rattle.changes.proofs.Changes.all.Goals as goal

pub returns-then-rows-lt64 : goal.returns-then-rows-lt64
returns-then-rows-lt64 c = let a = c.args in by-words _ (rw (shifted a.rows c.if-rows-lt64.true) (all-low a.rows c.if-rows-lt64.true))

pub returns : goal.returns
returns c = let a = c.args in by-words _ (rw (shifted (a.rows - 64) (omega arith)) (all-high a.rows (omega arith)))
