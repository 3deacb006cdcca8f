-- `cells::fill` meets its contract: the lent part comes back as `v`. Assumes nothing.
use native.Mathlib.Omega.{arith}
use Rattle.cells.specs.Memory.{filled}
use Rattle.cells.proofs.Splice.{lent-filled}
use Rattle.cells.proofs.fill.Goals as goal

pub returns : goal.returns
unfolding filled
returns c = let a = c.args in lent-filled a.s.now c.fill.new.self a.from a.to a.v (omega arith) (omega arith) (c.fill.ensures.after (λ y e. e))
