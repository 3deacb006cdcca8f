-- `changes::Changes::has` meets its contract, by the word that has the row. Assumes nothing.
use native.Mathlib.Omega.{arith}
use Rattle.changes.proofs.Words.{has-low, has-high}
use Rattle.changes.proofs.Changes.has.Goals as goal

pub returns-then-row-lt64 : goal.returns-then-row-lt64
returns-then-row-lt64 c = let a = c.args in λ n h. has-low n a.self a.row h c.if-row-lt64.true

pub returns : goal.returns
returns c = let a = c.args in λ n h. has-high n a.self a.row h (omega arith) (omega arith)
