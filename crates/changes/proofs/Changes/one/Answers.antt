-- `changes::Changes::one` meets its contract, by the word that has the row. Assumes nothing.
use native.Mathlib.Omega.{arith}
use Rattle.changes.proofs.Sets.{by-words}
use Rattle.changes.proofs.Words.{as_digit, one-low, one-high}
use Rattle.changes.proofs.Changes.one.Goals as goal

pub returns-then-row-lt64 : goal.returns-then-row-lt64
returns-then-row-lt64 c = let a = c.args in λ n h. by-words _ (rw (as_digit a.on) (one-low n a.row a.on h c.if-row-lt64.true))

pub returns : goal.returns
returns c = let a = c.args in λ n h. by-words _ (rw (as_digit a.on) (one-high n a.row a.on h (omega arith) (omega arith)))
