-- `try_from` meets its contract: a code of no arm is of neither range. Assumes nothing.
use Rattle.std.proofs.Common.{arith}
use Rattle.key.proofs.Listed.{unlisted}
use Rattle.key.proofs.codes.KeyTryFromU16.try_from.Goals as goal

pub returns-in_default : goal.returns-in_default
returns-in_default c = λ insert. unlisted _ insert (λ l u. omega arith) (λ l u. omega arith)

pub returns-in_default-2 : goal.returns-in_default-2
returns-in_default-2 c = λ insert. unlisted _ insert (λ l u. omega arith) (λ l u. omega arith)
