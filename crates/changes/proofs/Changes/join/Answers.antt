-- `changes::Changes::join` meets its contract. Assumes nothing.
use Rattle.changes.proofs.Sets.{by-words, words_of}
use Rattle.changes.proofs.Words.{joined, joined-none}
use Rattle.changes.proofs.Changes.join.Goals as goal

pub returns : goal.returns
returns c = (λ l m p q. by-words _ (joined l m (words_of l p) (words_of m q)), let a = c.args in joined-none a.self a.other)
