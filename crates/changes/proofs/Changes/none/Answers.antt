-- `changes::Changes::none` meets its contract. Assumes nothing.
use mathlib.Core.Path.{◌≡◌}
use borrow.Author.Rules.{rules}
use Rattle.changes.specs.declared.Changes.{Changes}
use Rattle.changes.proofs.Sets.{by-words}
use Rattle.changes.proofs.Words.{none-words}
use Rattle.changes.proofs.Changes.none.Goals as goal

pub returns : goal.returns
returns c = λ n. let e : ◌≡◌ {A = Changes} c.default.result (record { low = 0; high = 0 }) = search rules in rw e (by-words _ (none-words n))
