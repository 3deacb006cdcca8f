-- `changes::Changes::behind` meets its contract. Assumes nothing.
use native.Mathlib.Omega.{arith}
use Rattle.changes.proofs.Sets.{by-words, words_of}
use Rattle.changes.proofs.Words.{as_digit, doubled}
use Rattle.changes.proofs.Changes.behind.Goals as goal

pub returns : goal.returns
returns c =
    λ l h e.
    let d = doubled c.args.on l h (words_of l e) in
    by-words _ (rw (as_digit c.args.on) (record { is-low = omega (arith, d.is-low); is-high = omega (arith, d.is-high) }))
