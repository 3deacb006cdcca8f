-- `plain::host_on` meets its contract: refused by its number, or the stream of a sound world, by both definitions. Assumes nothing.
use mathlib.Core.Path.{sym, ◌∙◌}
use Rattle.streams.proofs.Kept.{closed-by, opened-by}
use Rattle.streams.proofs.Steps.{fed-on}
use Rattle.plain.proofs.Agreement.{plainly-fed}
use Rattle.plain.proofs.host_on.Goals as goal

pub returns-in-Err-clause-table : goal.returns-in-Err-clause-table
returns-in-Err-clause-table c = closed-by _ _ c.refuse.ensures _ _ c.in-Err.is c.number.ensures

pub returns-in-Err-clause-plain : goal.returns-in-Err-clause-plain
returns-in-Err-clause-plain c = closed-by _ _ c.refuse.ensures _ _ c.in-Err.is c.number.ensures ∙ sym (plainly-fed _ _ _ _)

pub feed_on-requires : goal.feed_on-requires
feed_on-requires c = opened-by _ _ c.refuse.ensures c.requires.1 c.in_default.is

pub returns-clause-table : goal.returns-clause-table
returns-clause-table c = let s = opened-by _ _ c.refuse.ensures c.requires.1 c.in_default.is in c.feed_on.ensures ∙ sym (fed-on s _ _)

pub returns-clause-plain : goal.returns-clause-plain
returns-clause-plain c =
    let s = opened-by _ _ c.refuse.ensures c.requires.1 c.in_default.is in
    c.feed_on.ensures ∙ sym (fed-on s _ _) ∙ sym (plainly-fed _ _ _ _)
