-- `host::host_on` meets its contract: refused by its number, or the stream of a sound world. Assumes nothing.
use mathlib.Core.Path.{sym, ◌∙◌}
use Rattle.streams.proofs.Kept.{closed-by, opened-by}
use Rattle.streams.proofs.Steps.{fed-on}
use Rattle.host.proofs.host_on.Goals as goal

pub returns-in-Err : goal.returns-in-Err
returns-in-Err c = closed-by _ _ c.refuse.ensures _ _ c.in-Err.is c.number.ensures

pub feed_on-requires : goal.feed_on-requires
feed_on-requires c = opened-by _ _ c.refuse.ensures c.requires.1 c.in_default.is

pub returns : goal.returns
returns c = let s = opened-by _ _ c.refuse.ensures c.requires.1 c.in_default.is in c.feed_on.ensures ∙ sym (fed-on s _ _)
