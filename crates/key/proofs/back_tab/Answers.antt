-- `key::back_tab` meets its contract: by fields with format on, by tab stops with format off. Assumes nothing.
use Rattle.terminal.specs.Acts.{back_tabbed_by}
use Rattle.key.proofs.back_tab.Goals as goal

pub returns-then-t : goal.returns-then-t
unfolding back_tabbed_by
returns-then-t c = rw c.if-t.true c.back_tab_in.ensures

pub returns : goal.returns
unfolding back_tabbed_by
returns c = rw c.if-t.false c.back_tab.ensures
