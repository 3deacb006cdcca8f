-- `key::tab` meets its contract: by fields with format on, by tab stops with format off. Assumes nothing.
use Rattle.terminal.specs.Acts.{tabbed_by}
use Rattle.key.proofs.tab.Goals as goal

pub returns-then-t : goal.returns-then-t
unfolding tabbed_by
returns-then-t c = rw c.if-t.true c.tab_in.ensures

pub returns : goal.returns
unfolding tabbed_by
returns c = rw c.if-t.false c.tab.ensures
