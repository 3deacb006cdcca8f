-- `terminal::Terminal::tab` meets its contract: by fields with format on, by tab stops with format off. Assumes nothing.
use mathlib.Core.Path.{ap}
use Rattle.terminal.specs.State.{placed}
use Rattle.terminal.specs.Acts.{tabbed_by}
use Rattle.terminal.proofs.Terminal.tab.Goals as goal

pub returns-then-self : goal.returns-then-self
unfolding tabbed_by
returns-then-self c = ap (placed c.args.self) (rw c.if-self.true c.tab_in-self.ensures)

pub returns : goal.returns
unfolding tabbed_by
returns c = ap (placed c.args.self) (rw c.if-self.false c.tab-self.ensures)
