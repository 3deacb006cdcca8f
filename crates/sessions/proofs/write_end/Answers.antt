-- `sessions::write_end` meets its contract: the word, then three numbers. Assumes nothing.
use native.Mathlib.Omega.{arith}
use Rattle.sessions.proofs.Text.{no_room, end_is}
use Rattle.sessions.proofs.write_end.Goals as goal

pub returns-then-line-lt67 : goal.returns-then-line-lt67
returns-then-line-lt67 c = no_room c.args.cursor c.args.line.now (omega arith)

pub returns : goal.returns
returns c = end_is c.args.cursor c.args.line.now (omega arith) c.write_three.ensures.value c.write_at.ensures c.write_three.ensures.lines_after
