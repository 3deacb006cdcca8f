-- `table::action` meets its contract: it reads the entry of a table of the rules. Assumes nothing.
use Prim.Native.Nat.{◌%◌}
use native.Mathlib.Omega.{arith}
use Rattle.reading.specs.Reading.{action_of}
use Rattle.table.proofs.Test.{ruled}
use Rattle.table.proofs.action.Goals as goal

pub returns : goal.returns
unfolding action_of
returns c = ruled c.args.table.now c.requires.tabled c.args.reading (c.args.byte % 128) (omega arith) (omega arith)
