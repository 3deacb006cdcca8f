-- `table::actions` meets its contract: each row is that of the rules. Assumes nothing.
use Rattle.table.proofs.Test.{rows_tabled}
use Rattle.table.proofs.actions.Goals as goal

pub returns : goal.returns
returns c =
    rows_tabled _ _ _ _ _ _ _ c.plain.ensures c.after_esc.ensures c.in_group.ensures c.in_cursor.ensures c.in_enhance.ensures c.in_other.ensures c.after_set.ensures
