-- `fields::is_unprotected` meets its contract: the kind is the callee's. Assumes nothing.
use mathlib.Core.Path.{sym}
use Rattle.fields.proofs.Scans.{unprotected-by}
use Rattle.fields.proofs.is_unprotected.Goals as goal

pub returns : goal.returns
returns c = sym (unprotected-by _ _ c.kind_at.ensures c.is_in.ensures)
