-- `looks::gather` meets its contract: the set has the rows from r on of each list that has the test's answers. Assumes nothing.
use Prim.Native.Nat.{ℕ, ◌≤◌, ◌<◌}
use mathlib.Core.Path.{◌≡◌}
use mathlib.Core.Bool.{Bool, false}
use mathlib.Core.List.{List}
use lib.ListN.{length, get_or, drop}
use Rattle.changes.specs.Sets.{set_of}
use Rattle.looks.proofs.gather.Given as goal

abbrev pub invariant-loop-r : goal.invariant-loop-r
invariant-loop-r g l =
    (l.r ≤ l.rows) × ((s : List Bool) → length s ≡ l.rows → ((r : ℕ) (on : Bool) → r < l.rows → goal.F-post g l.differs r on → on ≡ get_or s r false) → l.found ≡ set_of (drop l.r s))
