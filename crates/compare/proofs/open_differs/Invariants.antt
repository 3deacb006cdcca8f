-- `compare::open_differs` meets its contract: the loop's invariant is `Alike` of both memories, and `kind` with cell `i`'s mark gives its kind.
-- Assumes nothing.
use Prim.Native.Nat.{ℕ}
use mathlib.Core.Bool.{cond}
use mathlib.Core.List.{List}
use lib.ListN.{get_or}
use Rattle.fields.specs.Fields.{marks, stripped, unprotected}
use Rattle.fields.proofs.Scans.{Onward}
use Rattle.compare.proofs.Patches.{Alike}
use Rattle.compare.proofs.open_differs.Given as goal

abbrev pub bared : List ℕ → ℕ → ℕ
bared attrs k = cond (unprotected (marks attrs) k) (stripped (get_or attrs k 0)) (get_or attrs k 0)

abbrev pub blanked : List ℕ → List ℕ → ℕ → ℕ
blanked chars attrs k = cond (unprotected (marks attrs) k) 32 (get_or chars k 0)

abbrev pub invariant-loop-i : goal.invariant-loop-i
invariant-loop-i l =
    Onward l.attrs l.i l.kind × Alike l.chars l.from l.i (blanked l.chars l.attrs) × Alike l.attrs l.from l.i (bared l.attrs)
