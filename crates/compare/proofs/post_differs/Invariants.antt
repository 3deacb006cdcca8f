-- `compare::post_differs` meets its contract: the loop's invariant is `Alike`, and the blanks are `fill_differs`'s. Assumes nothing.
use Prim.Native.Nat.{ℕ, ◌+◌, ◌-◌}
use mathlib.Core.Bool.{cond}
use mathlib.Core.List.{List}
use lib.ListN.{length, get_or}
use lib.Dec.{ltb}
use Rattle.compare.proofs.Patches.{Alike}
use Rattle.compare.proofs.post_differs.Given as goal

abbrev pub text-then : ℕ → List ℕ → ℕ → ℕ
text-then from text k = cond (ltb (k - from) (length text)) (get_or text (k - from) 0) 32

abbrev pub invariant-loop-i : goal.invariant-loop-i
invariant-loop-i l = Alike l.s l.from (l.from + l.i) (text-then l.from l.text)
