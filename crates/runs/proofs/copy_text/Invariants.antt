-- `runs::copy_text` meets its contract: the loop's invariant is `Cells` with `Seen`, and the bytes before the loop's place are all text. Assumes nothing.
use Prim.Native.Nat.{ℕ, ◌+◌, ◌-◌, ◌%◌, ◌≤◌, ◌<◌}
use mathlib.Core.Path.{◌≡◌}
use mathlib.Core.Bool.{true}
use lib.ListN.{get_or}
use Rattle.cells.proofs.Patch.{Cells}
use Rattle.compare.proofs.Patches.{Seen}
use Rattle.runs.specs.Texts.{is_text}
use Rattle.runs.proofs.copy_text.Given as goal

abbrev pub invariant-loop-n : goal.invariant-loop-n
invariant-loop-n l =
    (l.n ≤ l.most) × ((j : ℕ) → j < l.n → is_text (get_or l.bytes (l.from + j) 0) ≡ true)
    × Cells l.initial.chars l.chars l.cell (l.cell + l.n) (λ k. get_or l.bytes (l.from + (k - l.cell)) 0 % 128)
    × Seen l.initial.chars l.cell (l.cell + l.n) (λ k. get_or l.bytes (l.from + (k - l.cell)) 0 % 128) l.changed

abbrev pub decreases-loop-n : goal.decreases-loop-n
decreases-loop-n l = l.most - l.n
