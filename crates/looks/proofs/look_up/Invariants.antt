-- `looks::look_up` meets its contract: the invariant of its loops is `Told`, with the row's number from its first cell. Assumes nothing.
use Prim.Native.Nat.{ℕ, ◌-◌, ◌*◌, ◌/◌, ◌≤◌, ◌<◌, max}
use mathlib.Core.Path.{◌≡◌}
use mathlib.Core.List.{List}
use lib.ListN.{set}
use Rattle.cells.specs.Memory.{moved_up}
use Rattle.changes.specs.declared.Changes.{Changes}
use Rattle.changes.proofs.Differing.{Told}
use Rattle.looks.proofs.look_up.Given as goal

-- the rows from the one that begins at cell k on are told
abbrev pub Upto : List ℕ → List ℕ → ℕ → ℕ → ℕ → Changes → ℕ → Type 0
Upto chars attrs rows at end found k = (k / 80 * 80 ≡ k) × Told rows chars attrs (moved_up (set chars (rows * 80 - 1) end) (at * 80) 32) (moved_up attrs (at * 80) 0) (k / 80) found

abbrev pub invariant-loop-k-2 : goal.invariant-loop-k-2
invariant-loop-k-2 l = (l.k ≤ l.initial.k) × (l.top < l.k) × Upto l.chars l.attrs l.rows l.at l.end l.found l.k

abbrev pub decreases-loop-k-2 : goal.decreases-loop-k-2
decreases-loop-k-2 l = l.k

abbrev pub invariant-loop-k : goal.invariant-loop-k
invariant-loop-k l = (l.k ≤ max l.at (l.rows - 2) * 80) × (l.top ≤ l.k) × Upto l.chars l.attrs l.rows l.at l.end l.found l.k

abbrev pub decreases-loop-k : goal.decreases-loop-k
decreases-loop-k l = l.k

abbrev pub invariant-loop-above : goal.invariant-loop-above
invariant-loop-above l = Told l.rows l.chars l.attrs (moved_up (set l.chars (l.rows * 80 - 1) l.end) (l.at * 80) 32) (moved_up l.attrs (l.at * 80) 0) l._above l.found
