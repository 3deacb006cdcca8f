-- Cursor addressing keeps the cursor in place. Assumes nothing.
use Prim.Native.Nat.{ℕ, ◌+◌, ◌-◌, ◌<◌, min}
use native.Mathlib.Omega.{arith}
use lib.Dec.{eqb}
use lib.IntN.{ℤ, pos, negsuc}
use Rattle.cursor.specs.declared.Cursor.{Cursor}
use Rattle.cursor.specs.Cursor.{InPlace}
use Rattle.cursor.specs.Addressing.{aimed, held_to, to_column, to_row, to_window_row}
use Rattle.cursor.proofs.Place.{gone-in, column-in, choose-in}

-- a number held below n is below n
pub held_in : (n : ℕ) (x : ℤ) → 0 < n → held_to n x < n
unfolding held_to
held_in n (pos a) h = omega arith
held_in n (negsuc a) h = h

module _ {rows : ℕ} {c : Cursor} (g : InPlace rows c) (sign value : ℕ) where
  pub to-column-in : InPlace rows (to_column sign value c)
  unfolding to_column
  to-column-in = column-in g (held_in 80 (aimed sign c.col value) (omega arith))

  pub to-row-in : InPlace rows (to_row rows sign value c)
  unfolding to_row
  to-row-in = gone-in g (held_in rows (aimed sign c.row value) (omega (arith, g))) g.col_in

  pub to-window-row-in : InPlace rows (to_window_row rows sign value c)
  unfolding to_window_row
  to-window-row-in =
      choose-in (eqb sign 0) (λ _. gone-in g {row = min (c.top + min value 23) (rows - 1)} (omega (arith, g)) g.col_in) to-row-in
