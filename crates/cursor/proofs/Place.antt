-- `is_placed` and `InPlace` say the same, and the moves keep the cursor in place. Assumes nothing.
use Prim.Native.Nat.{ℕ, ◌+◌, ◌*◌, ◌≤◌, ◌<◌}
use mathlib.Core.Path.{◌≡◌, refl}
use mathlib.Core.Bool.{Bool, true, false, cond, and-eq-true_iff, not-eq-not}
use native.Mathlib.Omega.{arith}
use lib.Dec.{leb, ltb}
use borrow.Author.Tests.{ltb-true, leb-true, lt-ltb, le-leb}
use Rattle.cursor.specs.declared.Cursor.{Cursor}
use Rattle.cursor.specs.Cursor.{gone, cell_of, at_cell, gone_up, gone_down, gone_left, gone_right, in_column, home_at, risen, fallen, is_placed, InPlace}

-- the test that passes gives the facts, the facts make it pass, and where they do not hold it fails
pub place_in : (rows : ℕ) (c : Cursor) → is_placed rows c ≡ true → InPlace rows c
unfolding is_placed
place_in rows c e =
    let a = (and-eq-true_iff (ltb c.col 80) _).0 e in
    let b = (and-eq-true_iff (leb (c.top + 24) rows) _).0 a.1 in
    let d = (and-eq-true_iff (leb c.top c.row) _).0 b.1 in
    record {
      col_in = ltb-true _ _ a.0;
      top_in = leb-true _ _ b.0;
      low = leb-true _ _ d.0;
      high = leb-true _ _ d.1;
    }

pub in_place : {rows : ℕ} {c : Cursor} → InPlace rows c → is_placed rows c ≡ true
unfolding is_placed
in_place h = simp (lt-ltb _ _ h.col_in, le-leb _ _ h.top_in, le-leb _ _ h.low, le-leb _ _ h.high)

pub out-of-place : (rows : ℕ) (c : Cursor) → (InPlace rows c → ⊥) → is_placed rows c ≡ false
out-of-place rows c h = (not-eq-not {b = false}).0 (λ e. h (place_in rows c e))

-- the cell that the cursor is put at is the cursor's cell
pub cell-of : (c : Cursor) (n : ℕ) → cell_of (at_cell c n) ≡ n
unfolding at_cell gone
cell-of c n = omega arith

-- home is in place from any place
pub home-in : {rows n : ℕ} → 24 ≤ rows → n < rows * 80 → InPlace rows (home_at n)
unfolding home_at at_cell gone
home-in p q = omega arith

-- a choice by a test keeps in place: the first arm where the test holds, the second in any case
pub choose-in : {rows : ℕ} {c d : Cursor} (t : Bool) → (t ≡ true → InPlace rows c) → InPlace rows d → InPlace rows (cond t c d)
choose-in true p q = p refl
choose-in false p q = q

-- of a cursor that is in place: its row and its cell are the memory's, and each move keeps it in place
module _ {rows : ℕ} {c : Cursor} (g : InPlace rows c) where
  pub row_in : c.row < rows
  row_in = omega (arith, g)

  pub below : cell_of c < rows * 80
  below = omega (arith, g)

  pub gone-in : {row col : ℕ} → row < rows → col < 80 → InPlace rows (gone c row col)
  unfolding gone
  gone-in p q = omega (arith, g)

  pub cell_in : {n : ℕ} → n < rows * 80 → InPlace rows (at_cell c n)
  unfolding at_cell
  cell_in p = gone-in (omega arith) (omega arith)

  pub up_in : InPlace rows (gone_up c)
  unfolding gone_up
  up_in = gone-in (omega (arith, g)) g.col_in

  pub down-in : InPlace rows (gone_down rows c)
  unfolding gone_down
  down-in = gone-in (omega (arith, g)) g.col_in

  pub left_in : InPlace rows (gone_left c)
  unfolding gone_left
  left_in = cell_in (omega (arith, g))

  pub right-in : InPlace rows (gone_right rows c)
  unfolding gone_right
  right-in = cell_in (omega (arith, g))

  pub column-in : {col : ℕ} → col < 80 → InPlace rows (in_column col c)
  unfolding in_column
  column-in p = omega (arith, g)

  pub risen-in : (k : ℕ) → InPlace rows (risen rows k c)
  unfolding risen
  risen-in k = omega (arith, g)

  pub fallen-in : (k : ℕ) → InPlace rows (fallen k c)
  unfolding fallen
  fallen-in k = omega (arith, g)
