-- Tab and back tab keep the cursor in place, whatever the stops. Assumes nothing.
use Prim.Native.Nat.{ℕ, ◌+◌, ◌<◌}
use mathlib.Core.Path.{◌≡◌, refl}
use mathlib.Core.Bool.{Bool, false}
use mathlib.Core.List.{List}
use native.Mathlib.Omega.{arith}
use lib.Dec.{ltb}
use borrow.Author.Tests.{ltb-true}
use Rattle.std.specs.Prelude.{Option, Some, None, unwrap_or}
use Rattle.cells.specs.Search.{first_in, last_in}
use Rattle.cells.proofs.Search.{first_range, last-range}
use Rattle.cursor.specs.declared.Cursor.{Cursor}
use Rattle.cursor.specs.Cursor.{InPlace}
use Rattle.cursor.specs.Stops.{is_stop, at_stop, tabbed, back_tabbed}
use Rattle.cursor.proofs.Place.{gone-in, column-in, choose-in}

module _ {rows : ℕ} {c : Cursor} (g : InPlace rows c) (stops : List Bool) where
  stop-in : (f : Option ℕ) → ((col : ℕ) → f ≡ Some col → col < 80) → InPlace rows (at_stop rows c f)
  stop-in (Some col) h = column-in g (h col refl)
  stop-in None h =
      choose-in (ltb (c.row + 1) rows) (λ e. gone-in g {row = c.row + 1} {col = 0} (ltb-true _ _ e) (omega arith)) g

  at-or-in : (f : Option ℕ) → ((col : ℕ) → f ≡ Some col → col < 80) → unwrap_or f 0 < 80
  at-or-in (Some col) h = h col refl
  at-or-in None h = omega arith

  -- ---- the two moves
  pub tabbed-in : InPlace rows (tabbed rows stops c)
  unfolding tabbed
  tabbed-in = stop-in (first_in is_stop stops (c.col + 1) 80) (λ col e. (first_range is_stop false stops (c.col + 1) 80 col e).1)

  pub back-tabbed-in : InPlace rows (back_tabbed stops c)
  unfolding back_tabbed
  back-tabbed-in =
      column-in g
      (at-or-in (last_in is_stop stops 0 c.col) (λ col e. omega (arith, last-range is_stop false stops 0 c.col col e, g.col_in)))
