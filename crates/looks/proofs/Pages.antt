-- The edits of one row leave the other rows, and what each edit of a page changes. Assumes nothing.
use Prim.Native.Nat.{ℕ, ◌+◌, ◌-◌, ◌*◌, ◌≤◌, ◌<◌}
use mathlib.Core.Path.{◌≡◌, refl, sym, ap, ◌∙◌}
use mathlib.Core.Bool.{Bool, true, false, cond}
use mathlib.Core.List.{List}
use native.Mathlib.Omega.{arith}
use lib.ListN.{length, get_or, set}
use lib.Dec.{eqb}
use borrow.Author.Tests.{eq-eqb, lt-ltb, le-ltb}
use Rattle.cells.specs.Memory.{shifted_right, moved_up}
use Rattle.cells.proofs.Patch.{none, up, done}
use Rattle.fields.specs.Fields.{end_of_row}
use Rattle.screen.specs.Page.{Page, cell}
use Rattle.screen.specs.Whole.{Whole}
use Rattle.screen.specs.Edits.{scrolled, line_fed, put, onward, typed_free, mark_set, enhanced}
use Rattle.changes.specs.Differing.{differing_both}
use Rattle.changes.proofs.Differing.{Beside}
use Rattle.compare.proofs.Patches.{patch-beside}
use Rattle.compare.proofs.Rows.{set-beside}
use Rattle.looks.specs.Looks.{changed}

-- a shift of one cell
put_last : (insert : Bool) (xs : List ℕ) (k e v : ℕ) → k < length xs → e ≡ k + 1 → put insert xs k e v ≡ set xs k v
unfolding put shifted_right
put_last true xs k e v h n = sym (done {xs = xs} {lo = k} {hi = e} {f = λ i. cond (eqb i k) v (get_or xs (i - 1) 0)} (up {i = k} (none {i = k} refl) (omega arith) h (sym (simp (eq-eqb k k refl))) n) refl refl)
put_last false xs k e v h n = refl

-- ---- edits within row r of a memory of n rows
module _ (n r : ℕ) (xs : List ℕ) (here : r < n) (long : length xs ≡ n * 80) where
  module _ (from to : ℕ) (a : r * 80 ≤ from) (b : to ≤ r * 80 + 80) where
    pub put-beside : (insert : Bool) (v : ℕ) → from < to → Beside n r xs (put insert xs from to v)
    unfolding put shifted_right
    put-beside true v h = patch-beside n r xs _ here long from to a b
    put-beside false v h = set-beside n r xs here long from v a (omega arith)

  pub marked-beside : (format : Bool) (m k : ℕ) → r * 80 ≤ k → k < r * 80 + 80 → Beside n r xs (mark_set format m xs k)
  unfolding mark_set
  marked-beside true m k a b = record { here = here; long = long; same-long = long; kept = λ i o. refl }
  marked-beside false m k a b = set-beside n r xs here long k _ a b

  pub enhanced-beside : (format : Bool) (m k : ℕ) → r * 80 ≤ k → k < r * 80 + 80 → Beside n r xs (enhanced format m xs k)
  unfolding enhanced
  enhanced-beside true m k a b = record { here = here; long = long; same-long = long; kept = λ i o. refl }
  enhanced-beside false m k a b = set-beside n r xs here long k _ a b

-- ---- text with format off
module _ (rows : ℕ) (p : Page) (w : Whole rows p) (insert : Bool) (v : ℕ) where
  pub free-inner : cell p + 1 < rows * 80 → changed rows p (typed_free rows insert v p) ≡ differing_both rows p.chars p.attrs (put insert p.chars (cell p) (end_of_row (cell p)) v) p.attrs
  unfolding changed typed_free onward
  free-inner h = simp (lt-ltb (cell p + 1) (rows * 80) h)

  -- from the last cell: written, then the memory scrolls
  pub free-last : rows * 80 ≤ cell p + 1 → changed rows p (typed_free rows insert v p) ≡ differing_both rows p.chars p.attrs (moved_up (set p.chars (rows * 80 - 1) v) 0 32) (moved_up p.attrs 0 0)
  unfolding changed typed_free onward line_fed scrolled
  free-last h =
      let g = w.place in
      let k : cell p ≡ rows * 80 - 1 = omega (arith, g, w.few) in
      simp (le-ltb (cell p + 1) (rows * 80) h, le-ltb (p.cursor.row + 1) rows (omega (arith, g)))
      (ap (λ (xs : List ℕ). differing_both rows p.chars p.attrs (moved_up xs 0 32) (moved_up p.attrs 0 0))
      (put_last insert p.chars (cell p) (end_of_row (cell p)) v (omega (arith, g, w.chars_long)) (omega (arith, g)) ∙ ap (λ (i : ℕ). set p.chars i v) k))
