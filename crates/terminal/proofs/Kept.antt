-- Every action keeps a sound world sound. Assumes nothing.
use Prim.Native.Nat.{ℕ, ◌*◌, ◌%◌, ◌<◌}
use mathlib.Core.Path.{◌≡◌, ◌∙◌}
use mathlib.Core.Bool.{Bool, ◌||◌}
use mathlib.Core.List.{List}
use native.Mathlib.Omega.{arith}
use lib.ListN.{length}
use lib.Dec.{eqb}
use Rattle.cursor.specs.declared.Cursor.{Cursor}
use Rattle.cursor.specs.Cursor.{InPlace}
use Rattle.cursor.proofs.Place.{up_in, down-in, left_in, right-in, column-in, risen-in, fallen-in, choose-in}
use Rattle.cursor.proofs.Addressing.{to-column-in, to-row-in, to-window-row-in}
use Rattle.cursor.proofs.Stops.{tabbed-in, back-tabbed-in}
use Rattle.fields.specs.Fields.{marks}
use Rattle.fields.proofs.Marks.{length-marks}
use Rattle.reading.specs.Action as Action
use Rattle.reading.proofs.Rules.{either}
use Rattle.screen.specs.Page.{Page}
use Rattle.screen.specs.Whole.{Whole}
use Rattle.screen.proofs.Kept.{typed-whole, line_fed-whole, display_cleared-whole, line_cleared-whole, char_deleted-whole, row_inserted-whole, row_deleted-whole, length-mark_set, length-mark_turned, length-enhanced, homed-in, homed_down-in, tabbed_in-in, back_tabbed_in-in}
use Rattle.terminal.specs.declared.Terminal.{Terminal}
use Rattle.terminal.specs.State.{World, stated, placed, moded, stopped, page_of, paged, Good, Sound}
use Rattle.terminal.specs.Acts.{switched, tabbed_by, back_tabbed_by, steered, stamps, stamped, acted}
use Rattle.terminal.proofs.Good.{fresh-sound}

-- ---- a good state with one group of its parts set
module _ {rows : ℕ} {t : Terminal} (g : Good rows t) where
  pub good_placed : {c : Cursor} → InPlace rows c → Good rows (placed t c)
  good_placed p = record { place = p; pending_in = g.pending_in; reading_in = g.reading_in; number_in = g.number_in; changes_in = g.changes_in }

  pub good-moded : (format insert lock : Bool) {n : ℕ} → n < 5 → Good rows (moded t format insert lock n)
  good-moded format insert lock p = record { place = g.place; pending_in = p; reading_in = g.reading_in; number_in = g.number_in; changes_in = g.changes_in }

  pub good-stopped : (tabs : List Bool) → Good rows (stopped t tabs)
  good-stopped tabs = record { place = g.place; pending_in = g.pending_in; reading_in = g.reading_in; number_in = g.number_in; changes_in = g.changes_in }

  -- ---- modes, pending transfers and tab stops
  pub switched-good : (a : ℕ) → Good rows (switched a t)
  unfolding switched
  switched-good a =
      let P = Good rows in
      let same = g.pending_in in
      either P (eqb a Action.insert_on) (good-moded _ _ _ same)
      (either P (eqb a Action.insert_off) (good-moded _ _ _ same)
      (either P (eqb a Action.format_on) (good-moded _ _ _ same)
      (either P (eqb a Action.format_off) (good-moded _ _ _ same)
      (either P (eqb a Action.set_tab) (good-stopped _)
      (either P (eqb a Action.clear_tab) (good-stopped _)
      (either P (eqb a Action.clear_tabs) (good-stopped _)
      (either P (eqb a Action.ask_absolute) (good-moded _ _ _ (omega arith))
      (either P (eqb a Action.ask_window) (good-moded _ _ _ (omega arith))
      (either P (eqb a Action.ask_status) (good-moded _ _ _ (omega arith))
      (either P (eqb a Action.ask_block) (good-moded _ _ _ (omega arith))
      (either P (eqb a Action.trigger) (good-moded _ _ _ (omega arith))
      (either P (eqb a Action.lock_off) (good-moded _ _ _ same)
      (either P (eqb a Action.lock_on) (good-moded _ _ _ same)
      (either P (eqb a Action.soft_reset) (good-moded _ _ _ (omega arith))
      g))))))))))))))

-- ---- marks and enhancements
pub length-stamped : (a v : ℕ) (format : Bool) (attrs : List ℕ) (k : ℕ) → length (stamped a v format attrs k) ≡ length attrs
unfolding stamped
length-stamped a v format attrs k =
    let P : List ℕ → Type 0 = λ xs. length xs ≡ length attrs in
    either P (eqb a Action.mark1) (length-mark_set format 1 attrs k)
    (either P (eqb a Action.mark4) (length-mark_set format 4 attrs k)
    (either P (eqb a Action.mark5) (length-mark_set format 5 attrs k)
    (either P (eqb a Action.turn2) (length-mark_turned format 2 attrs k)
    (either P (eqb a Action.turn3) (length-mark_turned format 3 attrs k)
    (either P (eqb a Action.turn1) (length-mark_turned format 1 attrs k)
    (length-enhanced format (v % 16) attrs k))))))

module _ {rows : ℕ} {w : World} (s : Sound rows w) where
  pub whole : Whole rows (page_of w)
  whole = record { few = s.few; chars_long = s.chars_long; attrs_long = s.attrs_long; place = s.good.place }

  -- the page after an edit, and another state over the same memory
  pub sound-paged : {p : Page} → Whole rows p → Sound rows (paged w p)
  sound-paged h = record { few = s.few; chars_long = h.chars_long; attrs_long = h.attrs_long; good = good_placed s.good h.place }

  pub sound-stated : {t : Terminal} → Good rows t → Sound rows (stated w t)
  sound-stated g = record { few = s.few; chars_long = s.chars_long; attrs_long = s.attrs_long; good = g }

  -- ---- moves of the cursor
  goes : {c : Cursor} → InPlace rows c → Good rows (placed w.state c)
  goes p = good_placed s.good p

  long : length (marks w.attrs) ≡ rows * 80
  long = length-marks w.attrs ∙ s.attrs_long

  tabbed_by-in : InPlace rows (tabbed_by rows w.attrs w.state)
  unfolding tabbed_by
  tabbed_by-in =
      let g = s.good.place in
      choose-in w.state.format (λ _. tabbed_in-in g (marks w.attrs) long)
      (tabbed-in g w.state.tabs)

  back_tabbed_by-in : InPlace rows (back_tabbed_by w.attrs w.state)
  unfolding back_tabbed_by
  back_tabbed_by-in =
      let g = s.good.place in
      choose-in w.state.format (λ _. back_tabbed_in-in g (marks w.attrs) long)
      (back-tabbed-in g w.state.tabs)

  pub steered-good : (a : ℕ) → Good rows (steered rows a w)
  unfolding steered
  steered-good a =
      let P = Good rows in
      let c = s.good.place in
      either P (eqb a Action.up) (goes (up_in c))
      (either P (eqb a Action.down) (goes (down-in c))
      (either P (eqb a Action.right) (goes (right-in c))
      (either P (eqb a Action.left) (goes (left_in c))
      (either P (eqb a Action.column0) (goes (column-in c (omega arith)))
      (either P (eqb a Action.home) (goes (homed-in c (marks w.attrs) long w.state.format 3))
      (either P (eqb a Action.home_all) (goes (homed-in c (marks w.attrs) long w.state.format 4))
      (either P (eqb a Action.home_down) (goes (homed_down-in c w.chars))
      (either P (eqb a Action.tab) (goes tabbed_by-in)
      (either P (eqb a Action.back_tab) (goes back_tabbed_by-in)
      (either P (eqb a Action.roll_up) (goes (risen-in c 1))
      (either P (eqb a Action.roll_down) (goes (fallen-in c 1))
      (either P (eqb a Action.next_page) (goes (risen-in c 24))
      (either P (eqb a Action.prev_page) (goes (fallen-in c 24))
      (either P (eqb a Action.column_on || eqb a Action.column_end) (goes (to-column-in c _ _))
      (either P (eqb a Action.row_on || eqb a Action.row_end) (goes (to-row-in c _ _))
      (either P (eqb a Action.window_on || eqb a Action.window_end) (goes (to-window-row-in c _ _))
      (switched-good s.good a)))))))))))))))))

  -- ---- every action
  pub acted-sound : (a v : ℕ) → Sound rows (acted rows a v w)
  unfolding acted
  acted-sound a v =
      let P = Sound rows in
      let t = w.state in
      either P (eqb a Action.text) (sound-paged (typed-whole whole t.format t.insert v))
      (either P (eqb a Action.line_feed) (sound-paged (line_fed-whole whole t.format))
      (either P (eqb a Action.clear_display) (sound-paged (display_cleared-whole whole t.format))
      (either P (eqb a Action.clear_line) (sound-paged (line_cleared-whole whole t.format))
      (either P (eqb a Action.insert_row) (sound-paged (row_inserted-whole whole t.format))
      (either P (eqb a Action.delete_row) (sound-paged (row_deleted-whole whole t.format))
      (either P (eqb a Action.delete_char) (sound-paged (char_deleted-whole whole t.format))
      (either P (eqb a Action.hard_reset) (fresh-sound (omega (arith, s.good.place)) s.few)
      (either P (stamps a)
      (record { few = s.few; chars_long = s.chars_long; attrs_long = length-stamped a v t.format w.attrs _ ∙ s.attrs_long; good = s.good })
      (sound-stated (steered-good a))))))))))
