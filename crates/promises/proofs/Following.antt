-- Two terminals that are alike in all but the cells of hidden fields and the rows that are set stay so by each action but home down, each host byte and each stream, and
-- what the host is sent is as long. Assumes nothing.
use mathlib.Core.Path.{◌≡◌, refl, sym, ap, ap₂, ◌∙◌, subst}
use mathlib.Core.Bool.{Bool, true, false, cond, ◌||◌}
use mathlib.Core.List.{List, [], ◌∷◌, map}
use Prim.Native.Nat.{ℕ, suc, ◌+◌, ◌-◌, ◌%◌, ◌≤◌, min}
use native.Mathlib.Omega.{arith}
use lib.Dec.{eqb, leb, ltb}
use lib.ListN.{length, get_or, take, length-append, length-take, length-drop}
use borrow.Author.Tests.{ne_eqb, leb-true}
use Rattle.cells.specs.Memory.{written}
use Rattle.cells.proofs.Splice.{length-written}
use Rattle.cells.proofs.Choices.{choose-both}
use Rattle.cells.specs.Search.{all_of}
use Rattle.cursor.specs.Cursor.{cell_of, gone_up, gone_down, gone_left, gone_right, in_column, risen, fallen}
use Rattle.cursor.specs.Addressing.{to_column, to_row, to_window_row}
use Rattle.cursor.specs.Stops.{tabbed, back_tabbed}
use Rattle.fields.specs.Fields.{marks, mark_of, is_in, field_end}
use Rattle.reading.specs.Action as Action
use Rattle.screen.specs.Page.{with_cursor}
use Rattle.screen.specs.Edits.{scrolled, line_fed, homed, tabbed_in, back_tabbed_in, row_inserted, row_deleted, mark_set, mark_turned, enhanced}
use Rattle.replies.specs.Replies.{field_text, joined, fields_reply, cursor_reply, status_reply, block_reply}
use Rattle.terminal.specs.declared.Terminal.{Terminal}
use Rattle.terminal.specs.State.{World, world, stated, placed, page_of, paged, Sound}
use Rattle.terminal.specs.Acts.{switched, tabbed_by, back_tabbed_by, steered, stamps, stamped, acted}
use Rattle.terminal.specs.Noted.{noted}
use Rattle.key.specs.Keys.{key_action}
use Rattle.streams.specs.Streams.{action_for, read_on, stepped_by, stepped, pending_reply, reply_to, answer_to, Hosted, fed_on}
use Rattle.streams.specs.Protected.{StaysOn}
use Rattle.streams.proofs.Kept.{stepped-sound}
use Rattle.streams.proofs.Streams.{fed_on-counts}
use Rattle.mixing.proofs.Cellwise.{Steps}
use Rattle.mixing.proofs.Unseen.{Alike, steps-follow}
use Rattle.promises.specs.Owners.{NoneDown}
use Rattle.promises.proofs.Machine.{Known, known, unset, over, Alive, alive, key_reach, M, Owned}
use Rattle.promises.proofs.Laws.{alike}
use Rattle.promises.proofs.Keys.{pressed, by, typed-law, clear-display-law, clear-line-law, delete-law}
use Rattle.promises.proofs.Rows.{noted-clean}
use Rattle.promises.proofs.Owned.{as-owned}

-- a choice of two equal things
same : {A : Type 0} (b : Bool) {p q r : A} → p ≡ r → q ≡ r → cond b p q ≡ r
same true h k = h
same false h k = k

-- ---- what is sent is as long
pub record AsLong (p q : List ℕ) : Type 0 where
  pub long : length p ≡ length q

abbrev as-it-is : {p : List ℕ} → AsLong p p
as-it-is = record { long = refl }

text-long : (xs ys ms : List ℕ) → length xs ≡ length ys → (k : ℕ) → length (field_text xs ms k) ≡ length (field_text ys ms k)
unfolding field_text
text-long xs ys ms e k = length-drop k (take (field_end ms k) xs) ∙ ap (λ (n : ℕ). n - k) (length-take (field_end ms k) xs ∙ ap (min (field_end ms k)) e ∙ sym (length-take (field_end ms k) ys)) ∙ sym (length-drop k (take (field_end ms k) ys))

joined-long : (f g : ℕ → List ℕ) → ((k : ℕ) → length (f k) ≡ length (g k)) → (ks : List ℕ) → length (joined (map f ks)) ≡ length (joined (map g ks))
unfolding joined
joined-long f g h [] = refl
joined-long f g h (k ∷ []) = h k
joined-long f g h (k ∷ (n ∷ ks)) =
    length-append (f k) (31 ∷ joined (map f (n ∷ ks)))
    ∙ ap₂ (λ (a b : ℕ). a + suc b) (h k) (joined-long f g h (n ∷ ks))
    ∙ sym (length-append (g k) (31 ∷ joined (map g (n ∷ ks))))

fields-long : (xs ys attrs attrs' : List ℕ) → length xs ≡ length ys → marks attrs ≡ marks attrs' → AsLong (fields_reply xs attrs) (fields_reply ys attrs')
unfolding fields_reply
fields-long xs ys attrs attrs' e m =
    record {
      long =
          length-append (joined (map (field_text xs (marks attrs)) (all_of (is_in 4) 0 (marks attrs)))) (30 ∷ [])
          ∙ ap (λ (n : ℕ). n + 1)
          (joined-long (field_text xs (marks attrs)) (field_text ys (marks attrs)) (text-long xs ys (marks attrs) e) (all_of (is_in 4) 0 (marks attrs))
          ∙ ap (λ (ms : List ℕ). length (joined (map (field_text ys ms) (all_of (is_in 4) 0 ms)))) m)
          ∙ sym (length-append (joined (map (field_text ys (marks attrs')) (all_of (is_in 4) 0 (marks attrs')))) (30 ∷ []));
    }

-- format mode that stays on is on
pub on-now : (rows : ℕ) (bs : List ℕ) (x : World) → StaysOn rows bs x → x.state.format ≡ true
on-now rows [] x h = h
on-now rows (b ∷ bs) x h = h.0

module _ (rows : ℕ) (owners : List ℕ) (Hidden : ℕ → Type 0) where
  abbrev pub Similar : World → World → Type 0
  Similar x y = Alike (Owned rows owners) Hidden x y

  abbrev Live : World → Type 0
  Live x = Alive rows (known rows x)

  -- ---- a step that sets the state alone, by what is known
  stated-similar : (next : Known → Terminal) (x y : World) → Similar x y → Similar (stated x (over x (next (known rows x)))) (stated y (over y (next (known rows y))))
  stated-similar next x y r =
      record {
        states = λ j.
            record {
              state = unset (next (r.states j));
              clean = (r.states j).clean;
              marks = (r.states j).marks;
              chars = (r.states j).chars;
              attrs = (r.states j).attrs;
            };
        cells = r.cells;
      }

  by-known : (f : World → World) (next : Known → Terminal) → ((x : World) → Live x → f x ≡ stated x (over x (next (known rows x))))
      → (x y : World) → Live x → Live y → Similar x y → Similar (f x) (f y)
  by-known f next e x y a b r = rw (e x a, e y b) (stated-similar next x y r)

  -- to note the rows changes nothing that counts
  pub noted-similar : (x y u v : World) → Similar u v → Similar (noted rows x u) (noted rows y v)
  noted-similar x y u v r =
      record {
        states = λ j.
            record {
              state = (r.states j).state;
              clean = (noted-clean rows x u ∙ sym (noted-clean rows y v)) j;
              marks = (r.states j).marks;
              chars = (r.states j).chars;
              attrs = (r.states j).attrs;
            };
        cells = r.cells;
      }

  -- ---- the moves and switches but home down
  -- t is u with the rows of x
  record RowsFrom (x : World) (t u : Terminal) : Type 0 where
    is : t ≡ over x u

  abbrev made : {x : World} {u : Terminal} → RowsFrom x (over x u) u
  made = record { is = refl }

  switched-over : (a : ℕ) (x : World) → RowsFrom x (switched a x.state) (switched a (unset x.state))
  unfolding switched
  switched-over a x =
      choose-both (RowsFrom x) (eqb a Action.insert_on) (λ _. made)
      (λ _. choose-both (RowsFrom x) (eqb a Action.insert_off) (λ _. made)
      (λ _. choose-both (RowsFrom x) (eqb a Action.format_on) (λ _. made)
      (λ _. choose-both (RowsFrom x) (eqb a Action.format_off) (λ _. made)
      (λ _. choose-both (RowsFrom x) (eqb a Action.set_tab) (λ _. made)
      (λ _. choose-both (RowsFrom x) (eqb a Action.clear_tab) (λ _. made)
      (λ _. choose-both (RowsFrom x) (eqb a Action.clear_tabs) (λ _. made)
      (λ _. choose-both (RowsFrom x) (eqb a Action.ask_absolute) (λ _. made)
      (λ _. choose-both (RowsFrom x) (eqb a Action.ask_window) (λ _. made)
      (λ _. choose-both (RowsFrom x) (eqb a Action.ask_status) (λ _. made)
      (λ _. choose-both (RowsFrom x) (eqb a Action.ask_block) (λ _. made)
      (λ _. choose-both (RowsFrom x) (eqb a Action.trigger) (λ _. made)
      (λ _. choose-both (RowsFrom x) (eqb a Action.lock_off) (λ _. made)
      (λ _. choose-both (RowsFrom x) (eqb a Action.lock_on) (λ _. made)
      (λ _. choose-both (RowsFrom x) (eqb a Action.soft_reset) (λ _. made)
      (λ _. made)))))))))))))))

  steer : ℕ → Known → Terminal
  steer a s =
      let t = s.state in
      let c = s.state.cursor in
      let n = s.state.number in
      cond (eqb a Action.up) (placed t (gone_up c))
      (cond (eqb a Action.down) (placed t (gone_down rows c))
      (cond (eqb a Action.right) (placed t (gone_right rows c))
      (cond (eqb a Action.left) (placed t (gone_left c))
      (cond (eqb a Action.column0) (placed t (in_column 0 c))
      (cond (eqb a Action.home) (placed t (homed t.format 3 s.marks))
      (cond (eqb a Action.home_all) (placed t (homed t.format 4 s.marks))
      (cond (eqb a Action.tab) (placed t (cond t.format (tabbed_in s.marks c) (tabbed rows t.tabs c)))
      (cond (eqb a Action.back_tab) (placed t (cond t.format (back_tabbed_in s.marks c) (back_tabbed t.tabs c)))
      (cond (eqb a Action.roll_up) (placed t (risen rows 1 c))
      (cond (eqb a Action.roll_down) (placed t (fallen 1 c))
      (cond (eqb a Action.next_page) (placed t (risen rows 24 c))
      (cond (eqb a Action.prev_page) (placed t (fallen 24 c))
      (cond (eqb a Action.column_on || eqb a Action.column_end) (placed t (to_column n.sign n.value c))
      (cond (eqb a Action.row_on || eqb a Action.row_end) (placed t (to_row rows n.sign n.value c))
      (cond (eqb a Action.window_on || eqb a Action.window_end) (placed t (to_window_row rows n.sign n.value c))
      (switched a t))))))))))))))))

  steered-over : (a : ℕ) → ¬ (a ≡ Action.home_down) → (x : World) → RowsFrom x (steered rows a x) (steer a (known rows x))
  unfolding steered steer tabbed_by back_tabbed_by
  steered-over a n x =
      rw (ne_eqb a Action.home_down n)
      (choose-both (RowsFrom x) (eqb a Action.up) (λ _. made)
      (λ _. choose-both (RowsFrom x) (eqb a Action.down) (λ _. made)
      (λ _. choose-both (RowsFrom x) (eqb a Action.right) (λ _. made)
      (λ _. choose-both (RowsFrom x) (eqb a Action.left) (λ _. made)
      (λ _. choose-both (RowsFrom x) (eqb a Action.column0) (λ _. made)
      (λ _. choose-both (RowsFrom x) (eqb a Action.home) (λ _. made)
      (λ _. choose-both (RowsFrom x) (eqb a Action.home_all) (λ _. made)
      (λ _. choose-both (RowsFrom x) (eqb a Action.tab) (λ _. made)
      (λ _. choose-both (RowsFrom x) (eqb a Action.back_tab) (λ _. made)
      (λ _. choose-both (RowsFrom x) (eqb a Action.roll_up) (λ _. made)
      (λ _. choose-both (RowsFrom x) (eqb a Action.roll_down) (λ _. made)
      (λ _. choose-both (RowsFrom x) (eqb a Action.next_page) (λ _. made)
      (λ _. choose-both (RowsFrom x) (eqb a Action.prev_page) (λ _. made)
      (λ _. choose-both (RowsFrom x) (eqb a Action.column_on || eqb a Action.column_end) (λ _. made)
      (λ _. choose-both (RowsFrom x) (eqb a Action.row_on || eqb a Action.row_end) (λ _. made)
      (λ _. choose-both (RowsFrom x) (eqb a Action.window_on || eqb a Action.window_end) (λ _. made)
      (λ _. switched-over a x)))))))))))))))))

  -- ---- marks and enhancements stay with format on
  turned_on : (m : ℕ) (attrs : List ℕ) (k : ℕ) → mark_turned true m attrs k ≡ attrs
  unfolding mark_turned mark_set
  turned_on m attrs k = same (is_in 3 (mark_of (get_or attrs k 0))) refl refl

  stamped-on : (a v : ℕ) (attrs : List ℕ) (k : ℕ) → stamped a v true attrs k ≡ attrs
  unfolding stamped mark_set enhanced
  stamped-on a v attrs k =
      same (eqb a Action.mark1) refl
      (same (eqb a Action.mark4) refl
      (same (eqb a Action.mark5) refl
      (same (eqb a Action.turn2) (turned_on 2 attrs k)
      (same (eqb a Action.turn3) (turned_on 3 attrs k)
      (same (eqb a Action.turn1) (turned_on 1 attrs k) refl)))))

  -- ---- each action
  abbrev pub Follows : (World → World) → Type 0
  Follows f = (x y : World) → Live x → Live y → Similar x y → Similar (f x) (f y)

  edit-similar : (f : World → World) (Reach : Known → ℕ → Type 0) → Steps (M rows) Live f (λ s g. ⊥) Reach → Follows f
  edit-similar f Reach c x y a b r =
      steps-follow (Owned rows owners) Hidden Live f (λ s g. ⊥) Reach (as-owned rows owners Live f (λ s g. ⊥) Reach c) (λ s g w. absurd w) x y a b r

  line-fed : (x : World) → Live x → paged x (line_fed rows x.state.format (page_of x))
      ≡ stated x (over x (placed (known rows x).state (cond (ltb (x.state.cursor.row + 1) rows) (gone_down rows x.state.cursor) x.state.cursor)))
  unfolding line_fed
  line-fed x a = ap (λ (b : Bool). paged x (cond t (with_cursor (gone_down rows x.state.cursor) (page_of x)) (cond b (page_of x) (scrolled (page_of x))))) a.on ∙ go t
    where
      t : Bool
      t = ltb (x.state.cursor.row + 1) rows

      go : (b : Bool) → paged x (cond b (with_cursor (gone_down rows x.state.cursor) (page_of x)) (page_of x))
          ≡ stated x (placed x.state (cond b (gone_down rows x.state.cursor) x.state.cursor))
      go true = refl
      go false = refl

  -- neither an edit nor a reset
  rest-is : (a v : ℕ) → ¬ (a ≡ Action.home_down) → (x : World) → Live x
      → cond (stamps a) (world x.state x.chars (stamped a v x.state.format x.attrs (cell_of x.state.cursor))) (stated x (steered rows a x))
      ≡ stated x (over x (cond (stamps a) (known rows x).state (steer a (known rows x))))
  rest-is a v nd x l = go (stamps a)
    where
      go : (b : Bool) → cond b (world x.state x.chars (stamped a v x.state.format x.attrs (cell_of x.state.cursor))) (stated x (steered rows a x))
          ≡ stated x (over x (cond b (known rows x).state (steer a (known rows x))))
      go true =
          ap (λ (f : Bool). world x.state x.chars (stamped a v f x.attrs (cell_of x.state.cursor))) l.on
          ∙ ap (λ (l : List ℕ). world x.state x.chars l) (stamped-on a v x.attrs (cell_of x.state.cursor))
      go false = ap (λ (t : Terminal). stated x t) (steered-over a nd x).is

  pub acted-similar : (a v : ℕ) → ¬ (a ≡ Action.home_down) → Follows (acted rows a v)
  unfolding acted key_action row_inserted row_deleted
  acted-similar a v nd =
      by rows P a Action.text (edit-similar (acted rows Action.text v) (λ s f. Unit {0}) (typed-law rows v (λ s g. ⊥) (λ s f. Unit {0}) (λ s f k e h. tt)))
      (λ n1. by rows P a Action.line_feed
      (by-known (acted rows Action.line_feed v) (λ s. placed s.state (cond (ltb (s.state.cursor.row + 1) rows) (gone_down rows s.state.cursor) s.state.cursor)) line-fed)
      (λ n2. by rows P a Action.clear_display (edit-similar (acted rows Action.clear_display v) (key_reach 264) (as-key 264 Action.clear_display (λ x. refl) (clear-display-law rows)))
      (λ n3. by rows P a Action.clear_line (edit-similar (acted rows Action.clear_line v) (key_reach 265) (as-key 265 Action.clear_line (λ x. refl) (clear-line-law rows)))
      (λ n4. by rows P a Action.insert_row
      (by-known (acted rows Action.insert_row v) (λ s. s.state) (λ x l. ap (λ (b : Bool). paged x (row_inserted b (page_of x))) l.on))
      (λ n5. by rows P a Action.delete_row
      (by-known (acted rows Action.delete_row v) (λ s. s.state) (λ x l. ap (λ (b : Bool). paged x (row_deleted b (page_of x))) l.on))
      (λ n6. by rows P a Action.delete_char (edit-similar (acted rows Action.delete_char v) (key_reach 267) (as-key 267 Action.delete_char (λ x. refl) (delete-law rows)))
      (λ n7. by rows P a Action.hard_reset (λ x y l m r. record { states = refl; cells = λ i h k. refl })
      (λ n8. by-known (acted rows a v) (λ s. cond (stamps a) s.state (steer a s))
      (λ x l.
      rw (ne_eqb a Action.text n1, ne_eqb a Action.line_feed n2, ne_eqb a Action.clear_display n3, ne_eqb a Action.clear_line n4, ne_eqb a Action.insert_row n5, ne_eqb a Action.delete_row n6, ne_eqb a Action.delete_char n7, ne_eqb a Action.hard_reset n8)
      (rest-is a v nd x l))))))))))
    where
      P : ℕ → Type 0
      P a = Follows (acted rows a v)

      as-key : (code b : ℕ) → ((x : World) → acted rows b v x ≡ pressed rows code x) → Steps (M rows) Live (pressed rows code) (λ s g. ⊥) (key_reach code)
          → Steps (M rows) Live (acted rows b v) (λ s g. ⊥) (key_reach code)
      as-key code b e = alike (M rows) Live (pressed rows code) (acted rows b v) (λ s g. ⊥) (key_reach code) (λ x l. e x)

  -- ---- one byte
  pub stepped-similar : (b : ℕ) (x y : World) → Live x → Live y → ¬ (action_for x.state b ≡ Action.home_down) → Similar x y → Similar (stepped rows b x) (stepped rows b y)
  unfolding stepped stepped_by action_for read_on
  stepped-similar b x y l m nd r =
      let a = action_for x.state b in
      let e : action_for y.state b ≡ a = ap (λ (s : Known). action_for s.state b) (sym r.states) in
      let u = acted rows a (b % 128) x in
      let v = acted rows a (b % 128) y in
      rw e (stated-similar (λ s. read_on a (b % 128) s.state) (noted rows x u) (noted rows y v) (noted-similar x y u v (acted-similar a (b % 128) nd x y l m r)))

  -- ---- what is sent is as long
  block-long : (x y : World) → Live x → Live y → Similar x y
      → AsLong (block_reply x.state.format x.chars x.attrs x.state.cursor.row) (block_reply y.state.format y.chars y.attrs y.state.cursor.row)
  unfolding block_reply
  block-long x y l m r =
      rw (l.on, m.on)
      (fields-long x.chars y.chars x.attrs y.attrs (ap (λ (s : Known). s.chars) r.states) (ap (λ (s : Known). s.marks) r.states))

  -- the reply that is pending, with the block reply handed in
  abbrev pending_with : Terminal → List ℕ → List ℕ
  pending_with t block =
      cond (eqb t.pending 1) (cursor_reply t.cursor.col t.cursor.row 82)
      (cond (eqb t.pending 2) (cursor_reply t.cursor.col (t.cursor.row - t.cursor.top) 89)
      (cond (eqb t.pending 3) (status_reply t.format t.insert t.lock)
      (cond (eqb t.pending 4) block
      [])))

  pending-long : (t : Terminal) (p q : List ℕ) → AsLong p q → AsLong (pending_with t p) (pending_with t q)
  pending-long t p q h =
      choose-both AsLong (eqb t.pending 1) (λ _. as-it-is)
      (λ _. choose-both AsLong (eqb t.pending 2) (λ _. as-it-is)
      (λ _. choose-both AsLong (eqb t.pending 3) (λ _. as-it-is)
      (λ _. choose-both AsLong (eqb t.pending 4) (λ _. h)
      (λ _. as-it-is))))

  pub answer-long : (b : ℕ) (x y : World) → Live x → Live y → Similar x y → AsLong (answer_to b x) (answer_to b y)
  unfolding answer_to reply_to pending_reply action_for
  answer-long b x y l m r =
      let a = action_for x.state b in
      let block = block_reply y.state.format y.chars y.attrs y.state.cursor.row in
      subst (λ (s : Known). AsLong (answer_to b x) (cond (eqb (action_for s.state b) Action.ack) (6 ∷ []) (cond (eqb (action_for s.state b) Action.trigger) (pending_with s.state block) [])))
      r.states
      (choose-both AsLong (eqb a Action.ack) (λ _. as-it-is)
      (λ _. choose-both AsLong (eqb a Action.trigger)
      (λ _. pending-long x.state (block_reply x.state.format x.chars x.attrs x.state.cursor.row) block (block-long x y l m r))
      (λ _. as-it-is)))

  -- ---- a stream
  -- the counts are the same, and the worlds alike; the reply bytes may differ
  pub record SimilarStreams (h k : Hosted) : Type 0 where
    pub numbers : h.number ≡ k.number
    pub takens : h.taken ≡ k.taken
    pub writtens : h.written ≡ k.written
    pub worlds : Similar h.world k.world

  -- format mode stays on, and no byte asks for home down
  abbrev CalmBytes : List ℕ → World → Type 0
  CalmBytes bs x = StaysOn rows bs x × NoneDown rows bs x

  pub fed-similar : (bs : List ℕ) (taken sent : ℕ) (x y : World) (xs ys : List ℕ) → sent ≤ length xs → length xs ≡ length ys → Sound rows x → Sound rows y
      → CalmBytes (take ((fed_on rows bs taken sent x xs).taken - taken) bs) x → Similar x y → SimilarStreams (fed_on rows bs taken sent x xs) (fed_on rows bs taken sent y ys)
  unfolding fed_on
  fed-similar [] taken sent x y xs ys n e s u calm r = record { numbers = refl; takens = refl; writtens = refl; worlds = r }
  fed-similar (b ∷ bs) taken sent x y xs ys n e s u calm r =
      go (leb (sent + length (answer_to b x)) (length xs)) refl calm
      (fed-similar bs (taken + 1) (sent + length (answer_to b x)) (stepped rows b x) (stepped rows b y) (written xs sent (answer_to b x)) (written ys sent (answer_to b y)))
    where
      l : Live x
      l = alive s (on-now rows (take ((fed_on rows (b ∷ bs) taken sent x xs).taken - taken) (b ∷ bs)) x calm.0)

      m : Live y
      m = subst (Alive rows) r.states l

      long : length (answer_to b x) ≡ length (answer_to b y)
      long = (answer-long b x y l m r).long

      other : leb (sent + length (answer_to b y)) (length ys) ≡ leb (sent + length (answer_to b x)) (length xs)
      other = λ j. leb (sent + sym long j) (sym e j)

      more : Hosted
      more = fed_on rows bs (taken + 1) (sent + length (answer_to b x)) (stepped rows b x) (written xs sent (answer_to b x))

      stop : Hosted
      stop = record { number = 7; taken = taken; written = sent; world = x; reply = xs }

      go : (c : Bool) → leb (sent + length (answer_to b x)) (length xs) ≡ c → CalmBytes (take ((cond c more stop).taken - taken) (b ∷ bs)) x
          → (sent + length (answer_to b x) ≤ length (written xs sent (answer_to b x)) → length (written xs sent (answer_to b x)) ≡ length (written ys sent (answer_to b y))
          → Sound rows (stepped rows b x) → Sound rows (stepped rows b y)
          → CalmBytes (take (more.taken - (taken + 1)) bs) (stepped rows b x) → Similar (stepped rows b x) (stepped rows b y)
          → SimilarStreams more (fed_on rows bs (taken + 1) (sent + length (answer_to b x)) (stepped rows b y) (written ys sent (answer_to b y))))
          → SimilarStreams (fed_on rows (b ∷ bs) taken sent x xs) (fed_on rows (b ∷ bs) taken sent y ys)
      go true t k ih =
          let fx : sent + length (answer_to b x) ≤ length xs = leb-true (sent + length (answer_to b x)) (length xs) t in
          let wx = length-written xs sent (answer_to b x) fx in
          let wy = length-written ys sent (answer_to b y) (omega (arith, fx, long, e)) in
          let room : sent + length (answer_to b x) ≤ length (written xs sent (answer_to b x)) = omega (arith, fx, wx) in
          let from = (fed_on-counts rows bs (taken + 1) (sent + length (answer_to b x)) (stepped rows b x) (written xs sent (answer_to b x)) room).taken-from in
          let one : more.taken - taken ≡ suc (more.taken - (taken + 1)) = omega (arith, from) in
          let calm : CalmBytes (b ∷ take (more.taken - (taken + 1)) bs) x = rw one at k in
          let like = stepped-similar b x y l m calm.1.0 r in
          let rest = ih room (wx ∙ e ∙ sym wy) (stepped-sound s b) (stepped-sound u b) (calm.0.1, calm.1.1) like in
          rw (t, other ∙ t)
          (subst (λ (n : ℕ). SimilarStreams more (fed_on rows bs (taken + 1) (sent + n) (stepped rows b y) (written ys sent (answer_to b y)))) long rest)
      go false t k ih = rw (t, other ∙ t) (record { numbers = refl; takens = refl; writtens = refl; worlds = r })
