-- A run of text that is copied at once leaves what its bytes leave, one by one; an action of a sequence changes the cursor alone, and sends nothing. Assumes nothing.
use Prim.Native.Nat.{ℕ, zero, suc, ◌+◌, ◌-◌, ◌*◌, ◌/◌, ◌%◌, ◌≤◌, ◌<◌, min, max}
use mathlib.Core.Path.{◌≡◌, refl, sym, ap, ap₂, ◌∙◌}
use mathlib.Core.Bool.{Bool, true, false, ◌&&◌, ◌||◌, not, and-eq-true_iff, and-false}
use mathlib.Core.List.{List, []}
use native.Mathlib.Omega.{arith}
use lib.ListN.{length, get_or, set, drop}
use lib.Dec.{eqb, ltb}
use borrow.Author.Tests.{eqb-true, eq-eqb, ne_eqb, ltb-true, lt-ltb, not-true}
use Rattle.cells.specs.Memory.{patch, written}
use Rattle.cells.proofs.Patch.{none, up, done, patched, length-patch}
use Rattle.cells.proofs.Search.{not-both}
use Rattle.cells.proofs.Splice.{written_none}
use Rattle.cursor.specs.declared.Cursor.{Cursor}
use Rattle.cursor.specs.Cursor.{top_for, gone, cell_of, at_cell, InPlace}
use Rattle.cursor.proofs.Place.{cell-of, cell_in, row_in}
use Rattle.changes.specs.declared.Changes.{Changes}
use Rattle.changes.specs.Sets.{set_of, rows_of, either}
use Rattle.changes.specs.Rows.{only}
use Rattle.changes.specs.Differing.{differs, differing_both}
use Rattle.changes.proofs.Sets.{rows-set, length-rows, length-either, either-assoc}
use Rattle.changes.proofs.Differing.{Beside, differs-then, differing_both-then, differing_both-chars, length-differing_both}
use Rattle.fields.specs.Fields.{end_of_row}
use Rattle.compare.proofs.Patches.{patch-beside}
use Rattle.compare.proofs.Rows.{set-beside}
use Rattle.cells.specs.Range.{within}
use Rattle.reading.specs.declared.Number.{Number}
use Rattle.reading.specs.Action as Action
use Rattle.reading.specs.Reading.{action_of, action_at, settled, counted, next_reading, clear}
use Rattle.reading.proofs.Computed.{below, or_right}
use Rattle.screen.specs.Page.{page}
use Rattle.screen.specs.Edits.{put, onward, typed_free, typed}
use Rattle.terminal.specs.declared.Terminal.{Terminal}
use Rattle.terminal.specs.State.{World, world, stated, placed, reread, flagged, page_of, paged, Sound}
use Rattle.terminal.specs.Acts.{switched, steered, stamps, acted}
use Rattle.terminal.specs.Noted.{differing_rows, noted}
use Rattle.terminal.proofs.Kept.{good_placed}
use Rattle.terminal.proofs.Noted.{noted-none, noted-sound}
use Rattle.runs.specs.declared.Stretch.{Stretch}
use Rattle.streams.specs.Streams.{action_for, read_on, reply_to, stepped_by, fed_on}
use Rattle.runs.specs.Texts.{is_text, Copied}
use Rattle.runs.proofs.Sequences.{each}
use Rattle.host.specs.Texts.{types_freely}
use Rattle.runs.specs.Sequences.{in_sequence, addressed}
use Rattle.streams.proofs.Answers.{reply-none}
use Rattle.streams.proofs.Kept.{sound-by, stepped-by-sound}
use Rattle.streams.proofs.Streams.{fed_on-turn}

-- ---- text in reading state 0
text_at : (k : ℕ) → k < 128 → within 32 126 k ≡ true → action_at 0 k ≡ Action.text
text_at k h e = eqb-true _ _ (or_right (not (within 32 126 k)) (eqb (action_at 0 k) Action.text) (below 128 (λ k. not (within 32 126 k) || eqb (action_at 0 k) Action.text) refl k h) (ap not e))

pub text-action : (t : Terminal) (byte : ℕ) → t.reading ≡ 0 → is_text byte ≡ true → action_for t byte ≡ Action.text
unfolding action_for settled action_of
text-action t byte z e =
    let a : action_of t.reading byte ≡ Action.text = ap (λ (s : ℕ). action_of s byte) z ∙ text_at (byte % 128) (omega arith) e in
    ap (λ (k : ℕ). settled k t.number) a

-- ---- where text goes to the cursor's cell, and the cursor right
first_holds : {a : Bool} (b : Bool) → a ≡ true → a && b ≡ b
first_holds b e = ap (λ (x : Bool). x && b) e

first-fails : {a : Bool} (b : Bool) → a ≡ false → a && b ≡ false
first-fails b e = ap (λ (x : Bool). x && b) e

second-fails : (a : Bool) {b : Bool} → b ≡ false → a && b ≡ false
second-fails a e = ap (◌&&◌ a) e ∙ and-false a

pub record Free (rows : ℕ) (t : Terminal) : Type 0 where
  pub reads : t.reading ≡ 0
  pub unformatted : t.format ≡ false
  pub overtypes : t.insert ≡ false
  pub room : cell_of t.cursor + 1 < rows * 80

module _ (rows : ℕ) (t : Terminal) (byte : ℕ) where
  pub free_in : types_freely rows t byte ≡ true → (is_text byte ≡ true) × Free rows t
  unfolding types_freely
  free_in e =
      let x = (and-eq-true_iff (is_text byte) _).0 e in
      let a = (and-eq-true_iff (eqb t.reading 0) _).0 x.1 in
      let b = (and-eq-true_iff (not t.format) _).0 a.1 in
      let d = (and-eq-true_iff (not t.insert) _).0 b.1 in (
        x.0,
        record {
          reads = eqb-true _ _ a.0;
          unformatted = not-true _ b.0;
          overtypes = not-true _ d.0;
          room = ltb-true _ _ d.1;
        },
      )

  pub no_text : is_text byte ≡ false → types_freely rows t byte ≡ false
  unfolding types_freely
  no_text e = first-fails _ e

  pub reads_on : (t.reading ≡ 0 → ⊥) → types_freely rows t byte ≡ false
  unfolding types_freely
  reads_on h = second-fails (is_text byte) (first-fails _ (ne_eqb _ _ h))

  pub formats : t.format ≡ true → types_freely rows t byte ≡ false
  unfolding types_freely
  formats e = second-fails (is_text byte) (second-fails (eqb t.reading 0) (first-fails _ (ap not e)))

  pub inserts : t.insert ≡ true → types_freely rows t byte ≡ false
  unfolding types_freely
  inserts e = second-fails (is_text byte) (second-fails (eqb t.reading 0) (second-fails (not t.format) (first-fails _ (ap not e))))

  pub by-room : is_text byte ≡ true → t.reading ≡ 0 → t.format ≡ false → t.insert ≡ false → ltb (cell_of t.cursor + 1) (rows * 80) ≡ types_freely rows t byte
  unfolding types_freely
  by-room x p q r = sym (first_holds _ x ∙ first_holds _ (eq-eqb _ _ p) ∙ first_holds _ (ap not q) ∙ first_holds _ (ap not r))

-- ---- the cursor
-- at its own cell a cursor in place stays
pub cell_same : {rows : ℕ} {c : Cursor} → InPlace rows c → at_cell c (cell_of c) ≡ c
unfolding at_cell gone
cell_same {rows} {c} g =
    let p : cell_of c / 80 ≡ c.row = omega (arith, g) in
    let q : cell_of c % 80 ≡ c.col = omega (arith, g) in
    let r : top_for c.row c.top ≡ c.top = omega (arith, g) in
    ap₂ (λ (row col : ℕ). record { row = row; col = col; top = top_for row c.top }) p q ∙ ap (λ (top : ℕ). record { row = c.row; col = c.col; top = top }) r

-- down to a row and on to a lower one shows the cursor as at once
top_again : (a b top : ℕ) → top ≤ a → a ≤ b → top_for b (top_for a top) ≡ top_for b top
top_again a b top p q =
    let e : top_for a top ≡ max top (a - 23) = omega arith in
    let d : max (max top (a - 23)) (b - 23) ≡ max top (b - 23) = omega arith in
    ap (top_for b) e ∙ ap (min b) d

pub cell-again : {rows : ℕ} {c : Cursor} → InPlace rows c → {a b : ℕ} → cell_of c ≤ a → a ≤ b → at_cell (at_cell c a) b ≡ at_cell c b
unfolding at_cell gone
cell-again {rows} {c} g {a} {b} p q =
    ap (λ (t : ℕ). record { row = b / 80; col = b % 80; top = t }) (top_again (a / 80) (b / 80) c.top (omega (arith, g)) (omega arith))

-- ---- one byte of text
abbrev typed_on : World → ℕ → World
typed_on w byte =
    let k = cell_of w.state.cursor in
    world (placed w.state (at_cell w.state.cursor (k + 1))) (set w.chars k (byte % 128)) w.attrs

module _ (rows : ℕ) (w : World) (f : Free rows w.state) where
  typed-on : (v : ℕ) → typed rows w.state.format w.state.insert v (page_of w) ≡ page (at_cell w.state.cursor (cell_of w.state.cursor + 1)) (set w.chars (cell_of w.state.cursor) v) w.attrs
  unfolding typed typed_free put onward
  typed-on v =
      let e = lt-ltb (cell_of w.state.cursor + 1) (rows * 80) f.room in
      ap₂ (λ (x y : Bool). typed rows x y v (page_of w)) f.unformatted f.overtypes
      ∙ simp e

  text-acted : (byte : ℕ) → acted rows Action.text (byte % 128) w ≡ typed_on w byte
  unfolding acted
  text-acted byte = ap (paged w) (typed-on (byte % 128))

  text-stepped : w.state.number ≡ clear → (byte : ℕ) → noted rows w (typed_on w byte) ≡ stepped_by rows Action.text byte w
  unfolding stepped_by read_on counted next_reading
  text-stepped n byte =
      ap₂ (λ (r : ℕ) (m : Number). stated (noted rows w (typed_on w byte)) (reread (noted rows w (typed_on w byte)).state r m)) f.reads n
      ∙ sym (ap (λ (v : World). stated (noted rows w v) (reread (noted rows w v).state 0 clear)) (text-acted byte))

-- ---- a run of text, from byte i on
module _ (rows : ℕ) (bytes : List ℕ) (i at : ℕ) (w : World) (reply : List ℕ) (s : Sound rows w) (f : Free rows w.state) (fits : at ≤ length reply) where
  abbrev first : ℕ
  first = cell_of w.state.cursor

  abbrev letter : ℕ → ℕ
  letter k = get_or bytes (i + (k - first)) 0 % 128

  -- the world after n bytes of text, its rows as they were, and noted
  abbrev plain : ℕ → World
  plain n = world (placed w.state (at_cell w.state.cursor (first + n))) (patch w.chars first (first + n) letter) w.attrs

  abbrev after : ℕ → World
  after n = noted rows w (plain n)

  after-sound : (n : ℕ) → first + n < rows * 80 → Sound rows (after n)
  after-sound n h =
      noted-sound w
      (record {
        few = s.few;
        chars_long = length-patch w.chars first (first + n) letter ∙ s.chars_long;
        attrs_long = s.attrs_long;
        good = good_placed s.good (cell_in s.good.place h);
      })

  plain-none : plain 0 ≡ w
  plain-none =
      let e : first + 0 ≡ first = omega arith in
      ap₂ (λ (c : Cursor) (xs : List ℕ). world (placed w.state c) xs w.attrs) (ap (at_cell w.state.cursor) e ∙ cell_same s.good.place)
      (sym (done {f = letter} (none (sym e)) refl refl))

  after_none : after 0 ≡ w
  after_none = ap (noted rows w) plain-none ∙ noted-none w w s.good refl refl

  cleared : w.state.number ≡ clear
  cleared = s.good.number_in.cleared (λ e. omega (arith, f.reads))

  -- the characters after n bytes differ from those before in the cursor's row alone
  patch-in-row : (n : ℕ) → first + n ≤ end_of_row first → Beside rows w.state.cursor.row w.chars (patch w.chars first (first + n) letter)
  patch-in-row n b = patch-beside rows w.state.cursor.row w.chars letter (row_in s.good.place) s.chars_long first (first + n) (omega arith) (omega (arith, s.good.place.col_in))

  module _ (n : ℕ) (h : first + n + 1 < rows * 80) (b : first + n + 1 ≤ end_of_row first) where
    free-after : Free rows (after n).state
    free-after =
        record {
          reads = f.reads;
          unformatted = f.unformatted;
          overtypes = f.overtypes;
          room = omega (arith, cell-of w.state.cursor (first + n));
        }

    -- one cell more
    chars-next : patch w.chars first (first + suc n) letter ≡ set (patch w.chars first (first + n) letter) (cell_of (at_cell w.state.cursor (first + n))) (get_or bytes (i + n) 0 % 128)
    chars-next =
        let k : cell_of (at_cell w.state.cursor (first + n)) ≡ first + n = cell-of w.state.cursor (first + n) in
        let d : i + n ≡ i + (first + n - first) = omega arith in
        let v : get_or bytes (i + n) 0 % 128 ≡ letter (first + n) = ap (λ (m : ℕ). get_or bytes m 0 % 128) d in
        sym (done (up (patched {f = letter} refl (omega (arith, s.chars_long))) (omega arith) (omega (arith, s.chars_long)) v (omega arith)) refl refl)
        ∙ ap (λ (m : ℕ). set (patch w.chars first (first + n) letter) m (get_or bytes (i + n) 0 % 128)) (sym k)

    -- the rows noted by the bytes one by one are those of all at once
    rows_next : set_of (either (rows_of rows w.state.changes) (differing_rows rows w (plain (suc n)))) ≡ set_of (either (rows_of rows (after n).state.changes) (differing_rows rows (after n) (typed_on (after n) (get_or bytes (i + n) 0))))
    unfolding differing_rows
    rows_next =
        let c = rows_of rows w.state.changes in
        let xs = w.chars in
        let ys = patch w.chars first (first + n) letter in
        let k = cell_of (at_cell w.state.cursor (first + n)) in
        let at-k : k ≡ first + n = cell-of w.state.cursor (first + n) in
        let v = get_or bytes (i + n) 0 % 128 in
        let zs = set ys k v in
        let r = w.state.cursor.row in
        let p = patched {xs = xs} {lo = first} {hi = first + n} {f = letter} refl (omega (arith, s.chars_long)) in
        let x-y = patch-in-row n (omega arith) in
        let y-z = set-beside rows r ys (row_in s.good.place) x-y.same-long k v (omega arith) (omega (arith, s.good.place.col_in)) in
        let x-z : Beside rows r xs zs = rw chars-next at (patch-in-row (suc n) (omega arith)) in
        let fresh : get_or ys k 0 ≡ get_or xs k 0 = p.high k (omega arith) in
        let d = differing_both-then w.attrs x-y y-z x-z (differs-then xs ys k v p.len fresh) in
        let l = length-either c (differing_both rows xs w.attrs ys w.attrs) (length-rows rows w.state.changes) (length-differing_both rows xs w.attrs ys w.attrs) in
        ap set_of
        (ap (λ (z : List ℕ). either c (differing_both rows xs w.attrs z w.attrs)) chars-next
        ∙ ap (either c) (sym d)
        ∙ sym (either-assoc c (differing_both rows xs w.attrs ys w.attrs) (differing_both rows ys w.attrs zs w.attrs))
        ∙ ap (λ (m : List Bool). either m (differing_both rows ys w.attrs zs w.attrs)) (sym (rows-set (either c (differing_both rows xs w.attrs ys w.attrs)) l)))

    after_next : after (suc n) ≡ noted rows (after n) (typed_on (after n) (get_or bytes (i + n) 0))
    after_next =
        let c = at_cell w.state.cursor (first + n) in
        let k : cell_of c ≡ first + n = cell-of w.state.cursor (first + n) in
        let next : first + suc n ≡ cell_of c + 1 = omega arith in
        ap (λ (m : Changes). world (flagged (placed w.state (at_cell w.state.cursor (first + suc n))) m) (patch w.chars first (first + suc n) letter) w.attrs) rows_next
        ∙ ap₂ (λ (d : Cursor) (xs : List ℕ). world (flagged (placed w.state d) (set_of (either (rows_of rows (after n).state.changes) (differing_rows rows (after n) (typed_on (after n) (get_or bytes (i + n) 0)))))) xs w.attrs)
        (sym (cell-again s.good.place (omega arith) (omega arith)) ∙ ap (at_cell c) next) chars-next

    after_turn : i + n < length bytes → is_text (get_or bytes (i + n) 0) ≡ true → fed_on rows (drop (i + suc n) bytes) (i + suc n) at (after (suc n)) reply ≡ fed_on rows (drop (i + n) bytes) (i + n) at (after n) reply
    unfolding reply_to
    after_turn l e =
        let m : i + suc n ≡ i + n + 1 = omega arith in
        ap (λ (j : ℕ). fed_on rows (drop j bytes) j at (after (suc n)) reply) m
        ∙ fed_on-turn rows bytes (i + n) at (after n) reply l (sym (text-action (after n).state (get_or bytes (i + n) 0) f.reads e))
        (omega arith) (omega arith) (after_next ∙ text-stepped rows (after n) free-after cleared (get_or bytes (i + n) 0)) (sym (written_none reply at))

  text-fed_on : (n : ℕ) → first + n < rows * 80 → first + n ≤ end_of_row first → i + n ≤ length bytes → ((j : ℕ) → j < n → is_text (get_or bytes (i + j) 0) ≡ true) → fed_on rows (drop (i + n) bytes) (i + n) at (after n) reply ≡ fed_on rows (drop i bytes) i at w reply
  text-fed_on zero h b l texts =
      let e : i + 0 ≡ i = omega arith in
      ap₂ (λ (j : ℕ) (v : World). fed_on rows (drop j bytes) j at v reply) e after_none
  text-fed_on (suc n) h b l texts =
      after_turn n (omega arith) (omega arith) (omega arith) (texts n (omega arith))
      ∙ text-fed_on n (omega arith) (omega arith) (omega arith) (λ j m. texts j (omega arith))

  -- the copy leaves a sound world, from which the bytes after it leave what all leave from before it
  pub text-turn : {r : Stretch} {left : List ℕ} {c : Cursor} {ch : Changes} → Copied bytes i w.chars first r left → c ≡ at_cell w.state.cursor (first + r.count) → ch ≡ set_of (either (rows_of rows w.state.changes) (only rows w.state.cursor.row r.changed)) → let u = world (flagged (placed w.state c) ch) left w.attrs in Sound rows u × (fed_on rows (drop (i + r.count) bytes) (i + r.count) at u reply ≡ fed_on rows (drop i bytes) i at w reply)
  unfolding differing_rows
  text-turn {r} {left} {c} {ch} d p q =
      let n = r.count in
      let h : first + n < rows * 80 = omega (arith, d.cells_upto, s.chars_long) in
      let o : only rows w.state.cursor.row r.changed ≡ differing_rows rows w (plain n) =
      ap (only rows w.state.cursor.row) (d.told ∙ ap (differs w.chars) d.cells) ∙ sym (differing_both-chars w.attrs (patch-in-row n d.row_upto)) in
      let e : world (flagged (placed w.state c) ch) left w.attrs ≡ after n =
      ap (λ (m : Changes). world (flagged (placed w.state c) m) left w.attrs) (q ∙ ap (λ (l : List Bool). set_of (either (rows_of rows w.state.changes) l)) o)
      ∙ ap₂ (λ (c : Cursor) (xs : List ℕ). world (flagged (placed w.state c) (set_of (either (rows_of rows w.state.changes) (differing_rows rows w (plain n))))) xs w.attrs) p d.cells in
      (sound-by e (after-sound n h), ap (λ (v : World). fed_on rows (drop (i + n) bytes) (i + n) at v reply) e ∙ text-fed_on n h d.row_upto d.bytes_upto d.texts)

-- ---- the actions of a sequence
module _ (rows a v : ℕ) (w : World) where
  -- the action changes the cursor alone
  abbrev Addresses : ℕ → Type 0
  Addresses k = acted rows k v w ≡ stated w (placed w.state (addressed rows k w.state.number w.state.cursor))

  addresses : in_sequence a ≡ true → Addresses a
  unfolding acted stamps steered switched addressed
  addresses = each Addresses refl refl refl refl refl refl refl refl refl refl refl refl refl refl refl refl refl a

  -- and sends nothing
  unsent : in_sequence a ≡ true → reply_to a w ≡ []
  unfolding in_sequence
  unsent e = reply-none a w (λ q. not-both e (ap in_sequence q)) (λ q. not-both e (ap in_sequence q))

-- such an action leaves a sound world, from which the bytes after it leave what all leave from before it
pub sequence-turn : (rows : ℕ) (bytes : List ℕ) (i at : ℕ) (w : World) (reply : List ℕ) → Sound rows w → at ≤ length reply → i < length bytes → {a : ℕ} → a ≡ action_for w.state (get_or bytes i 0) → in_sequence a ≡ true → {c : Cursor} {r : ℕ} {n : Number} → c ≡ addressed rows a w.state.number w.state.cursor → r ≡ next_reading a → n ≡ counted a (get_or bytes i 0 % 128) w.state.number → let u = world (reread (placed w.state c) r n) w.chars w.attrs in Sound rows u × (fed_on rows (drop (i + 1) bytes) (i + 1) at u reply ≡ fed_on rows (drop i bytes) i at w reply)
unfolding stepped_by read_on
sequence-turn rows bytes i at w reply s fits l {a} e among {c} {r} {n} o p q =
    let b = get_or bytes i 0 in
    let none-sent = unsent rows a (b % 128) w among in
    let m : length (reply_to a w) ≡ 0 = ap length none-sent in
    let same : world (reread (placed w.state c) r n) w.chars w.attrs ≡ stepped_by rows a b w =
    ap (λ (d : Cursor). world (reread (placed w.state d) r n) w.chars w.attrs) o
    ∙ ap₂ (λ (r : ℕ) (n : Number). world (reread (placed w.state (addressed rows a w.state.number w.state.cursor)) r n) w.chars w.attrs) p q
    ∙ sym (ap (λ (v : World). stated v (read_on a (b % 128) v.state))
    (ap (noted rows w) (addresses rows a (b % 128) w among)
    ∙ noted-none w (stated w (placed w.state (addressed rows a w.state.number w.state.cursor))) s.good refl refl)) in
    (sound-by same (stepped-by-sound s a b), fed_on-turn rows bytes i at w reply l e (omega arith) (omega arith) same (sym (ap (written reply at) none-sent ∙ written_none reply at)))
