-- With format on each edit keeps the marks and writes in unprotected cells alone: which cells each may change, and what of their attribute bytes. Assumes nothing.
use Prim.Native.Nat.{ℕ, ◌+◌, ◌≤◌, ◌<◌}
use mathlib.Core.Path.{◌≡◌, refl, ap, ◌∙◌}
use mathlib.Core.Logic.{◌⊎◌, inl, inr, ⊎_elim}
use mathlib.Core.Bool.{Bool, true, false}
use mathlib.Core.List.{List}
use native.Mathlib.Omega.{arith}
use lib.ListN.{length, get_or}
use lib.Seq.{get_or-set_other}
use lib.Dec.{ltb}
use borrow.Author.Tests.{ltb-true}
use Rattle.std.specs.Prelude.{Option, Some, None}
use Rattle.cells.proofs.Search.{not-both}
use Rattle.cells.proofs.Patch.{lt-or, length-changed_where, changed_where-either}
use Rattle.cells.proofs.Values.{length-shifted_left}
use Rattle.cells.proofs.Frame.{Agree, shifted_right-out, shifted_left-out}
use Rattle.fields.specs.Fields.{mark_of, stripped, is_in, kind_at, unprotected, field_end, target, allowed}
use Rattle.fields.proofs.Marks.{marks_same}
use Rattle.fields.proofs.Fields.{field-ends, end-inside, unprotected-in, unprotected-inside}
use Rattle.fields.proofs.Starts.{target-is-unprotected}
use Rattle.screen.specs.Page.{Page, cell, marks_of}
use Rattle.screen.specs.Whole.{Whole}
use Rattle.screen.specs.Edits.{line_fed, put, typed_at_cell, typed_in, typed, cleared, display_cleared, line_cleared, char_deleted, row_inserted, row_deleted, mark_set, mark_turned, enhanced}
use Rattle.cells.proofs.Choices.{choose-by}
use Rattle.screen.proofs.Kept.{length-put, marks-long}

-- q has p's characters and attribute bytes outside the cells of P; there the character may be another, and the attribute byte may be stripped
pub record Only (P : ℕ → Type 0) (p q : Page) : Type 0 where
  pub chars_stay : Agree P q.chars p.chars
  pub attrs_long : length q.attrs ≡ length p.attrs
  pub attrs-left : (k : ℕ) → (get_or q.attrs k 0 ≡ get_or p.attrs k 0) ⊎ (P k × (get_or q.attrs k 0 ≡ stripped (get_or p.attrs k 0)))

-- cell j is in the rest of the field of cell k: from k up to the field's end
pub record Rest (ms : List ℕ) (k j : ℕ) : Type 0 where
  pub from : k ≤ j
  pub upto : j < field_end ms k

-- the rest of the cursor's field, where that is unprotected
pub record CursorRest (p : Page) (j : ℕ) : Type 0 where
  pub is_open : unprotected (marks_of p) (cell p) ≡ true
  pub rest : Rest (marks_of p) (cell p) j

-- the rest of the field that takes text
pub record TargetRest (p : Page) (j : ℕ) : Type 0 where
  pub start : ℕ
  pub found : target (marks_of p) (cell p) ≡ Some start
  pub rest : Rest (marks_of p) start j

-- the unprotected cells from the cursor on
pub record OpenOn (p : Page) (j : ℕ) : Type 0 where
  pub from : cell p ≤ j
  pub is_open : unprotected (marks_of p) j ≡ true

-- the unprotected cells
abbrev pub Unprotected : Page → ℕ → Type 0
Unprotected p j = unprotected (marks_of p) j ≡ true

-- ---- characters alone change; nothing changes; and more cells may change
pub only-chars : {P : ℕ → Type 0} {p q : Page} → Agree P q.chars p.chars → q.attrs ≡ p.attrs → Only P p q
only-chars a e = record { chars_stay = a; attrs_long = ap length e; attrs-left = λ k. inl (ap (λ (xs : List ℕ). get_or xs k 0) e) }

pub only_none : {P : ℕ → Type 0} {p q : Page} → q.chars ≡ p.chars → q.attrs ≡ p.attrs → Only P p q
only_none e f = only-chars (record { len = ap length e; cell = λ k _. ap (λ (xs : List ℕ). get_or xs k 0) e }) f

pub only-more : {P Q : ℕ → Type 0} {p q : Page} → ((j : ℕ) → P j → Q j) → Only P p q → Only Q p q
only-more h r =
    record {
      chars_stay = record { len = r.chars_stay.len; cell = λ k n. r.chars_stay.cell k (λ x. n (h k x)) };
      attrs_long = r.attrs_long;
      attrs-left = λ k. ⊎_elim inl (λ s. inr (h k s.0, s.1)) (r.attrs-left k);
    }

-- no mark changes, and no cell gets an enhancement
module _ {P : ℕ → Type 0} {p q : Page} (r : Only P p q) where
  pub marks-kept : marks_of q ≡ marks_of p
  marks-kept = marks_same q.attrs p.attrs r.attrs_long (λ k _. ⊎_elim (ap mark_of) (λ s. omega (arith, s.1)) (r.attrs-left k))

  pub none_enhanced : (k : ℕ) → (get_or q.attrs k 0 ≡ get_or p.attrs k 0) ⊎ (get_or q.attrs k 0 ≡ stripped (get_or p.attrs k 0))
  none_enhanced k = ⊎_elim inl (λ s. inr s.1) (r.attrs-left k)

-- no protected cell is among the unprotected: its character and its attribute byte stay
module _ {p q : Page} (r : Only (Unprotected p) p q) (j : ℕ) (f : unprotected (marks_of p) j ≡ false) where
  pub char-kept : get_or q.chars j 0 ≡ get_or p.chars j 0
  char-kept = r.chars_stay.cell j (λ t. not-both t f)

  pub attr-kept : get_or q.attrs j 0 ≡ get_or p.attrs j 0
  attr-kept = ⊎_elim (λ e. e) (λ s. absurd (not-both s.0 f)) (r.attrs-left j)

-- a cell outside the rest of a field stands before it or behind it
pub rest_out : (ms : List ℕ) (k j : ℕ) → (Rest ms k j → ⊥) → (j < k) ⊎ (field_end ms k ≤ j)
rest_out ms k j n =
    elim (lt-or j k) [
      | inl u ↦ inl u
      | inr u ↦ elim (lt-or j (field_end ms k)) [
        | inl w ↦ absurd (n (record { from = u; upto = w }))
        | inr w ↦ inr w
      ]
    ]

put-out : (insert : Bool) (xs : List ℕ) (k e v j : ℕ) → k < e → e ≤ length xs → (j < k) ⊎ (e ≤ j) → get_or (put insert xs k e v) j 0 ≡ get_or xs j 0
unfolding put
put-out true xs k e v j l fits out = shifted_right-out xs k e v fits j out
put-out false xs k e v j l fits out = get_or-set_other xs k j v 0 (⊎_elim (λ u. omega arith) (λ u. omega arith) out)

-- ---- clearing, of the cells from the cursor on that pass the test
module _ (p : Page) (test : ℕ → Bool) where
  cleared-only : {P : ℕ → Type 0} → ((j : ℕ) → cell p ≤ j → test j ≡ true → P j) → Only P p (cleared test p)
  unfolding cleared
  cleared-only h =
      record {
        chars_stay = record {
          len = length-changed_where p.chars (cell p) test _;
          cell = λ j n. ⊎_elim (λ e. e) (λ s. absurd (n (h j s.0 s.1))) (changed_where-either p.chars (cell p) test (λ v. 32) j);
        };
        attrs_long = length-changed_where p.attrs (cell p) test _;
        attrs-left = λ j. ⊎_elim inl (λ s. inr (h j s.0 s.1, s.2)) (changed_where-either p.attrs (cell p) test stripped j);
      }

  pub cleared-marks : marks_of (cleared test p) ≡ marks_of p
  cleared-marks = marks-kept (cleared-only (λ j l t. l))

-- ---- of a whole page
module _ {rows : ℕ} {p : Page} (w : Whole rows p) where
  -- an unprotected cell's field ends in the memory, and all the rest of it is unprotected
  pub end_fits : (k : ℕ) → unprotected (marks_of p) k ≡ true → field_end (marks_of p) k ≤ length p.chars
  end_fits k t = omega (arith, w.chars_long, marks-long w, end-inside (marks_of p) rows k (marks-long w) (unprotected-inside (marks_of p) rows k (marks-long w) t))

  pub rest-unprotected : (k j : ℕ) → unprotected (marks_of p) k ≡ true → Rest (marks_of p) k j → unprotected (marks_of p) j ≡ true
  rest-unprotected k j t r = unprotected-in (marks_of p) k j r.from r.upto ∙ t

  pub cursor-unprotected : (j : ℕ) → CursorRest p j → unprotected (marks_of p) j ≡ true
  cursor-unprotected j r = rest-unprotected (cell p) j r.is_open r.rest

  pub target-unprotected : (j : ℕ) → TargetRest p j → unprotected (marks_of p) j ≡ true
  target-unprotected j r = rest-unprotected r.start j (target-is-unprotected (marks_of p) (cell p) r.start r.found) r.rest

  -- ---- text
  typed-at-only : (insert : Bool) (v k : ℕ) → unprotected (marks_of p) k ≡ true → Only (Rest (marks_of p) k) p (typed_at_cell insert v k p)
  unfolding typed_at_cell
  typed-at-only insert v k t =
      only-chars
      (record {
        len = length-put insert p.chars k (field_end (marks_of p) k) v;
        cell = λ j n. put-out insert p.chars k (field_end (marks_of p) k) v j (field-ends (marks_of p) k).past (end_fits k t) (rest_out (marks_of p) k j n);
      })
      refl

  typed-in-only : (insert : Bool) (v : ℕ) (f : Option ℕ) → target (marks_of p) (cell p) ≡ f → Only (TargetRest p) p (typed_in insert v f p)
  unfolding typed_in
  typed-in-only insert v (Some k) e =
      choose-by (Only (TargetRest p) p) (allowed (kind_at (marks_of p) k) v)
      (λ _. only-more (λ j r. record { start = k; found = e; rest = r }) (typed-at-only insert v k (target-is-unprotected (marks_of p) (cell p) k e)))
      (λ _. only_none refl refl)
  typed-in-only insert v None e = only_none refl refl

  pub typed-only : (insert : Bool) (v : ℕ) → Only (TargetRest p) p (typed rows true insert v p)
  unfolding typed
  typed-only insert v = typed-in-only insert v (target (marks_of p) (cell p)) refl

  -- ---- clear display and clear line
  pub display_cleared-only : Only (OpenOn p) p (display_cleared true p)
  unfolding display_cleared
  display_cleared-only = cleared-only p (unprotected (marks_of p)) (λ j l t. record { from = l; is_open = t })

  pub line_cleared-only : Only (CursorRest p) p (line_cleared true p)
  unfolding line_cleared
  line_cleared-only =
      let e = field_end (marks_of p) (cell p) in
      choose-by (Only (CursorRest p) p) (unprotected (marks_of p) (cell p))
      (λ t. cleared-only p (λ k. ltb k e) (λ j l u. record { is_open = t; rest = record { from = l; upto = ltb-true j e u } }))
      (λ _. only_none refl refl)

  -- ---- delete character
  pub char_deleted-only : Only (CursorRest p) p (char_deleted true p)
  unfolding char_deleted
  char_deleted-only =
      let e = field_end (marks_of p) (cell p) in
      choose-by (Only (CursorRest p) p) (unprotected (marks_of p) (cell p))
      (λ t. only-chars
      (record {
        len = length-shifted_left p.chars (cell p) e 32;
        cell = λ j n. shifted_left-out p.chars (cell p) e 32 (end_fits (cell p) t) j (rest_out (marks_of p) (cell p) j (λ r. n (record { is_open = t; rest = r })));
      })
      refl)
      (λ _. only_none refl refl)

-- ---- line feed moves the cursor alone, insert and delete row do nothing
pub line_fed-only : (rows : ℕ) (p : Page) {P : ℕ → Type 0} → Only P p (line_fed rows true p)
unfolding line_fed
line_fed-only rows p {P} = choose-by (Only P p) (ltb (p.cursor.row + 1) rows) (λ _. only_none refl refl) (λ _. only_none refl refl)

pub row_inserted-none : (p : Page) → row_inserted true p ≡ p
unfolding row_inserted
row_inserted-none p = refl

pub row_deleted-none : (p : Page) → row_deleted true p ≡ p
unfolding row_deleted
row_deleted-none p = refl

-- ---- marks and enhancements stay
pub mark_set-none : (m : ℕ) (attrs : List ℕ) (k : ℕ) → mark_set true m attrs k ≡ attrs
unfolding mark_set
mark_set-none m attrs k = refl

pub mark_turned-none : (m : ℕ) (attrs : List ℕ) (k : ℕ) → mark_turned true m attrs k ≡ attrs
unfolding mark_turned
mark_turned-none m attrs k =
    choose-by (λ (xs : List ℕ). xs ≡ attrs) (is_in 3 (mark_of (get_or attrs k 0))) (λ _. mark_set-none m attrs k) (λ _. refl)

pub enhanced-none : (e : ℕ) (attrs : List ℕ) (k : ℕ) → enhanced true e attrs k ≡ attrs
unfolding enhanced
enhanced-none e attrs k = refl
