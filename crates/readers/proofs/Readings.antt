-- Reading back by its tests: those that do not look at the field, then those that do. Assumes nothing.
use Prim.Native.Nat.{ℕ, ◌+◌, ◌-◌, ◌*◌, ◌/◌, ◌≤◌, ◌<◌}
use mathlib.Core.Path.{◌≡◌, refl, sym, ap, ◌∙◌, subst}
use mathlib.Core.Bool.{Bool, true, false, cond, ◌&&◌, not, false≢true, and-eq-true_iff}
use mathlib.Core.List.{List, ◌++◌}
use native.Mathlib.Omega.{arith}
use lib.ListN.{length, get_or, take, drop, replicate, length-append, length-replicate}
use lib.Seq.{length-slice, length-take-le, get_or-take, get_or-drop, drop_at}
use lib.Dec.{eqb, ltb}
use borrow.Author.Tests.{eqb-true, ltb-false, lt-ltb, le-ltb, not-false}
use Rattle.std.specs.Prelude.{Option, Some, None, is_none}
use Rattle.cells.specs.Memory.{written, posted}
use Rattle.cells.proofs.Choices.{choose-by}
use Rattle.cells.proofs.Splice.{length-written, take-written, drop-written}
use Rattle.fields.specs.Fields.{marks, field_end, nth_field}
use Rattle.fields.proofs.Fields.{field-ends}
use Rattle.replies.specs.Replies.{field_text}
use Rattle.replies.proofs.Blocks.{part_slice}
use Rattle.terminal.specs.State.{World, is_good, is_sized, Sound}
use Rattle.terminal.specs.Refusals.{first_refusal}
use Rattle.terminal.proofs.Good.{sound-in}
use Rattle.terminal.proofs.Refusals.{passed}
use Rattle.post.proofs.Kept.{field-inside}
use Rattle.readers.specs.Owners.{is_table, owns, text_in_field, read_refusal, Read, read_with, read_back_of}
use Rattle.readers.specs.Field.{early_refusal, late_refusal, read_in}

abbrev pub left : ℕ → ℕ → List ℕ → Read
left number written out = record { number = number; written = written; out = out }

pub table-long : (owners : List ℕ) → is_table owners ≡ true → length owners ≡ 256
unfolding is_table
table-long owners t = eqb-true (length owners) 256 t

-- the row of a field that is found lies in the memory
pub row_inside : {rows : ℕ} {w : World} → Sound rows w → (field k : ℕ) → nth_field (marks w.attrs) field ≡ Some k
    → (k / 80 * 80 + 80 ≤ length w.attrs) × (length w.chars ≡ length w.attrs)
row_inside s field k e = (omega (arith, (field-inside s field k e).0, s.attrs_long), s.chars_long ∙ sym s.attrs_long)

-- ---- the text of the field that starts at cell k
module _ (chars attrs : List ℕ) (k : ℕ) (row_in : k / 80 * 80 + 80 ≤ length attrs) (as_long : length chars ≡ length attrs) where
  abbrev end : ℕ
  end = field_end (marks attrs) k

  abbrev text : List ℕ
  text = field_text chars (marks attrs) k

  -- the field lies in the memory
  pub ends_in : (k < end) × (end ≤ length chars)
  ends_in = ((field-ends (marks attrs) k).past, omega (arith, (field-ends (marks attrs) k).within))

  pub text-long : length text ≡ end - k
  unfolding field_text
  text-long = length-slice k end chars ends_in.1

  pub text-cell : (i : ℕ) → i < end - k → get_or text i 0 ≡ get_or chars (k + i) 0
  unfolding field_text
  text-cell i l = get_or-drop k (take end chars) i 0 ∙ get_or-take end chars (k + i) 0 (omega (arith, l))

  pub part-is : {stop : ℕ} → stop ≡ end → take (stop - k) (drop k chars) ≡ text
  unfolding field_text
  part-is e = rw e (part_slice chars k end (omega (arith, ends_in.0)) ends_in.1)

-- what a post has written
pub posted-text : (chars ms : List ℕ) (k : ℕ) (text : List ℕ) → k ≤ length chars → k < field_end ms k → length text ≤ field_end ms k - k
    → field_text (posted chars k (field_end ms k) text) ms k ≡ text ++ replicate (field_end ms k - k - length text) 32
unfolding field_text posted
posted-text chars ms k text h p l =
    let bytes = text ++ replicate (field_end ms k - k - length text) 32 in
    let e : field_end ms k ≡ k + length bytes =
    omega (arith, length-append text (replicate (field_end ms k - k - length text) 32), length-replicate {A = ℕ} (field_end ms k - k - length text) 32) in
    ap (λ (n : ℕ). drop k (take n (written chars k bytes))) e ∙ ap (drop k) (take-written chars k bytes h)
    ∙ drop_at (take k chars) bytes k (length-take-le k chars h)

-- ---- a text read back by one who owns its field, and by one who does not
module _ (text : List ℕ) (k : ℕ) (out : List ℕ) where
  pub read-unowned : left 13 0 out ≡ read_in text false (Some k) out
  unfolding read_in late_refusal first_refusal
  read-unowned = refl

  pub read_short : length out < length text → left 7 0 out ≡ read_in text true (Some k) out
  unfolding read_in late_refusal first_refusal
  read_short h = rw (lt-ltb (length out) (length text) h)

  pub read_done : {now : List ℕ} → length text ≤ length out → now ≡ written out 0 text → left 0 (length text) now ≡ read_in text true (Some k) out
  unfolding read_in late_refusal first_refusal
  read_done h e = rw (e, le-ltb (length out) (length text) h)

-- no field
pub read-nothing : (text : List ℕ) (owned : Bool) (out : List ℕ) → left 9 0 out ≡ read_in text owned None out
unfolding read_in late_refusal first_refusal
read-nothing text owned out = refl

-- ---- from the first test on
-- those that do not look at the field have passed
pub record ReadOpen (rows : ℕ) (w : World) (owners : List ℕ) : Type 0 where
  pub sized : is_sized rows w.chars w.attrs ≡ true
  pub table : is_table owners ≡ true
  pub good : is_good rows w.state ≡ true
  pub formatted : w.state.format ≡ true

module _ (rows : ℕ) (w : World) (owners : List ℕ) where
  pub read-open : early_refusal rows w owners ≡ 0 → ReadOpen rows w owners
  unfolding early_refusal first_refusal
  read-open e =
      let s = passed (not (is_sized rows w.chars w.attrs && is_table owners)) (λ n. omega arith) e in
      let g = passed (not (is_good rows w.state)) (λ n. omega arith) s.1 in
      let f = passed (not w.state.format) (λ n. omega arith) g.1 in
      let a = (and-eq-true_iff (is_sized rows w.chars w.attrs) (is_table owners)).0 (not-false _ s.0) in
      record { sized = a.0; table = a.1; good = not-false _ g.0; formatted = not-false _ f.0 }

  module _ (reader field : ℕ) (out : List ℕ) where
    pub read-early : {n : ℕ} → n ≡ early_refusal rows w owners → (n ≡ 0 → ⊥) → left n 0 out ≡ read_back_of rows w owners reader field out
    unfolding read_back_of read_refusal early_refusal first_refusal
    read-early {n} e some = rw e (go (is_sized rows w.chars w.attrs && is_table owners) (is_good rows w.state) w.state.format _ _ (rw e at some))
      where
        go : (s g f : Bool) (rest : ℕ) (d : Read) → (◌≡◌ {A = ℕ} (cond (not s) 1 (cond (not g) 2 (cond (not f) 8 0))) 0 → ⊥)
            → left (cond (not s) 1 (cond (not g) 2 (cond (not f) 8 0))) 0 out
            ≡ cond (eqb (cond (not s) 1 (cond (not g) 2 (cond (not f) 8 rest))) 0) d (left (cond (not s) 1 (cond (not g) 2 (cond (not f) 8 rest))) 0 out)
        go false g f rest d h = refl
        go true false f rest d h = refl
        go true true false rest d h = refl
        go true true true rest d h = absurd (h refl)

    pub read_found : ReadOpen rows w owners → {found : Option ℕ} {owned : Bool} {r : Read} → nth_field (marks w.attrs) field ≡ found → owned ≡ owns owners reader field
        → r ≡ read_in (text_in_field w found) owned found out → r ≡ read_back_of rows w owners reader field out
    unfolding read_back_of read_refusal first_refusal read_in late_refusal
    read_found o p q r = r ∙ rw (o.sized, o.table, o.good, o.formatted, p, q)

    -- ---- the number is the refusal's
    pub read_number : (read_back_of rows w owners reader field out).number ≡ read_refusal rows w owners reader field (length out)
    unfolding read_back_of
    read_number =
        choose-by (λ (b : Read). b.number ≡ n) (eqb n 0) (λ t. sym (eqb-true n 0 t)) (λ _. refl)
      where
        n : ℕ
        n = read_refusal rows w owners reader field (length out)

    -- ---- a refusal leaves the buffer
    pub read-refused : ((read_back_of rows w owners reader field out).number ≡ 0 → ⊥)
        → ((read_back_of rows w owners reader field out).out ≡ out) × ((read_back_of rows w owners reader field out).written ≡ 0)
    unfolding read_back_of
    read-refused =
        choose-by (λ (b : Read). (b.number ≡ 0 → ⊥) → (b.out ≡ out) × (b.written ≡ 0)) (eqb (read_refusal rows w owners reader field (length out)) 0)
        (λ _ n. absurd (n refl)) (λ _ _. (refl, refl))

    -- ---- a reading back that is not refused: all its tests passed
    record ReadPassed : Type 0 where
      opened : ReadOpen rows w owners
      some : is_none (nth_field (marks w.attrs) field) ≡ false
      own : owns owners reader field ≡ true
      room : length (text_in_field w (nth_field (marks w.attrs) field)) ≤ length out

    read-passed : read_refusal rows w owners reader field (length out) ≡ 0 → ReadPassed
    unfolding read_refusal first_refusal
    read-passed e =
        let found = nth_field (marks w.attrs) field in
        let s = passed (not (is_sized rows w.chars w.attrs && is_table owners)) (λ n. omega arith) e in
        let g = passed (not (is_good rows w.state)) (λ n. omega arith) s.1 in
        let f = passed (not w.state.format) (λ n. omega arith) g.1 in
        let n = passed (is_none found) (λ n. omega arith) f.1 in
        let o = passed (not (owns owners reader field)) (λ n. omega arith) n.1 in
        let l = passed (ltb (length out) (length (text_in_field w found))) (λ n. omega arith) o.1 in
        let a = (and-eq-true_iff (is_sized rows w.chars w.attrs) (is_table owners)).0 (not-false _ s.0) in
        record {
          opened = record { sized = a.0; table = a.1; good = not-false _ g.0; formatted = not-false _ f.0 };
          some = n.0;
          own = not-false _ o.0;
          room = ltb-false (length out) (length (text_in_field w found)) l.0;
        }

    -- what is written fits into the buffer, and leaves the room beyond it
    pub read-counts : ((read_back_of rows w owners reader field out).written ≤ length out) × (length (read_back_of rows w owners reader field out).out ≡ length out)
        × (drop (read_back_of rows w owners reader field out).written (read_back_of rows w owners reader field out).out ≡ drop (read_back_of rows w owners reader field out).written out)
    unfolding read_back_of
    read-counts =
        let text = text_in_field w (nth_field (marks w.attrs) field) in
        choose-by (λ (b : Read). (b.written ≤ length out) × (length b.out ≡ length out) × (drop b.written b.out ≡ drop b.written out))
        (eqb (read_refusal rows w owners reader field (length out)) 0)
        (λ t.
        let l = (read-passed (eqb-true (read_refusal rows w owners reader field (length out)) 0 t)).room in
        let m : 0 + length text ≤ length out = omega (arith, l) in
        let z : 0 + length text ≡ length text = omega arith in
        (l, length-written out 0 text m, rw z at (drop-written out 0 text (omega arith))))
        (λ _. (omega arith, refl, refl))

    -- the field's text, and what it leaves
    pub record ReadReady : Type 0 where
      pub sound : Sound rows w
      pub table : is_table owners ≡ true
      pub own : owns owners reader field ≡ true
      pub start : ℕ
      pub found : nth_field (marks w.attrs) field ≡ Some start
      pub room : length (field_text w.chars (marks w.attrs) start) ≤ length out
      pub leaves : read_back_of rows w owners reader field out ≡ read_with 0 (field_text w.chars (marks w.attrs) start) out

    pub read-ready : rows ≤ 96 → (read_back_of rows w owners reader field out).number ≡ 0 → ReadReady
    unfolding read_back_of text_in_field
    read-ready few z = go (nth_field (marks w.attrs) field) refl
      where
        e : read_refusal rows w owners reader field (length out) ≡ 0
        e = sym read_number ∙ z

        p : ReadPassed
        p = read-passed e

        go : (f : Option ℕ) → nth_field (marks w.attrs) field ≡ f → ReadReady
        go (Some k) q =
            record {
              sound = sound-in {w = w} few p.opened.sized p.opened.good;
              table = p.opened.table;
              own = p.own;
              start = k;
              found = q;
              room = subst (λ (f : Option ℕ). length (text_in_field w f) ≤ length out) q p.room;
              leaves = rw (e, q);
            }
        go None q = absurd (false≢true (sym p.some ∙ ap is_none q))
