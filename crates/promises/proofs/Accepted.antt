-- What an accepted post writes: the text and blanks in the cells of its field, and nothing else; the same of a reader's post, and what a reader reads back. Assumes nothing.
use Prim.Native.Nat.{ℕ, ◌+◌, ◌-◌, ◌≤◌, ◌<◌}
use mathlib.Core.Path.{◌≡◌, refl, sym, ap, ◌∙◌, subst}
use mathlib.Core.Bool.{Bool, true, false, cond, and-eq-true_iff}
use mathlib.Core.Logic.{inl, inr}
use mathlib.Core.List.{List, ◌++◌, append_assoc}
use native.Mathlib.Omega.{arith}
use lib.Dec.{leb, ltb}
use lib.ListN.{length, get_or, drop, replicate, length-append, length-replicate}
use borrow.Author.Tests.{leb-true, ltb-true, lt-ltb, le-ltb}
use Rattle.std.specs.Prelude.{unwrap_or, Option}
use Rattle.cells.specs.Memory.{inside, written, posted}
use Rattle.cells.proofs.Search.{not-both}
use Rattle.cells.proofs.Patch.{eq-or, inside-true}
use Rattle.cells.proofs.Values.{written-cell, posted-cell}
use Rattle.cells.proofs.Splice.{length-posted}
use Rattle.fields.specs.Fields.{marks, field_end, nth_field, holds}
use Rattle.fields.proofs.Fields.{field-ends}
use Rattle.fields.proofs.Numbers.{holds-number, field-holds, holds-field}
use Rattle.replies.specs.Replies.{field_text}
use Rattle.terminal.specs.declared.Terminal.{Terminal}
use Rattle.terminal.specs.State.{World}
use Rattle.terminal.proofs.Good.{in-sound}
use Rattle.post.specs.Posts.{Posted, posted_at, posted_to}
use Rattle.post.proofs.Kept.{done, PostReady, post-ready, post-state, post-attrs, post-sound, field-inside}
use Rattle.readers.specs.Owners.{owns, posted_as, text_in_field, read_back_of}
use Rattle.readers.proofs.Kept.{as-ready, as-done, as-refused}
use Rattle.readers.proofs.Readings.{row_inside, text-long, text-cell, posted-text, left, read_done, ReadOpen, read_found, read-ready}
use Rattle.promises.specs.Changes.{cell_at}
use Rattle.promises.specs.Accepted.{Accepted, PostWrites, PostAsWrites, PostAsOwn, ReadsBack, ReadBackReads, PostReadsBack}

module _ (rows : ℕ) (w : World) (field : ℕ) (text : List ℕ) (r : PostReady rows w field text) where
  -- the field's end
  abbrev end : ℕ
  end = field_end (marks w.attrs) r.start

  past : r.start < end
  past = (field-ends (marks w.attrs) r.start).past

  ends_in : end ≤ length w.chars
  ends_in = omega (arith, (field-inside r.sound field r.start r.found).1, r.sound.chars_long)

  -- what stands in a cell
  cell-is : (cell : ℕ)
      → get_or (posted_to rows w field text).world.chars cell 0
      ≡ cond (inside r.start end cell) (cond (ltb (cell - r.start) (length text)) (get_or text (cell - r.start) 0) 32) (get_or w.chars cell 0)
  unfolding done posted_at
  cell-is cell =
      ap (λ (p : Posted). get_or p.world.chars cell 0) r.leaves
      ∙ posted-cell w.chars r.start end text (omega (arith, past)) ends_in r.short cell

  size : length (posted_to rows w field text).world.chars ≡ length w.chars
  unfolding done posted_at
  size =
      ap (λ (p : Posted). length p.world.chars) r.leaves
      ∙ length-posted w.chars r.start end text (omega (arith, past)) ends_in r.short

  -- the field's cells are those from its start to its end
  in_field : (cell : ℕ) → r.start ≤ cell → cell < end → holds (marks w.attrs) field cell ≡ true
  in_field cell l u = field-holds (marks w.attrs) field r.start cell r.found l u

  of_field : (cell : ℕ) → holds (marks w.attrs) field cell ≡ true → (r.start ≤ cell) × (cell < end)
  of_field cell h =
      let f = holds-field (marks w.attrs) field cell h in
      let same : f.0 ≡ r.start = ap (λ (f : Option ℕ). unwrap_or f 0) (sym f.1 ∙ r.found) in
      subst (λ (k : ℕ). (k ≤ cell) × (cell < field_end (marks w.attrs) k)) same (f.2, f.3)

  others : (cell : ℕ) → holds (marks w.attrs) field cell ≡ false → get_or (posted_to rows w field text).world.chars cell 0 ≡ get_or w.chars cell 0
  others cell h = cell-is cell ∙ go (inside r.start end cell) refl
    where
      go : (b : Bool) → inside r.start end cell ≡ b
          → cond b (cond (ltb (cell - r.start) (length text)) (get_or text (cell - r.start) 0) 32) (get_or w.chars cell 0) ≡ get_or w.chars cell 0
      go true t =
          let d = (and-eq-true_iff (leb r.start cell) (ltb cell end)).0 t in
          absurd (not-both (in_field cell (leb-true r.start cell d.0) (ltb-true cell end d.1)) h)
      go false t = refl

  accepted : Accepted w field text (posted_to rows w field text).world
  accepted =
      record {
        start = r.start;
        starts = r.found;
        ends_in = ends_in;
        fits = omega (arith, past, r.short);
        text_stands = λ i l.
            let e : r.start + i - r.start ≡ i = omega arith in
            cell-is (r.start + i)
            ∙ rw (inside-true r.start end (r.start + i) (omega arith) (omega (arith, past, r.short)), e, lt-ltb i (length text) l);
        blanks_follow = λ cell l u.
            cell-is cell ∙ rw (inside-true r.start end cell (omega arith) u, le-ltb (cell - r.start) (length text) (omega arith));
        own_cells = λ cell. (of_field cell, λ b. in_field cell b.0 b.1);
        others_stay = others;
        size_stays = size;
        attrs_stay = post-attrs rows w field text;
        state_stays = post-state rows w field text;
      }

pub post_writes : (rows : ℕ) → rows ≤ 96 → PostWrites rows
post_writes rows few w field text z = accepted rows w field text (post-ready rows w field text few z)

-- ---- a reader's post, and what a reader reads back
pub post_as_writes : (rows : ℕ) → rows ≤ 96 → PostAsWrites rows
post_as_writes rows few w owners reader field text z =
    let e = as-done rows w owners reader field text z in
    let o = (as-ready rows w owners reader field text z).own in
    (o, e, subst (λ (p : Posted). Accepted w field text p.world) (sym e) (post_writes rows few w field text (sym (ap (λ (p : Posted). p.number) e) ∙ z)))

pub post_as_own : (rows : ℕ) → rows ≤ 96 → PostAsOwn rows
post_as_own rows few w owners reader field text other cell n h = elim (eq-or (posted_as rows w owners reader field text).number 0) [
  | inl z ↦ (
      let (o, e, a) = post_as_writes rows few w owners reader field text z in
      let stays = a.others_stay cell (unheld o (holds (marks w.attrs) field cell) refl) in
      λ j. (stays j, get_or (a.attrs_stay j) cell 0))
  | inr z ↦ ap (λ (v : World). cell_at v cell) (as-refused rows w owners reader field text z)
]
  where
    -- the cell is of another field
    unheld : owns owners reader field ≡ true → (b : Bool) → holds (marks w.attrs) field cell ≡ b → b ≡ false
    unheld o true t =
        absurd (not-both (ap (owns owners reader) (sym (holds-number (marks w.attrs) other cell h) ∙ holds-number (marks w.attrs) field cell t) ∙ o) n)
    unheld o false t = refl

pub read_back_reads : (rows : ℕ) → rows ≤ 96 → ReadBackReads rows
read_back_reads rows few w owners reader field out z =
    let r = read-ready rows w owners reader field out few z in
    let text = field_text w.chars (marks w.attrs) r.start in
    let i = row_inside r.sound field r.start r.found in
    let long = text-long w.chars w.attrs r.start i.0 i.1 in (
      r.own,
      subst (ReadsBack w field) (sym r.leaves)
          (record {
            start = r.start;
            starts = r.found;
            whole = long;
            text_stands = λ j l.
                let e : j - 0 ≡ j = omega arith in
                written-cell out 0 text (omega (arith, r.room)) j
                ∙ rw (inside-true 0 (0 + length text) j (omega arith) (omega (arith, l)), e) (text-cell w.chars w.attrs r.start i.0 i.1 j (omega (arith, l, long)));
          }),
    )

-- ---- what is read back after a post
-- a text and what follows it, written from the first byte on
first_of : (out text more : List ℕ) (n : ℕ) → length (text ++ more) ≡ n → left 0 (length (text ++ more)) (written out 0 (text ++ more)) ≡ left 0 n (text ++ (more ++ drop n out))
unfolding written
first_of out text more n e =
    let z : 0 + length (text ++ more) ≡ n = omega (arith, e) in
    (λ j. left 0 (e j) ((text ++ more) ++ drop (z j) out)) ∙ ap (left 0 n) (append_assoc text more (drop n out))

pub post_reads_back : (rows : ℕ) → rows ≤ 96 → PostReadsBack rows
unfolding done posted_at text_in_field
post_reads_back rows few w owners reader field text out start z e room =
    let ready = as-ready rows w owners reader field text z in
    let same = as-done rows w owners reader field text z in
    let r = post-ready rows w field text few (sym (ap (λ (p : Posted). p.number) same) ∙ z) in
    let v = (posted_to rows w field text).world in
    let ms = marks w.attrs in
    let size = field_end ms start - start in
    let at : r.start ≡ start = ap (λ (f : Option ℕ). unwrap_or f 0) (sym r.found ∙ e) in
    let i = field-inside r.sound field start e in
    let attrs : v.attrs ≡ w.attrs = post-attrs rows w field text in
    let short : length text ≤ size = subst (λ (k : ℕ). length text ≤ field_end ms k - k) at r.short in
    let kept : field_text v.chars (marks v.attrs) start ≡ text ++ replicate (size - length text) 32 =
    ap (λ (l : List ℕ). field_text v.chars (marks l) start) attrs
    ∙ ap (λ (p : Posted). field_text p.world.chars ms start) r.leaves
    ∙ ap (λ (k : ℕ). field_text (posted w.chars k (field_end ms k) text) ms start) at
    ∙ posted-text w.chars ms start text (omega (arith, i.0, r.sound.chars_long)) (field-ends ms start).past short in
    let passed = in-sound (post-sound r.sound text field) in
    let opened : ReadOpen rows v owners =
    record { sized = passed.0; table = ready.table; good = passed.1; formatted = ap (λ (t : Terminal). t.format) (post-state rows w field text) ∙ r.formatted } in
    let bytes = text ++ replicate (size - length text) 32 in
    let long : length bytes ≡ size = omega (arith, short, length-append text (replicate (size - length text) 32), length-replicate {A = ℕ} (size - length text) 32) in
    ap (λ (p : Posted). read_back_of rows p.world owners reader field out) same
    ∙ sym (read_found rows v owners reader field out opened (ap (λ (l : List ℕ). nth_field (marks l) field) attrs ∙ e) (sym ready.own)
    (read_done (field_text v.chars (marks v.attrs) start) start out (rw (kept, long) room) refl))
    ∙ ap (λ (t : List ℕ). left 0 (length t) (written out 0 t)) kept
    ∙ first_of out text (replicate (size - length text) 32) size long
