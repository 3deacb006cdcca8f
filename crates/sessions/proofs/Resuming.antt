-- A part of a session that was run, and what is left, print what all would. Assumes nothing.
use Prim.Native.Nat.{ℕ, zero, suc, ◌+◌, ◌-◌, ◌≤◌, ◌<◌, min}
use mathlib.Core.Path.{◌≡◌, refl, sym, ap, ◌∙◌, subst}
use mathlib.Core.Logic.{inl, inr}
use mathlib.Core.Bool.{Bool, true, false}
use mathlib.Core.List.{List, [], ◌∷◌, ◌++◌, append_assoc, append-nil}
use native.Mathlib.Omega.{arith}
use lib.ListN.{length, take, drop, length-append, length-take, length-drop}
use lib.Seq.{drop-drop, take-append-le, drop-append-le, length-take-le}
use lib.Dec.{leb}
use borrow.Author.Tests.{leb-true, leb-false}
use Rattle.cells.specs.Memory.{written}
use Rattle.cells.proofs.Splice.{take-written}
use Rattle.terminal.specs.State.{World}
use Rattle.records.specs.Records.{record_ran}
use Rattle.sessions.specs.Session.{split, next, went, three, lines_text, end_text, printed}
use Rattle.sessions.specs.Parts.{Batch, batch, batch_on, records_run}
use Rattle.sessions.specs.Loop.{Ends, Resumed}
use Rattle.sessions.proofs.Listing.{split-more, drop-least, onward, step, all-taken, no-more-room}

-- ---- one record's line, then the others'
printed-more : (rows number : ℕ) (w : World) (r : List ℕ) (rs : List (List ℕ)) → let x = record_ran rows w r in
    printed rows number w (r ∷ rs) ≡ three number x.answer x.replied ++ printed rows (next number) x.world rs
unfolding printed went lines_text
printed-more rows number w r rs =
    let x = record_ran rows w r in
    let v = went rows (next number) x.world rs in
    append_assoc (three number x.answer x.replied) (lines_text v.lines) (end_text v.world.state.cursor)

-- ---- the first record of a part, and what comes after it
module _ (part more : List ℕ) (some : 0 < length part) where
  by_size : (P : Type 0) → (84 ≤ length part → P) → (length part < 84 → P) → P
  by_size P large small = by (leb 84 (length part)) refl
    where
      by : (t : Bool) → leb 84 (length part) ≡ t → P
      by true e = large (leb-true 84 (length part) e)
      by false e = small (leb-false 84 (length part) e)

  split-first : Ends part more → split (part ++ more) ≡ take 84 part ∷ split (drop 84 part ++ more)
  split-first o = by_size (split (part ++ more) ≡ take 84 part ∷ split (drop 84 part ++ more)) (λ l. split-more (part ++ more) long ∙ rw (take-append-le 84 part more l, drop-append-le 84 part more l)) (λ l. ending o l)
    where
      long : 0 < length (part ++ more)
      long = omega (arith, length-append part more)

      ending : Ends part more → length part < 84 → split (part ++ more) ≡ take 84 part ∷ split (drop 84 part ++ more)
      ending (inl (k, e)) l = absurd (omega arith)
      ending (inr e) l = rw e (rw (append-nil part, append-nil (drop 84 part)) (split-more part some))

  ends-after : Ends part more → Ends (drop 84 part) more
  ends-after (inl (k, e)) = by_size (Ends (drop 84 part) more) (λ l. inl (k - 1, omega (arith, length-drop 84 part))) (λ l. absurd (omega arith))
  ends-after (inr e) = inr e

-- ---- the records from the place `at` of the lines on: what is taken of the part is told beside what was taken before
pub record On (rows number : ℕ) (w : World) (part more : List ℕ) (taken at : ℕ) (lines : List ℕ) (l : Batch) : Type 0 where
  pub gone : ℕ
  pub taken_is : l.taken ≡ taken + gone
  pub gone-in : gone ≤ length part
  pub ends : Ends (drop gone part) more
  pub goes_on : 0 < length part → at + 63 ≤ length lines → 0 < gone
  pub written_in : l.written ≤ length l.lines
  pub prints : take l.written l.lines ++ printed rows l.number l.world (split (drop gone part ++ more)) ≡ take at lines ++ printed rows number w (split (part ++ more))

stops : (rows number : ℕ) (w : World) (part more : List ℕ) (taken at : ℕ) (lines : List ℕ) → Ends part more → at ≤ length lines → (0 < length part → at + 63 ≤ length lines → ⊥)
    → On rows number w part more taken at lines (batch taken at number w lines)
stops rows number w part more taken at lines o l n =
    record {
      gone = 0;
      taken_is = omega arith;
      gone-in = omega arith;
      ends = o;
      goes_on = λ s f. absurd (n s f);
      written_in = l;
      prints = refl;
    }

-- the lines reach at least to the end of a line that was written
room_for : (lines : List ℕ) (at : ℕ) (line : List ℕ) → at ≤ length lines → at + length line ≤ length (written lines at line)
unfolding written
room_for lines at line l = simp (length-append, length-take-le at lines l, length-drop) (omega arith)

-- one record, and then those of which it is known
module _ (rows number : ℕ) (w : World) (part more : List ℕ) (taken at : ℕ) (lines : List ℕ) (some : 0 < length part) (o : Ends part more) (l : at ≤ length lines) where
  abbrev first : List ℕ
  first = take 84 part

  abbrev line : List ℕ
  line = let x = record_ran rows w first in three number x.answer x.replied

  abbrev rest : Batch
  rest = onward rows w part taken at number lines first (record_ran rows w first)

  on-more : On rows (next number) (record_ran rows w first).world (drop 84 part) more (taken + length first) (at + length line) (written lines at line) rest → On rows number w part more taken at lines rest
  on-more i =
      let size = length-take 84 part in
      let after = length-drop 84 part in
      let m : min 84 (length part) ≡ length first = omega arith in
      let d : drop i.gone (drop 84 part) ≡ drop (length first + i.gone) part =
      ap (drop i.gone) (sym (drop-least 84 part) ∙ ap (λ (k : ℕ). drop k part) m) ∙ drop-drop i.gone (length first) part in
      record {
        gone = length first + i.gone;
        taken_is = omega (arith, i.taken_is);
        gone-in = omega (arith, i.gone-in);
        ends = rw d at i.ends;
        goes_on = λ s f. omega arith;
        written_in = i.written_in;
        prints =
            (rw d at i.prints)
            ∙ ap (λ (xs : List ℕ). xs ++ printed rows (next number) (record_ran rows w first).world (split (drop 84 part ++ more))) (take-written lines at line l)
            ∙ append_assoc (take at lines) line _
            ∙ ap (λ (xs : List ℕ). take at lines ++ xs) (sym (printed-more rows number w first (split (drop 84 part ++ more))) ∙ ap (printed rows number w) (sym (split-first part more some o)));
      }

on_none : (rows number : ℕ) (w : World) (more : List ℕ) (taken at : ℕ) (lines : List ℕ) → Ends [] more → at ≤ length lines
    → On rows number w [] more taken at lines (batch_on rows (split []) taken at number w lines)
on_none rows number w more taken at lines o l =
    subst (On rows number w [] more taken at lines) (all-taken rows w [] taken at number lines refl) (stops rows number w [] more taken at lines o l (λ s. absurd (omega arith)))

on : (steps : ℕ) (rows number : ℕ) (w : World) (part more : List ℕ) (taken at : ℕ) (lines : List ℕ) → length part ≤ steps → Ends part more → at ≤ length lines
    → On rows number w part more taken at lines (batch_on rows (split part) taken at number w lines)
on zero rows number w [] more taken at lines h o l = on_none rows number w more taken at lines o l
on zero rows number w (b ∷ bytes) more taken at lines h o l = absurd (omega arith)
on (suc steps) rows number w [] more taken at lines h o l = on_none rows number w more taken at lines o l
on (suc steps) rows number w (b ∷ bytes) more taken at lines h o l =
    let part = b ∷ bytes in
    let r = take 84 part in
    let x = record_ran rows w r in
    let line = three number x.answer x.replied in
    let after = length-drop 84 part in
    let some : 0 < length part = omega arith in
    by (leb (at + 63) (length lines)) refl
    (on steps rows (next number) x.world (drop 84 part) more (taken + length r) (at + length line) (written lines at line) (omega arith) (ends-after part more some o) (room_for lines at line l))
  where
    by : (t : Bool) → leb (at + 63) (length lines) ≡ t → let part = b ∷ bytes in let r = take 84 part in let x = record_ran rows w r in let line = three number x.answer x.replied in
        On rows (next number) x.world (drop 84 part) more (taken + length r) (at + length line) (written lines at line)
        (batch_on rows (split (drop 84 part)) (taken + length r) (at + length line) (next number) x.world (written lines at line))
        → On rows number w (b ∷ bytes) more taken at lines (batch_on rows (split (b ∷ bytes)) taken at number w lines)
    by true t i =
        subst (On rows number w (b ∷ bytes) more taken at lines) (step rows w (b ∷ bytes) taken at number lines (omega arith) (leb-true (at + 63) (length lines) t))
        (on-more rows number w (b ∷ bytes) more taken at lines (omega arith) o l i)
    by false t i =
        let f = leb-false (at + 63) (length lines) t in
        subst (On rows number w (b ∷ bytes) more taken at lines) (no-more-room rows w (b ∷ bytes) taken at number lines (omega arith) f)
        (stops rows number w (b ∷ bytes) more taken at lines o l (λ s g. omega arith))

pub resumed : (rows number : ℕ) (w : World) (part more room : List ℕ) → Ends part more → Resumed rows number w part more room (records_run rows w number part room)
unfolding records_run
resumed rows number w part more room o =
    let i = on (length part) rows number w part more 0 0 room (omega arith) o (omega arith) in
    let e : i.gone ≡ (batch_on rows (split part) 0 0 number w room).taken = omega (arith, i.taken_is) in
    record {
      taken_in = omega (arith, i.gone-in, i.taken_is);
      ends = rw e at i.ends;
      goes_on = λ s f. omega (arith, i.goes_on s (omega arith), i.taken_is);
      written_in = i.written_in;
      prints = rw e at i.prints;
    }
