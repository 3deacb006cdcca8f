-- The promise of posts: what an accepted post writes, cell by cell, and that nothing else changes; that a reader's post does the same, in a field of its own; and what a reader reads back.
-- Refused calls leave all (`Refusals`). This holds of up to 96 rows. Assumes nothing.
use Rattle.std.specs.Prelude.{ℕ, ◌+◌, ◌-◌, ◌≤◌, ◌<◌, ◌≡◌, true, false, ◌↔◌, List, ◌++◌, length, get_or, drop, replicate, Some}
use Rattle.fields.specs.Fields.{marks, field_end, nth_field, holds}
use Rattle.terminal.specs.State.{World, flagged}
use Rattle.post.specs.Posts.{posted_to}
use Rattle.readers.specs.Owners.{owns, posted_as, Read, read_back_of}
use Rattle.promises.specs.Changes.{cell_at}

-- w before, v after a post of the text to unprotected field number `field`
pub record Accepted (w : World) (field : ℕ) (text : List ℕ) (v : World) : Type 0 where
  -- there is such a field, it lies in the memory, and the text is not longer than it
  pub start : ℕ
  pub starts : nth_field (marks w.attrs) field ≡ Some start
  pub ends_in : field_end (marks w.attrs) start ≤ length w.chars
  pub fits : start + length text ≤ field_end (marks w.attrs) start
  -- the text stands in the cells from the start on, then blanks to the field's end
  pub text_stands : (i : ℕ) → i < length text → get_or v.chars (start + i) 0 ≡ get_or text i 0
  pub blanks_follow : (cell : ℕ) → start + length text ≤ cell → cell < field_end (marks w.attrs) start → get_or v.chars cell 0 ≡ 32
  -- those cells are the cells that the field holds; every other cell keeps its character, and the memory its size
  pub own_cells : (cell : ℕ) → holds (marks w.attrs) field cell ≡ true ↔ (start ≤ cell) × (cell < field_end (marks w.attrs) start)
  pub others_stay : (cell : ℕ) → holds (marks w.attrs) field cell ≡ false → get_or v.chars cell 0 ≡ get_or w.chars cell 0
  pub size_stays : length v.chars ≡ length w.chars
  -- all attributes stay, and the state, the cursor with it, but for the rows that changed
  pub attrs_stay : v.attrs ≡ w.attrs
  pub state_stays : v.state ≡ flagged w.state v.state.changes

abbrev pub PostWrites : ℕ → Type 0
PostWrites rows = (w : World) (field : ℕ) (text : List ℕ) → (posted_to rows w field text).number ≡ 0 → Accepted w field text (posted_to rows w field text).world

-- ---- a reader's post

-- accepted, it is to a field that the reader owns, and does what the post does that names no reader
abbrev pub PostAsWrites : ℕ → Type 0
PostAsWrites rows =
    (w : World) (owners : List ℕ) (reader field : ℕ) (text : List ℕ) → (posted_as rows w owners reader field text).number ≡ 0
    → (owns owners reader field ≡ true) × (posted_as rows w owners reader field text ≡ posted_to rows w field text) × Accepted w field text (posted_as rows w owners reader field text).world

-- accepted or not, it changes no cell of a field that the reader does not own
abbrev pub PostAsOwn : ℕ → Type 0
PostAsOwn rows =
    (w : World) (owners : List ℕ) (reader field : ℕ) (text : List ℕ) (other cell : ℕ) → owns owners reader other ≡ false → holds (marks w.attrs) other cell ≡ true
    → cell_at (posted_as rows w owners reader field text).world cell ≡ cell_at w cell

-- ---- reading back

-- what the reading back of unprotected field number `field` leaves: there is such a field, and all its characters stand in the buffer from its first byte on, blanks too
pub record ReadsBack (w : World) (field : ℕ) (b : Read) : Type 0 where
  pub start : ℕ
  pub starts : nth_field (marks w.attrs) field ≡ Some start
  pub whole : b.written ≡ field_end (marks w.attrs) start - start
  pub text_stands : (i : ℕ) → i < b.written → get_or b.out i 0 ≡ get_or w.chars (start + i) 0

abbrev pub ReadBackReads : ℕ → Type 0
ReadBackReads rows =
    (w : World) (owners : List ℕ) (reader field : ℕ) (out : List ℕ) → (read_back_of rows w owners reader field out).number ≡ 0
    → (owns owners reader field ≡ true) × ReadsBack w field (read_back_of rows w owners reader field out)

-- after an accepted post the reader reads its text back, and then blanks to the field's end, into a buffer that has room for the field; the room beyond it is as it was
abbrev pub PostReadsBack : ℕ → Type 0
PostReadsBack rows =
    (w : World) (owners : List ℕ) (reader field : ℕ) (text out : List ℕ) (start : ℕ)
    → let p = posted_as rows w owners reader field text in
    let size = field_end (marks w.attrs) start - start in
    p.number ≡ 0 → nth_field (marks w.attrs) field ≡ Some start → size ≤ length out
    → read_back_of rows p.world owners reader field out ≡ record { number = 0; written = size; out = text ++ (replicate (size - length text) 32 ++ drop size out) }
