-- Posts (document 01, 'Keys and posts'): what a post does, and the number that it answers. Assumes nothing.
use Rattle.std.specs.Prelude.{ℕ, ◌-◌, Bool, true, false, cond, ◌&&◌, not, List, [], ◌∷◌, length, ltb, eqb, Option, Some, None, is_none}
use Rattle.cells.specs.Memory.{posted}
use Rattle.cells.specs.Range.{within}
use Rattle.fields.specs.Fields.{marks, kind_at, field_end, nth_field, allowed}
use Rattle.terminal.specs.State.{World, world, is_good, is_sized, barred}
use Rattle.terminal.specs.Noted.{noted}
use Rattle.terminal.specs.Refusals.{Refusal, ◌when◌, first_refusal}
use Rattle.post.specs.declared.PostAnswer.{PostAnswer}

-- what a post call leaves: its answer and the two buffers
pub record Posted : Type 0 where
  pub number : ℕ
  pub world : World

abbrev pub post_left : PostAnswer → List ℕ → List ℕ → Posted
post_left r chars attrs = record { number = r.number; world = world r.state chars attrs }

-- a post byte is 32 to 126 and allowed by the field's kind
unfoldable pub fits : ℕ → ℕ → Bool
fits kind b = within 32 126 b && allowed kind b

unfoldable pub all_fit : ℕ → List ℕ → Bool
all_fit kind [] = true
all_fit kind (b ∷ bs) = fits kind b && all_fit kind bs

-- the text is longer than the field that starts there
unfoldable pub is_too_long : List ℕ → List ℕ → Option ℕ → Bool
is_too_long ms text (Some start) = ltb (field_end ms start - start) (length text)
is_too_long ms text None = false

-- a byte of the text does not fit into it
unfoldable pub misfits : List ℕ → List ℕ → Option ℕ → Bool
misfits ms text (Some start) = not (all_fit (kind_at ms start) text)
misfits ms text None = false

-- posts test 1, 2, 4, 8, 9, 10, 6
unfoldable pub post_refusal : ℕ → World → ℕ → List ℕ → ℕ
post_refusal rows w field text =
    let ms = marks w.attrs in
    let found = nth_field ms field in
    first_refusal
    ((1 when not (is_sized rows w.chars w.attrs))
    ∷ (2 when not (is_good rows w.state))
    ∷ (4 when barred w.state)
    ∷ (8 when not w.state.format)
    ∷ (9 when is_none found)
    ∷ (10 when is_too_long ms text found)
    ∷ (6 when misfits ms text found)
    ∷ [])

-- the tests of a post by whoever sends it, in their order: they are those of `post_refusal`, with two things asked of the sender, that all that is lent has its size, and that the
-- field is his own (13; crate `readers`)
abbrev pub post_tests : ℕ → World → Bool → Bool → ℕ → List ℕ → List Refusal
post_tests rows w sized owned field text =
    let ms = marks w.attrs in
    let found = nth_field ms field in
    (1 when not sized)
    ∷ (2 when not (is_good rows w.state))
    ∷ (4 when barred w.state)
    ∷ (8 when not w.state.format)
    ∷ (9 when is_none found)
    ∷ (13 when not owned)
    ∷ (10 when is_too_long ms text found)
    ∷ (6 when misfits ms text found)
    ∷ []

-- in the field that starts there: the text, then blanks to the field's end; nothing else changes
unfoldable pub posted_at : World → List ℕ → Option ℕ → World
posted_at w text (Some start) = world w.state (posted w.chars start (field_end (marks w.attrs) start) text) w.attrs
posted_at w text None = w

-- the row that it changes is noted; a refusal leaves all
unfoldable pub posted_to : ℕ → World → ℕ → List ℕ → Posted
posted_to rows w field text =
    let n = post_refusal rows w field text in
    record { number = n; world = cond (eqb n 0) (noted rows w (posted_at w text (nth_field (marks w.attrs) field))) w }

-- the same of a post that answers n
abbrev pub posted_with : ℕ → ℕ → World → ℕ → List ℕ → Posted
posted_with rows n w field text = record { number = n; world = cond (eqb n 0) (noted rows w (posted_at w text (nth_field (marks w.attrs) field))) w }
