-- Two readers on one form (document 02, [5]): which fields a reader owns, its posts, and what it reads back. Assumes nothing.
use Rattle.std.specs.Prelude.{ℕ, Bool, cond, ◌&&◌, ◌||◌, not, List, [], ◌∷◌, length, take, get_or, ltb, eqb, Option, Some, None, is_none}
use Rattle.cells.specs.Memory.{written}
use Rattle.fields.specs.Fields.{marks, nth_field}
use Rattle.replies.specs.Replies.{field_text}
use Rattle.terminal.specs.State.{World, is_good, is_sized}
use Rattle.terminal.specs.Refusals.{◌when◌, first_refusal}
use Rattle.post.specs.Posts.{Posted, post_tests, posted_with}
use Rattle.readers.specs.declared.ReadAnswer.{ReadAnswer}

-- an owner table has 256 bytes, one for each field number from 0 to 255
unfoldable pub is_table : List ℕ → Bool
is_table owners = eqb (length owners) 256

-- the readers are 1 and 2, and each owns the fields whose byte is its number; any other byte is no owner, and fields above 255 have none
unfoldable pub owns : List ℕ → ℕ → ℕ → Bool
owns owners reader field = (eqb reader 1 || eqb reader 2) && (ltb field 256 && eqb (get_or owners field 0) reader)

-- ---- a reader's post

-- it tests 1, 2, 4, 8, 9, 13, 10, 6: the tests of every post, with 1 also for a wrong owner table, and 13 unless the reader owns the field
unfoldable pub post_as_refusal : ℕ → World → List ℕ → ℕ → ℕ → List ℕ → ℕ
post_as_refusal rows w owners reader field text =
    first_refusal (post_tests rows w (is_sized rows w.chars w.attrs && is_table owners) (owns owners reader field) field text)

-- done, it leaves what every post leaves; a refusal leaves all
unfoldable pub posted_as : ℕ → World → List ℕ → ℕ → ℕ → List ℕ → Posted
posted_as rows w owners reader field text = posted_with rows (post_as_refusal rows w owners reader field text) w field text

-- ---- reading back

-- the field that starts there, whole, blanks too
unfoldable pub text_in_field : World → Option ℕ → List ℕ
text_in_field w (Some start) = field_text w.chars (marks w.attrs) start
text_in_field w None = []

-- it tests 1, 2, 8, 9, 13, 7: host lock and a pending transfer do not bar it
unfoldable pub read_refusal : ℕ → World → List ℕ → ℕ → ℕ → ℕ → ℕ
read_refusal rows w owners reader field room =
    let found = nth_field (marks w.attrs) field in
    first_refusal
    ((1 when not (is_sized rows w.chars w.attrs && is_table owners))
    ∷ (2 when not (is_good rows w.state))
    ∷ (8 when not w.state.format)
    ∷ (9 when is_none found)
    ∷ (13 when not (owns owners reader field))
    ∷ (7 when ltb room (length (text_in_field w found)))
    ∷ [])

-- what it leaves: its answer, and the buffer that is lent for the text. The state and the memory are only looked at
pub record Read : Type 0 where
  pub number : ℕ
  pub written : ℕ
  pub out : List ℕ

abbrev pub read_left : ReadAnswer → List ℕ → Read
read_left r out = record { number = r.number; written = r.written; out = out }

-- the same with those bytes of the buffer alone that the call wrote
abbrev pub delivered : Read → Read
delivered b = record { number = b.number; written = b.written; out = take b.written b.out }

-- what a reading back of a text leaves that answers n: done, the text from the buffer's first byte on, and the room beyond it as it was; a refusal leaves the buffer
abbrev pub read_with : ℕ → List ℕ → List ℕ → Read
read_with n text out =
    cond (eqb n 0) (record { number = 0; written = length text; out = written out 0 text }) (record { number = n; written = 0; out = out })

unfoldable pub read_back_of : ℕ → World → List ℕ → ℕ → ℕ → List ℕ → Read
read_back_of rows w owners reader field out =
    read_with (read_refusal rows w owners reader field (length out)) (text_in_field w (nth_field (marks w.attrs) field)) out
