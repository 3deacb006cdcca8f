-- The form of `Form`, shared by two readers: runs that their promises cover, and runs that differ where one of the conditions does not hold. All over `rows` rows, and computed on 96 and
-- on 48. Assumes nothing.
use Rattle.std.specs.Prelude.{ℕ, ◌≡◌, true, List, [], ◌∷◌, ◌++◌, replicate}
use Rattle.terminal.specs.State.{World}
use Rattle.mixing.specs.Event.{Event, run, answers, filtered, Throughout}
use Rattle.mixing.specs.Mix.{Post, Mixed, Apart, Agree}
use Rattle.promises.specs.SharedCalls.{SharedCall, host, key, post, report, post_as, read_back, shared_called, SharedTold, by_host, by_key, by_post, by_reading, shared_told, SharedOnIn}
use Rattle.promises.specs.Mixing.{Key, Reach, NotEnter}
use Rattle.promises.specs.Form.{form, shown, numbers, struck}
use Rattle.promises.specs.Owners.{seen, common, heard, NoHomeDown, Under, Calm, Undisturbed, all_by_bytes, TakenWhole, not_host, reader, Message, handled_under, answered_under}

-- reader 1, at the in-feed, owns fields 0 and 2, reader 2, at the out-feed, fields 1 and 3; field 4 and all others have no owner
abbrev pub owners : List ℕ
owners = 1 ∷ 2 ∷ 1 ∷ 2 ∷ replicate 252 0

-- a reader's post, and its reading back of a field into a buffer of so many bytes
abbrev pub posts_of : ℕ → ℕ → List ℕ → SharedCall
posts_of = post_as owners

abbrev pub reads : ℕ → ℕ → ℕ → SharedCall
reads r field room = read_back owners r field (replicate room 7)

-- ---- runs that are covered

-- what the calls that are seen get, where reader 2 is hidden
abbrev pub all_heard : ℕ → List SharedCall → World → List SharedTold
all_heard rows es w = answers (shared_called rows) (heard rows) (seen 2) es w

-- the promise's premises hold of two runs, in which reader 2 is hidden, so reader 1 is undisturbed; and the runs do something, and differ: what each ends with, and what the calls that
-- are seen get
pub record SharedBy (rows : ℕ) (es es' : List SharedCall) (end end' : List (List ℕ)) (ts : List SharedTold) : Type 0 where
  pub same_common : common 2 es ≡ common 2 es'
  pub one_calm : Throughout (shared_called rows) (Calm rows owners) es (form rows)
  pub other_calm : Throughout (shared_called rows) (Calm rows owners) es' (form rows)
  pub undisturbed : Undisturbed rows owners 2 es es' (form rows)
  pub one_ends : shown (run (shared_called rows) es (form rows)) ≡ end
  pub other_ends : shown (run (shared_called rows) es' (form rows)) ≡ end'
  pub heard_is : all_heard rows es (form rows) ≡ ts

-- With posts of reader 2: `17` to field 1, `X` to field 3, and one to field 0, which is not its own. Reader 1 posts `TAG` to field 0 and reads it back into six bytes; a tab, and an 8, typed
-- into reader 2's field 1; ESC & a 2, then, behind a post of reader 2, r 0 C, and ESC d DC1, a block transfer of 31 bytes; reader 1's post to field 1 and its reading of it, reader 3's
-- post, each 13; a post to field 9; `AB` to field 2, and a reading of it with room for three bytes; a post that names no reader, to field 4; ENTER, and while its transfer is pending a
-- reading back, and a post
abbrev pub busy : List SharedCall
busy =
    posts_of 2 1 (49 ∷ 55 ∷ []) ∷ posts_of 1 0 (84 ∷ 65 ∷ 71 ∷ []) ∷ posts_of 2 3 (88 ∷ []) ∷ reads 1 0 6 ∷ report ∷ key 262 [] ∷ key 56 []
    ∷ host (27 ∷ 38 ∷ 97 ∷ 50 ∷ []) [] ∷ posts_of 2 0 (90 ∷ []) ∷ host (114 ∷ 48 ∷ 67 ∷ 27 ∷ 100 ∷ 17 ∷ []) (replicate 40 0)
    ∷ posts_of 1 1 (53 ∷ []) ∷ reads 1 1 6 ∷ posts_of 3 0 (90 ∷ []) ∷ posts_of 1 9 [] ∷ posts_of 1 2 (65 ∷ 66 ∷ []) ∷ reads 1 2 3 ∷ post 4 (52 ∷ 50 ∷ [])
    ∷ key 273 (7 ∷ 7 ∷ []) ∷ reads 2 1 6 ∷ reads 1 0 4 ∷ posts_of 1 0 (90 ∷ []) ∷ []

-- the same with one post of reader 2 alone, `YY` to field 3, at another place, and with other bytes in the reply buffers
abbrev pub quiet : List SharedCall
quiet =
    posts_of 1 0 (84 ∷ 65 ∷ 71 ∷ []) ∷ reads 1 0 6 ∷ key 262 [] ∷ key 56 []
    ∷ host (27 ∷ 38 ∷ 97 ∷ 50 ∷ []) [] ∷ host (114 ∷ 48 ∷ 67 ∷ 27 ∷ 100 ∷ 17 ∷ []) (replicate 40 9)
    ∷ posts_of 1 1 (53 ∷ []) ∷ reads 1 1 6 ∷ posts_of 3 0 (90 ∷ []) ∷ posts_of 1 9 [] ∷ posts_of 2 3 (89 ∷ 89 ∷ []) ∷ posts_of 1 2 (65 ∷ 66 ∷ []) ∷ reads 1 2 3 ∷ post 4 (52 ∷ 50 ∷ [])
    ∷ key 273 (8 ∷ 8 ∷ []) ∷ reads 1 0 4 ∷ posts_of 1 0 (90 ∷ []) ∷ []

-- what they end with: `TAG`, `87`, `AB`, `X`, `42`, and `TAG`, `8`, `AB`, `YY`, `42`; the cursor at row 2, column 0
abbrev pub busy_end : List (List ℕ)
busy_end =
    (84 ∷ 65 ∷ 71 ∷ 32 ∷ []) ∷ (56 ∷ 55 ∷ 32 ∷ 32 ∷ 32 ∷ 32 ∷ []) ∷ (65 ∷ 66 ∷ 32 ∷ 32 ∷ 32 ∷ 32 ∷ []) ∷ (88 ∷ 32 ∷ 32 ∷ []) ∷ (52 ∷ 50 ∷ 32 ∷ [])
    ∷ (35 ∷ 33 ∷ 35 ∷ []) ∷ (2 ∷ 0 ∷ 0 ∷ []) ∷ []

abbrev pub quiet_end : List (List ℕ)
quiet_end =
    (84 ∷ 65 ∷ 71 ∷ 32 ∷ []) ∷ (56 ∷ 32 ∷ 32 ∷ 32 ∷ 32 ∷ 32 ∷ []) ∷ (65 ∷ 66 ∷ 32 ∷ 32 ∷ 32 ∷ 32 ∷ []) ∷ (89 ∷ 89 ∷ 32 ∷ []) ∷ (52 ∷ 50 ∷ 32 ∷ [])
    ∷ (35 ∷ 33 ∷ 35 ∷ []) ∷ (2 ∷ 0 ∷ 0 ∷ []) ∷ []

-- and what is heard in both
abbrev pub both_hear : List SharedTold
both_hear =
    by_post 0 ∷ by_reading 0 4 (84 ∷ 65 ∷ 71 ∷ 32 ∷ []) ∷ by_key 0 0 [] ∷ by_key 0 0 [] ∷ by_host 0 4 0 [] ∷ by_host 0 6 31 [] ∷ by_post 13 ∷ by_reading 13 0 [] ∷ by_post 13
    ∷ by_post 9 ∷ by_post 0 ∷ by_reading 7 0 [] ∷ by_post 0 ∷ by_key 0 1 (18 ∷ []) ∷ by_reading 0 4 (84 ∷ 65 ∷ 71 ∷ 32 ∷ []) ∷ by_post 4 ∷ []

abbrev pub ReadersCovered : ℕ → Type 0
ReadersCovered rows = SharedBy rows busy quiet busy_end quiet_end both_hear

-- ESC & a 2, a post of reader 2, r 0 C; and the same host bytes in one call, with no post. Then an A, which is typed into field 2, and reader 1 reads it
abbrev pub in_two : List SharedCall
in_two = host (27 ∷ 38 ∷ 97 ∷ 50 ∷ []) [] ∷ posts_of 2 1 (49 ∷ 55 ∷ []) ∷ host (114 ∷ 48 ∷ 67 ∷ []) [] ∷ key 65 [] ∷ reads 1 2 6 ∷ []

abbrev pub in_one : List SharedCall
in_one = host (27 ∷ 38 ∷ 97 ∷ 50 ∷ 114 ∷ 48 ∷ 67 ∷ []) [] ∷ key 65 [] ∷ reads 1 2 6 ∷ []

pub record CutsCovered (rows : ℕ) : Type 0 where
  pub same_common : common 2 (all_by_bytes rows in_two) ≡ common 2 (all_by_bytes rows in_one)
  pub one_calm : Throughout (shared_called rows) (Calm rows owners) in_two (form rows)
  pub other_calm : Throughout (shared_called rows) (Calm rows owners) in_one (form rows)
  pub one_whole : Throughout (shared_called rows) (TakenWhole rows) in_two (form rows)
  pub other_whole : Throughout (shared_called rows) (TakenWhole rows) in_one (form rows)
  pub one_heard : filtered not_host (all_heard rows in_two (form rows)) ≡ by_key 0 0 [] ∷ by_reading 0 6 (65 ∷ replicate 5 32) ∷ []
  pub other_heard : filtered not_host (all_heard rows in_one (form rows)) ≡ by_key 0 0 [] ∷ by_reading 0 6 (65 ∷ replicate 5 32) ∷ []

-- ---- the bytes of a host's reply are not promised: a block transfer carries reader 2's cells

-- `17` of reader 2 to field 1, before some calls
abbrev pub with_post : List SharedCall → List SharedCall
with_post es = posts_of 2 1 (49 ∷ 55 ∷ []) ∷ es

-- ESC d DC1
abbrev pub transfer : List SharedCall
transfer = host (27 ∷ 100 ∷ 17 ∷ []) (replicate 31 0) ∷ []

-- what it sends on the form, where field 1 holds this text and all else is blank: the fields, the transmit-only one behind field 0 among them, byte 31 between, byte 30 last
abbrev pub block : List ℕ → List ℕ
block text =
    replicate 4 32 ++ (31 ∷ replicate 3 32 ++ (31 ∷ text ++ (31 ∷ replicate 6 32 ++ (31 ∷ replicate 3 32 ++ (31 ∷ replicate 3 32 ++ (30 ∷ []))))))

pub record RepliesTell (rows : ℕ) : Type 0 where
  pub same_common : common 2 (with_post transfer) ≡ common 2 transfer
  pub one_calm : Throughout (shared_called rows) (Calm rows owners) (with_post transfer) (form rows)
  pub other_calm : Throughout (shared_called rows) (Calm rows owners) transfer (form rows)
  pub one_told : answers (shared_called rows) (shared_told rows) (seen 2) (with_post transfer) (form rows) ≡ by_host 0 3 31 (block (49 ∷ 55 ∷ replicate 4 32)) ∷ []
  pub other_told : answers (shared_called rows) (shared_told rows) (seen 2) transfer (form rows) ≡ by_host 0 3 31 (block (replicate 6 32)) ∷ []

-- ---- what the conditions are for

-- two runs of which all holds that is asked, and that have the same in common: but what the calls that are seen get differs
pub record Disturbed (rows : ℕ) (Asked : SharedCall → World → Type 0) (es es' : List SharedCall) (ts ts' : List SharedTold) : Type 0 where
  pub same_common : common 2 es ≡ common 2 es'
  pub one_asked : Throughout (shared_called rows) Asked es (form rows)
  pub other_asked : Throughout (shared_called rows) Asked es' (form rows)
  pub one_heard : all_heard rows es (form rows) ≡ ts
  pub other_heard : all_heard rows es' (form rows) ≡ ts'
  pub differ : ¬ (ts ≡ ts')

-- all that is asked but that there is no home down: it goes under the text that reader 2 posted, by key and by host bytes, ESC F. An A is then typed into field 2, or into field 0, which
-- reader 1 reads back
abbrev pub DownAsked : ℕ → SharedCall → World → Type 0
DownAsked rows c w = SharedOnIn rows c w × Under owners c

abbrev pub then_typed : SharedCall → List SharedCall
then_typed down = down ∷ key 65 [] ∷ reads 1 0 4 ∷ []

abbrev pub typed_as : SharedTold → ℕ → List SharedTold
typed_as down character = down ∷ by_key 0 0 [] ∷ by_reading 0 4 (character ∷ 32 ∷ 32 ∷ 32 ∷ []) ∷ []

pub record HomeDownDisturbs (rows : ℕ) : Type 0 where
  pub key_struck :
      Disturbed rows (DownAsked rows) (with_post (then_typed (key 261 []))) (then_typed (key 261 [])) (typed_as (by_key 0 0 []) 32) (typed_as (by_key 0 0 []) 65)
  pub host_sent :
      Disturbed rows (DownAsked rows) (with_post (then_typed (host (27 ∷ 70 ∷ []) []))) (then_typed (host (27 ∷ 70 ∷ []) []))
      (typed_as (by_host 0 2 0 []) 32) (typed_as (by_host 0 2 0 []) 65)

-- all but that format mode stays on: ESC X, ESC M, ESC W takes the first row away, and then field 0, which reader 1 reads back, is what was field 1
abbrev pub OffAsked : ℕ → SharedCall → World → Type 0
OffAsked rows c w = NoHomeDown rows c w × Under owners c

abbrev pub row_gone : List SharedCall
row_gone = host (27 ∷ 88 ∷ 27 ∷ 77 ∷ 27 ∷ 87 ∷ []) [] ∷ reads 1 0 6 ∷ []

abbrev pub read_as : List ℕ → List SharedTold
read_as text = by_host 0 6 0 [] ∷ by_reading 0 6 text ∷ []

abbrev pub FormatOffDisturbs : ℕ → Type 0
FormatOffDisturbs rows = Disturbed rows (OffAsked rows) (with_post row_gone) row_gone (read_as (49 ∷ 55 ∷ replicate 4 32)) (read_as (replicate 6 32))

-- all but the one owner table: reader 2 posts Z to field 0 under a table that gives it to reader 2
abbrev pub TableAsked : ℕ → SharedCall → World → Type 0
TableAsked rows c w = SharedOnIn rows c w × NoHomeDown rows c w

abbrev pub TableDisturbs : ℕ → Type 0
TableDisturbs rows =
    Disturbed rows (TableAsked rows) (post_as (replicate 256 2) 2 0 (90 ∷ []) ∷ reads 1 0 4 ∷ []) (reads 1 0 4 ∷ [])
    (by_reading 0 4 (90 ∷ 32 ∷ 32 ∷ 32 ∷ []) ∷ []) (by_reading 0 4 (32 ∷ 32 ∷ 32 ∷ 32 ∷ []) ∷ [])

-- ---- two tags in one millisecond, one from each reader, and a key, in two orders

abbrev pub tag_of : ℕ → ℕ → List ℕ → Post Message
tag_of r field text = record { field = field; text = record { by = reader r; text = text } }

-- `TAG` of reader 1 to field 2, `17` of reader 2 to field 1, and reader 2's `X` to field 2, which is not its own
abbrev pub tags : List (Post Message)
tags = tag_of 1 2 (84 ∷ 65 ∷ 71 ∷ []) ∷ tag_of 2 1 (49 ∷ 55 ∷ []) ∷ tag_of 2 2 (88 ∷ []) ∷ []

abbrev pub sends : Post Message → Event Key Message
sends p = Event.post p.field p.text

-- an A, then the tags; and the tags in another order, then the A
abbrev pub key_first : List (Event Key Message)
key_first = Event.key (struck 65) ∷ sends (tag_of 1 2 (84 ∷ 65 ∷ 71 ∷ [])) ∷ sends (tag_of 2 1 (49 ∷ 55 ∷ [])) ∷ sends (tag_of 2 2 (88 ∷ [])) ∷ []

abbrev pub tags_first : List (Event Key Message)
tags_first = sends (tag_of 2 1 (49 ∷ 55 ∷ [])) ∷ sends (tag_of 1 2 (84 ∷ 65 ∷ 71 ∷ [])) ∷ sends (tag_of 2 2 (88 ∷ [])) ∷ Event.key (struck 65) ∷ []

pub record TagsCovered (rows : ℕ) : Type 0 where
  pub one_mixes : Mixed (struck 65 ∷ []) tags key_first
  pub other_mixes : Mixed (struck 65 ∷ []) tags tags_first
  pub apart : Apart (handled_under rows owners) Reach NotEnter tags (struck 65 ∷ []) (form rows)
  pub agree : Agree (handled_under rows owners) (answered_under rows owners) key_first tags_first (form rows)
  pub ends :
      shown (run (handled_under rows owners) tags_first (form rows))
      ≡ (65 ∷ 32 ∷ 32 ∷ 32 ∷ []) ∷ (49 ∷ 55 ∷ 32 ∷ 32 ∷ 32 ∷ 32 ∷ []) ∷ (84 ∷ 65 ∷ 71 ∷ 32 ∷ 32 ∷ 32 ∷ []) ∷ (32 ∷ 32 ∷ 32 ∷ []) ∷ (32 ∷ 32 ∷ 32 ∷ [])
      ∷ (35 ∷ 33 ∷ 35 ∷ []) ∷ (0 ∷ 1 ∷ 0 ∷ []) ∷ []
  pub numbered : numbers (answers (handled_under rows owners) (answered_under rows owners) (λ e. true) tags_first (form rows)) ≡ 0 ∷ 0 ∷ 13 ∷ 0 ∷ []
