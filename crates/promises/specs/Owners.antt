-- The promises of two readers on one form (document 02, [5]): one does not disturb the other, and the mixing promise holds for posts of both. Assumes nothing.
use Rattle.std.specs.Prelude.{ℕ, ◌*◌, ◌<◌, ◌≡◌, Bool, true, false, not, List, [], ◌∷◌, ◌++◌, map, length, take, replicate, eqb}
use Rattle.fields.specs.Fields.{marks, holds}
use Rattle.reading.specs.Action as Action
use Rattle.terminal.specs.State.{World, flagged, Sound}
use Rattle.streams.specs.Streams.{action_for, stepped, fed}
use Rattle.post.specs.Posts.{Posted, posted_to}
use Rattle.readers.specs.Owners.{owns, posted_as}
use Rattle.records.specs.Records.{emptied}
use Rattle.mixing.specs.Event.{Event, key, post, run, answers, filtered, Throughout}
use Rattle.mixing.specs.Mix.{Post, Mixed, Apart, Agree}
use Rattle.promises.specs.SharedCalls as SharedCalls
use Rattle.promises.specs.SharedCalls.{SharedCall, shared_called, SharedTold, by_host, by_key, by_post, by_report, by_reading, shared_told, SharedOnIn}
use Rattle.promises.specs.Changes.{cell_at}
use Rattle.promises.specs.Mixing.{Key, Answer, handled, answered, Reach, NotEnter}

-- ---- one reader does not disturb the other

-- all calls but the posts and readings back of the hidden reader, and reports
abbrev pub seen : ℕ → SharedCall → Bool
seen hidden (SharedCalls.host bytes reply) = true
seen hidden (SharedCalls.key code reply) = true
seen hidden (SharedCalls.post field text) = true
seen hidden SharedCalls.report = false
seen hidden (SharedCalls.post_as owners reader field text) = not (eqb reader hidden)
seen hidden (SharedCalls.read_back owners reader field out) = not (eqb reader hidden)

-- of a lent buffer the room alone: the call with zeros in its buffer
abbrev pub zeroed : List ℕ → List ℕ
zeroed buffer = replicate (length buffer) 0

abbrev pub roomed : SharedCall → SharedCall
roomed (SharedCalls.host bytes reply) = SharedCalls.host bytes (zeroed reply)
roomed (SharedCalls.key code reply) = SharedCalls.key code (zeroed reply)
roomed (SharedCalls.post field text) = SharedCalls.post field text
roomed SharedCalls.report = SharedCalls.report
roomed (SharedCalls.post_as owners reader field text) = SharedCalls.post_as owners reader field text
roomed (SharedCalls.read_back owners reader field out) = SharedCalls.read_back owners reader field (zeroed out)

-- what two runs have in common that differ only in the hidden reader's calls and in reports: the same calls in the same order, with the same owners, host bytes, keys, reply room and
-- posts
abbrev pub common : ℕ → List SharedCall → List SharedCall
common hidden calls = map roomed (filtered (seen hidden) calls)

-- what a call tells: its numbers, and the bytes that it wrote into the lent buffer; of host bytes the numbers alone, since a block transfer sends every field
abbrev pub heard_of : SharedTold → SharedTold
heard_of (by_host number taken written reply) = by_host number taken written []
heard_of (by_key number written reply) = by_key number written (take written reply)
heard_of (by_post number) = by_post number
heard_of (by_report number count first) = by_report number count first
heard_of (by_reading number written out) = by_reading number written (take written out)

abbrev pub heard : ℕ → SharedCall → World → SharedTold
heard rows c w = heard_of (shared_told rows c w)

-- none of the host bytes asks for home down; of a call, none of those that it takes, nor the key
abbrev pub NoneDown : ℕ → List ℕ → World → Type 0
NoneDown rows [] w = Unit {0}
NoneDown rows (b ∷ bytes) w = (¬ (action_for w.state b ≡ Action.home_down)) × NoneDown rows bytes (stepped rows b w)

abbrev pub NoHomeDown : ℕ → SharedCall → World → Type 0
NoHomeDown rows (SharedCalls.host bytes reply) w = NoneDown rows (take (fed rows w bytes reply).taken bytes) w
NoHomeDown rows (SharedCalls.key code reply) w = ¬ (code ≡ 261)
NoHomeDown rows (SharedCalls.post field text) w = Unit {0}
NoHomeDown rows SharedCalls.report w = Unit {0}
NoHomeDown rows (SharedCalls.post_as owners reader field text) w = Unit {0}
NoHomeDown rows (SharedCalls.read_back owners reader field out) w = Unit {0}

-- a reader's call is made with this owner table
abbrev pub Under : List ℕ → SharedCall → Type 0
Under owners (SharedCalls.host bytes reply) = Unit {0}
Under owners (SharedCalls.key code reply) = Unit {0}
Under owners (SharedCalls.post field text) = Unit {0}
Under owners SharedCalls.report = Unit {0}
Under owners (SharedCalls.post_as table reader field text) = table ≡ owners
Under owners (SharedCalls.read_back table reader field out) = table ≡ owners

-- format mode is on when the call begins, and after each host byte that it takes; no home down; and the one owner table
pub record Calm (rows : ℕ) (owners : List ℕ) (c : SharedCall) (w : World) : Type 0 where
  pub on : SharedOnIn rows c w
  pub no_home_down : NoHomeDown rows c w
  pub under : Under owners c

-- alike in all but the cells of the fields that the hidden reader owns, and which rows are set
pub record AlikeBut (rows : ℕ) (owners : List ℕ) (hidden : ℕ) (w v : World) : Type 0 where
  pub state_same : flagged w.state v.state.changes ≡ v.state
  pub marks_same : marks w.attrs ≡ marks v.attrs
  pub cells_same : (cell : ℕ) → cell < rows * 80 → ((field : ℕ) → owns owners hidden field ≡ true → holds (marks w.attrs) field cell ≡ false) → cell_at w cell ≡ cell_at v cell

-- each call that is seen tells the same in both runs, what is read back too, and the ends are alike but for the fields of the hidden reader
pub record Undisturbed (rows : ℕ) (owners : List ℕ) (hidden : ℕ) (es es' : List SharedCall) (w : World) : Type 0 where
  pub same_heard : answers (shared_called rows) (heard rows) (seen hidden) es w ≡ answers (shared_called rows) (heard rows) (seen hidden) es' w
  pub ends : AlikeBut rows owners hidden (run (shared_called rows) es w) (run (shared_called rows) es' w)

-- Take two runs from the same memory and state, each with format mode on throughout and no home down by host or key, under the same owners, with the same host bytes, keys, reply room
-- and posts, that differ only in the posts and readings back of one reader, in number, place or text, and in reports. Then the other reader gets the same answers and reads the same
-- text each time, and host and keys get the same answers too. This holds of either reader, of whatever memory and state the runs start from, and of up to 96 rows
abbrev pub ReadersUndisturbed : ℕ → Type 0
ReadersUndisturbed rows =
    (owners : List ℕ) (hidden : ℕ) (w : World) (es es' : List SharedCall) → common hidden es ≡ common hidden es'
    → Throughout (shared_called rows) (Calm rows owners) es w → Throughout (shared_called rows) (Calm rows owners) es' w
    → Undisturbed rows owners hidden es es' w

-- ---- however the host's bytes are cut into calls

-- a call byte by byte: each host byte in a call of its own, with a reply buffer that takes any one reply; every other call as it is
abbrev pub by_bytes : ℕ → SharedCall → List SharedCall
by_bytes rows (SharedCalls.host bytes reply) = map (λ (b : ℕ). SharedCalls.host (b ∷ []) (emptied rows)) bytes
by_bytes rows (SharedCalls.key code reply) = SharedCalls.key code reply ∷ []
by_bytes rows (SharedCalls.post field text) = SharedCalls.post field text ∷ []
by_bytes rows SharedCalls.report = SharedCalls.report ∷ []
by_bytes rows (SharedCalls.post_as owners reader field text) = SharedCalls.post_as owners reader field text ∷ []
by_bytes rows (SharedCalls.read_back owners reader field out) = SharedCalls.read_back owners reader field out ∷ []

abbrev pub all_by_bytes : ℕ → List SharedCall → List SharedCall
all_by_bytes rows [] = []
all_by_bytes rows (c ∷ calls) = by_bytes rows c ++ all_by_bytes rows calls

-- the stream of a host call is taken whole
abbrev pub TakenWhole : ℕ → SharedCall → World → Type 0
TakenWhole rows (SharedCalls.host bytes reply) w = (fed rows w bytes reply).number ≡ 0
TakenWhole rows (SharedCalls.key code reply) w = Unit {0}
TakenWhole rows (SharedCalls.post field text) w = Unit {0}
TakenWhole rows SharedCalls.report w = Unit {0}
TakenWhole rows (SharedCalls.post_as owners reader field text) w = Unit {0}
TakenWhole rows (SharedCalls.read_back owners reader field out) w = Unit {0}

-- what keys and readers hear: all but what the host does
abbrev pub not_host : SharedTold → Bool
not_host (by_host number taken written reply) = false
not_host (by_key number written reply) = true
not_host (by_post number) = true
not_host (by_report number count first) = true
not_host (by_reading number written out) = true

-- Where each stream of two such runs is taken whole, it is enough that the host bytes are the same, and stand at the same places among the calls that are seen: each run may cut them
-- into calls anywhere, inside a sequence too, for posts of the hidden reader or for nothing
abbrev pub CutsUndisturbed : ℕ → Type 0
CutsUndisturbed rows =
    (owners : List ℕ) (hidden : ℕ) (w : World) (es es' : List SharedCall) → common hidden (all_by_bytes rows es) ≡ common hidden (all_by_bytes rows es')
    → Throughout (shared_called rows) (Calm rows owners) es w → Throughout (shared_called rows) (Calm rows owners) es' w
    → Throughout (shared_called rows) (TakenWhole rows) es w → Throughout (shared_called rows) (TakenWhole rows) es' w
    → (filtered not_host (answers (shared_called rows) (heard rows) (seen hidden) es w) ≡ filtered not_host (answers (shared_called rows) (heard rows) (seen hidden) es' w))
    × AlikeBut rows owners hidden (run (shared_called rows) es w) (run (shared_called rows) es' w)

-- ---- the mixing promise for posts of both readers

-- who posts: nobody that is named, or a reader
pub data Sender : Type 0 where
  nobody : Sender
  reader : ℕ → Sender

-- a text, with who posts it
pub record Message : Type 0 where
  pub by : Sender
  pub text : List ℕ

abbrev pub posted_from : ℕ → List ℕ → World → ℕ → Sender → List ℕ → Posted
posted_from rows owners w field nobody text = posted_to rows w field text
posted_from rows owners w field (reader r) text = posted_as rows w owners r field text

-- memory and state after a key, or after a post taken with its reader, and the answer, as in `handled` and `answered`
abbrev pub handled_under : ℕ → List ℕ → Event Key Message → World → World
handled_under rows owners (key k) w = handled rows (key k) w
handled_under rows owners (post field m) w = (posted_from rows owners w field m.by m.text).world

abbrev pub answered_under : ℕ → List ℕ → Event Key Message → World → Answer
answered_under rows owners (key k) w = answered rows (key k) w
answered_under rows owners (post field m) w = record { number = (posted_from rows owners w field m.by m.text).number; written = 0; reply = [] }

-- `MixesAgree`, each post taken with its reader, under one owner table that stays the same
abbrev pub ReaderMixesAgree : ℕ → Type 0
ReaderMixesAgree rows =
    (owners : List ℕ) (w : World) → Sound rows w → w.state.format ≡ true
    → (ks : List Key) (ps : List (Post Message)) → Apart (handled_under rows owners) Reach NotEnter ps ks w
    → (es es' : List (Event Key Message)) → Mixed ks ps es → Mixed ks ps es' → Agree (handled_under rows owners) (answered_under rows owners) es es' w
