-- The calls of a form that two readers share: those of `Calls`, and under an owner table a reader's post of a text to a field and its reading back of a field. The memory and state that each
-- leaves, and what it answers; and what is promised of calls, promised of these too. Assumes nothing.
use Rattle.std.specs.Prelude.{ℕ, ◌<◌, ◌≡◌, ◌⊎◌, ◌↔◌, true, List, [], ◌∷◌, ◌++◌, take}
use Rattle.terminal.specs.State.{World, stated, Good}
use Rattle.terminal.specs.Protected.{Protects}
use Rattle.streams.specs.Streams.{fed}
use Rattle.streams.specs.Protected.{StaysOn}
use Rattle.key.specs.Keys.{keyed}
use Rattle.post.specs.Posts.{posted_to}
use Rattle.readers.specs.Owners.{posted_as, read_back_of}
use Rattle.report.specs.Reports.{reported}
use Rattle.mixing.specs.Event.{run, answers}
use Rattle.promises.specs.Refusals.{GoodShown}
use Rattle.promises.specs.Changes.{IsSet, RowDiffers, BytesChange}
use Rattle.promises.specs.Noise.{Misread, IsEsc, NoHostByte}

-- a call: host bytes or a key code, each with the reply buffer that is lent, a post of a text to a field, a report; and under an owner table, a reader's post of a text to a
-- field, or its reading back of a field into a buffer
pub data SharedCall : Type 0 where
  host : List ℕ → List ℕ → SharedCall
  key : ℕ → List ℕ → SharedCall
  post : ℕ → List ℕ → SharedCall
  report : SharedCall
  post_as : List ℕ → ℕ → ℕ → List ℕ → SharedCall
  read_back : List ℕ → ℕ → ℕ → List ℕ → SharedCall

-- memory and state after a call
abbrev pub shared_called : ℕ → SharedCall → World → World
shared_called rows (host bytes reply) w = (fed rows w bytes reply).world
shared_called rows (key code reply) w = (keyed rows w reply code).world
shared_called rows (post field text) w = (posted_to rows w field text).world
shared_called rows report w = stated w (reported rows w.state).state
shared_called rows (post_as owners reader field text) w = (posted_as rows w owners reader field text).world
shared_called rows (read_back owners reader field out) w = w

-- what a call answers: host bytes its number, how many bytes are taken, how many reply bytes are written and the reply buffer; a key the same but for bytes taken; a post its
-- number; a report its number, how many rows are set and the first of them; a reading back its number, how many bytes are written and the buffer
pub data SharedTold : Type 0 where
  by_host : ℕ → ℕ → ℕ → List ℕ → SharedTold
  by_key : ℕ → ℕ → List ℕ → SharedTold
  by_post : ℕ → SharedTold
  by_report : ℕ → ℕ → ℕ → SharedTold
  by_reading : ℕ → ℕ → List ℕ → SharedTold

abbrev pub shared_told : ℕ → SharedCall → World → SharedTold
shared_told rows (host bytes reply) w = let h = fed rows w bytes reply in by_host h.number h.taken h.written h.reply
shared_told rows (key code reply) w = let k = keyed rows w reply code in by_key k.number k.written k.reply
shared_told rows (post field text) w = by_post (posted_to rows w field text).number
shared_told rows report w = let r = reported rows w.state in by_report r.number r.count r.first
shared_told rows (post_as owners reader field text) w = by_post (posted_as rows w owners reader field text).number
shared_told rows (read_back owners reader field out) w = let b = read_back_of rows w owners reader field out in by_reading b.number b.written b.out

-- ---- a good state stays good

-- `GoodStays` of these calls
abbrev pub SharedGoodStays : ℕ → Type 0
SharedGoodStays rows = (calls : List SharedCall) (w : World) → Good rows w.state → GoodShown rows (run (shared_called rows) calls w)

-- ---- protected cells stay

-- format mode is on when the call begins, and after each host byte that it takes
abbrev pub SharedOnIn : ℕ → SharedCall → World → Type 0
SharedOnIn rows (host bytes reply) w = StaysOn rows (take (fed rows w bytes reply).taken bytes) w
SharedOnIn rows (key code reply) w = w.state.format ≡ true
SharedOnIn rows (post field text) w = w.state.format ≡ true
SharedOnIn rows report w = w.state.format ≡ true
SharedOnIn rows (post_as owners reader field text) w = w.state.format ≡ true
SharedOnIn rows (read_back owners reader field out) w = w.state.format ≡ true

-- and so in each of the calls
abbrev pub SharedOnThrough : ℕ → List SharedCall → World → Type 0
SharedOnThrough rows [] w = w.state.format ≡ true
SharedOnThrough rows (c ∷ calls) w = SharedOnIn rows c w × SharedOnThrough rows calls (shared_called rows c w)

-- `ProtectedStay` of these calls
abbrev pub SharedProtectedStay : ℕ → Type 0
SharedProtectedStay rows = (calls : List SharedCall) (w : World) → SharedOnThrough rows calls w → Protects w (run (shared_called rows) calls w)

-- ---- the rows that changed

-- a call changes row r: one of the host bytes that it takes, the key or the post does
abbrev pub SharedCallChanges : ℕ → SharedCall → World → ℕ → Type 0
SharedCallChanges rows (host bytes reply) w r = BytesChange rows (take (fed rows w bytes reply).taken bytes) w r
SharedCallChanges rows (key code reply) w r = RowDiffers w (keyed rows w reply code).world r
SharedCallChanges rows (post field text) w r = RowDiffers w (posted_to rows w field text).world r
SharedCallChanges rows report w r = ⊥
SharedCallChanges rows (post_as owners reader field text) w r = RowDiffers w (posted_as rows w owners reader field text).world r
SharedCallChanges rows (read_back owners reader field out) w r = ⊥

-- one of the calls does
abbrev pub SharedCallsChange : ℕ → List SharedCall → World → ℕ → Type 0
SharedCallsChange rows [] w r = ⊥
SharedCallsChange rows (c ∷ calls) w r = SharedCallChanges rows c w r ⊎ SharedCallsChange rows calls (shared_called rows c w) r

-- no call is a report
abbrev pub SharedNoReport : List SharedCall → Type 0
SharedNoReport [] = Unit {0}
SharedNoReport (host bytes reply ∷ calls) = SharedNoReport calls
SharedNoReport (key code reply ∷ calls) = SharedNoReport calls
SharedNoReport (post field text ∷ calls) = SharedNoReport calls
SharedNoReport (report ∷ calls) = ⊥
SharedNoReport (post_as owners reader field text ∷ calls) = SharedNoReport calls
SharedNoReport (read_back owners reader field out ∷ calls) = SharedNoReport calls

-- `CallRows` of these calls
abbrev pub SharedCallRows : ℕ → Type 0
SharedCallRows rows =
    (calls : List SharedCall) (w : World) (r : ℕ) → SharedNoReport calls → r < rows
    → IsSet rows (run (shared_called rows) calls w).state r ↔ IsSet rows w.state r ⊎ SharedCallsChange rows calls w r

-- ---- noise on the line

-- the answers of calls, one after the other
abbrev pub shared_all_told : ℕ → List SharedCall → World → List SharedTold
shared_all_told rows calls w = answers (shared_called rows) (shared_told rows) (λ c. true) calls w

-- the host bytes that a call brings
abbrev pub shared_bytes_of_call : SharedCall → List ℕ
shared_bytes_of_call (host bytes reply) = bytes
shared_bytes_of_call (key code reply) = []
shared_bytes_of_call (post field text) = []
shared_bytes_of_call report = []
shared_bytes_of_call (post_as owners reader field text) = []
shared_bytes_of_call (read_back owners reader field out) = []

-- `CallsUnread` of these calls
abbrev pub SharedCallsUnread : ℕ → Type 0
SharedCallsUnread rows =
    (calls : List SharedCall) (w v : World) → Misread rows w v → NoHostByte shared_bytes_of_call calls
    → Misread rows (run (shared_called rows) calls w) (run (shared_called rows) calls v) × (shared_all_told rows calls v ≡ shared_all_told rows calls w)

-- `CallsRecover` of these calls
abbrev pub SharedCallsRecover : ℕ → Type 0
SharedCallsRecover rows =
    (before later : List SharedCall) (esc : ℕ) (bytes reply : List ℕ) (w v : World) → Misread rows w v → NoHostByte shared_bytes_of_call before → IsEsc esc
    → let calls = before ++ (host (esc ∷ bytes) reply ∷ later) in
    (run (shared_called rows) calls v ≡ run (shared_called rows) calls w) × (shared_all_told rows calls v ≡ shared_all_told rows calls w)
