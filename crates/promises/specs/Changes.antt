-- The promises of the rows that changed: which rows are set after a host byte, a call, any calls and a session, and what a report tells. A refused call changes
-- nothing, so no row either (`Refusals`). This holds of up to 96 rows. Assumes nothing.
use Rattle.std.specs.Prelude.{ℕ, ◌+◌, ◌*◌, ◌≤◌, ◌<◌, ◌≡◌, ◌⊎◌, ◌↔◌, true, false, List, [], ◌∷◌, take, get_or}
use Rattle.changes.specs.Sets.{rows_of, count_true}
use Rattle.terminal.specs.declared.Terminal.{Terminal}
use Rattle.terminal.specs.State.{World, flagged, Good, Sound}
use Rattle.terminal.specs.Fresh.{freshened}
use Rattle.streams.specs.Streams.{stepped, fed}
use Rattle.key.specs.Keys.{keyed}
use Rattle.post.specs.Posts.{posted_to}
use Rattle.report.specs.declared.ReportAnswer.{ReportAnswer}
use Rattle.report.specs.Reports.{reported}
use Rattle.sessions.specs.Session.{went}
use Rattle.mixing.specs.Event.{run}
use Rattle.promises.specs.Calls.{Call, host, key, post, report, called}

-- row r is set in a state of `rows` rows
abbrev pub IsSet : ℕ → Terminal → ℕ → Type 0
IsSet rows t r = get_or (rows_of rows t.changes) r false ≡ true

-- the character and the attribute byte of a cell
abbrev pub cell_at : World → ℕ → ℕ × ℕ
cell_at w i = (get_or w.chars i 0, get_or w.attrs i 0)

-- row r differs: one of its 80 cells has another character or another attribute byte in v than in w
abbrev pub RowDiffers : World → World → ℕ → Type 0
RowDiffers w v r = (c : ℕ) × (c < 80) × ¬ (cell_at w (r * 80 + c) ≡ cell_at v (r * 80 + c))

-- one of the host bytes changes row r: it differs after that byte from before it
abbrev pub BytesChange : ℕ → List ℕ → World → ℕ → Type 0
BytesChange rows [] w r = ⊥
BytesChange rows (b ∷ bytes) w r = RowDiffers w (stepped rows b w) r ⊎ BytesChange rows bytes (stepped rows b w) r

-- a call changes row r: one of the host bytes that it takes, the key or the post does
abbrev pub CallChanges : ℕ → Call → World → ℕ → Type 0
CallChanges rows (host bytes reply) w r = BytesChange rows (take (fed rows w bytes reply).taken bytes) w r
CallChanges rows (key code reply) w r = RowDiffers w (keyed rows w reply code).world r
CallChanges rows (post field text) w r = RowDiffers w (posted_to rows w field text).world r
CallChanges rows report w r = ⊥

-- one of the calls does
abbrev pub CallsChange : ℕ → List Call → World → ℕ → Type 0
CallsChange rows [] w r = ⊥
CallsChange rows (c ∷ calls) w r = CallChanges rows c w r ⊎ CallsChange rows calls (called rows c w) r

-- no call is a report
abbrev pub NoReport : List Call → Type 0
NoReport [] = Unit {0}
NoReport (host bytes reply ∷ calls) = NoReport calls
NoReport (key code reply ∷ calls) = NoReport calls
NoReport (post field text ∷ calls) = NoReport calls
NoReport (report ∷ calls) = ⊥

-- ---- a row is set afterwards exactly when it was set before or has been changed: after a host byte, and after any calls with no report, whatever they are given
abbrev pub ByteRows : ℕ → Type 0
ByteRows rows =
    (w : World) (byte r : ℕ) → Sound rows w → r < rows
    → IsSet rows (stepped rows byte w).state r ↔ IsSet rows w.state r ⊎ RowDiffers w (stepped rows byte w) r

abbrev pub CallRows : ℕ → Type 0
CallRows rows =
    (calls : List Call) (w : World) (r : ℕ) → NoReport calls → r < rows
    → IsSet rows (run (called rows) calls w).state r ↔ IsSet rows w.state r ⊎ CallsChange rows calls w r

-- so a hard reset, byte E in reading state 1, which ESC leaves, keeps the rows that are set and adds those that are not blank with attributes 0
abbrev pub ResetRows : ℕ → Type 0
ResetRows rows =
    (w : World) (r : ℕ) → Sound rows w → w.state.reading ≡ 1 → r < rows
    → IsSet rows (stepped rows 69 w).state r ↔ IsSet rows w.state r ⊎ ((c : ℕ) × (c < 80) × ¬ (cell_at w (r * 80 + c) ≡ (32, 0)))

-- session records leave each row set that is set
abbrev pub SessionRows : ℕ → Type 0
SessionRows rows =
    (number : ℕ) (w : World) (records : List (List ℕ)) (r : ℕ) → r < rows → IsSet rows w.state r → IsSet rows (went rows number w records).world.state r

-- ---- a fresh terminal has all rows set, whatever memory is lent
abbrev pub FreshRows : ℕ → Type 0
FreshRows rows = (chars attrs : List ℕ) (r : ℕ) → r < rows → IsSet rows (freshened rows chars attrs).world.state r

-- ---- a report of a good state
pub record Tells (rows : ℕ) (t : Terminal) (a : ReportAnswer) : Type 0 where
  -- how many rows are set
  pub counts : a.count ≡ count_true (rows_of rows t.changes)
  -- the first of them, or the number of rows where none is set
  pub first_in : a.first ≤ rows
  pub first_set : a.first < rows → IsSet rows t a.first
  pub none_before : (r : ℕ) → r < a.first → ¬ IsSet rows t r
  -- afterwards no row is set, and all else is as it was
  pub cleared : (r : ℕ) → r < rows → ¬ IsSet rows a.state r
  pub else_stays : a.state ≡ flagged t a.state.changes

abbrev pub ReportRows : ℕ → Type 0
ReportRows rows = (t : Terminal) → Good rows t → Tells rows t (reported rows t)
