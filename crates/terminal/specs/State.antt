-- The terminal's state and its memory (document 01, 'Memory and state'). Assumes nothing.
use Rattle.std.specs.Prelude.{ℕ, ◌*◌, ◌≤◌, ◌<◌, ◌≡◌, Bool, true, false, ◌&&◌, ◌||◌, not, List, length, replicate, ltb, eqb}
use Rattle.changes.specs.declared.Changes.{Changes}
use Rattle.changes.specs.Sets.{set_of, no_spare}
use Rattle.cursor.specs.declared.Cursor.{Cursor}
use Rattle.cursor.specs.Cursor.{is_placed, InPlace}
use Rattle.reading.specs.declared.Number.{Number}
use Rattle.reading.specs.Reading.{clear, sound_number, SoundNumber}
use Rattle.screen.specs.Page.{Page, page}
use Rattle.terminal.specs.declared.Terminal.{Terminal}

-- the state with the characters and the attributes
pub record World : Type 0 where
  pub state : Terminal
  pub chars : List ℕ
  pub attrs : List ℕ

abbrev pub world : Terminal → List ℕ → List ℕ → World
world t chars attrs = record { state = t; chars = chars; attrs = attrs }

-- another state over the same memory
abbrev pub stated : World → Terminal → World
stated w t = world t w.chars w.attrs

-- ---- the state with one group of its parts set
abbrev pub placed : Terminal → Cursor → Terminal
placed t c =
    record {
      cursor = c;
      format = t.format;
      insert = t.insert;
      lock = t.lock;
      pending = t.pending;
      reading = t.reading;
      number = t.number;
      tabs = t.tabs;
      changes = t.changes;
    }

abbrev pub moded : Terminal → Bool → Bool → Bool → ℕ → Terminal
moded t format insert lock pending =
    record {
      cursor = t.cursor;
      format = format;
      insert = insert;
      lock = lock;
      pending = pending;
      reading = t.reading;
      number = t.number;
      tabs = t.tabs;
      changes = t.changes;
    }

abbrev pub stopped : Terminal → List Bool → Terminal
stopped t tabs =
    record {
      cursor = t.cursor;
      format = t.format;
      insert = t.insert;
      lock = t.lock;
      pending = t.pending;
      reading = t.reading;
      number = t.number;
      tabs = tabs;
      changes = t.changes;
    }

abbrev pub reread : Terminal → ℕ → Number → Terminal
reread t reading number =
    record {
      cursor = t.cursor;
      format = t.format;
      insert = t.insert;
      lock = t.lock;
      pending = t.pending;
      reading = reading;
      number = number;
      tabs = t.tabs;
      changes = t.changes;
    }

abbrev pub flagged : Terminal → Changes → Terminal
flagged t changes =
    record {
      cursor = t.cursor;
      format = t.format;
      insert = t.insert;
      lock = t.lock;
      pending = t.pending;
      reading = t.reading;
      number = t.number;
      tabs = t.tabs;
      changes = changes;
    }

-- ---- the page that edits work on, and back
abbrev pub page_of : World → Page
page_of w = page w.state.cursor w.chars w.attrs

abbrev pub paged : World → Page → World
paged w p = world (placed w.state p.cursor) p.chars p.attrs

-- ---- fresh: all 0 and off, all rows set, characters 32, attributes 0
abbrev pub fresh_state : ℕ → Terminal
fresh_state rows =
    record {
      cursor = record { row = 0; col = 0; top = 0 };
      format = false;
      insert = false;
      lock = false;
      pending = 0;
      reading = 0;
      number = clear;
      tabs = replicate 80 false;
      changes = set_of (replicate rows true);
    }

unfoldable pub fresh_world : ℕ → World
fresh_world rows = world (fresh_state rows) (replicate (rows * 80) 32) (replicate (rows * 80) 0)

-- ---- a good state: top ≤ row ≤ top + 23 and all parts in range, the value 0 where no digit came, the number clear outside reading state 3,
-- no spare row bit set. As a test, by which calls are refused, and as facts
unfoldable pub is_good : ℕ → Terminal → Bool
is_good rows t = is_placed rows t.cursor && (ltb t.pending 5 && (ltb t.reading 7 && (sound_number t.reading t.number && no_spare rows t.changes)))

pub record Good (rows : ℕ) (t : Terminal) : Type 0 where
  pub place : InPlace rows t.cursor
  pub pending_in : t.pending < 5
  pub reading_in : t.reading < 7
  pub number_in : SoundNumber t.reading t.number
  pub changes_in : no_spare rows t.changes ≡ true

-- both memories have `rows` rows of 80 cells
unfoldable pub is_sized : ℕ → List ℕ → List ℕ → Bool
is_sized rows chars attrs = eqb (length chars) (rows * 80) && eqb (length attrs) (rows * 80)

-- a good state over memories of the right size
pub record Sound (rows : ℕ) (w : World) : Type 0 where
  pub few : rows ≤ 96
  pub chars_long : length w.chars ≡ rows * 80
  pub attrs_long : length w.attrs ≡ rows * 80
  pub good : Good rows w.state

-- keys and posts are barred while host lock is on or a transfer is pending
unfoldable pub barred : Terminal → Bool
barred t = t.lock || not (eqb t.pending 0)
