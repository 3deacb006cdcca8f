-- Keys (document 01, 'Keys and posts'): what a key does, and the number that it answers. Assumes nothing.
use Rattle.std.specs.Prelude.{ℕ, ◌%◌, Bool, false, cond, ◌&&◌, not, List, [], ◌∷◌, length, take, set, ltb, eqb, Option, Some, None, is_none}
use Rattle.cursor.specs.Cursor.{cell_of}
use Rattle.cells.specs.Range.{within}
use Rattle.fields.specs.Fields.{marks, kind_at, target, allowed}
use Rattle.reading.specs.Action as Action
use Rattle.reading.specs.Reading.{listed}
use Rattle.terminal.specs.State.{World, world, is_good, is_sized, barred}
use Rattle.terminal.specs.Acts.{acted}
use Rattle.terminal.specs.Noted.{noted}
use Rattle.terminal.specs.Refusals.{◌when◌, first_refusal}
use Rattle.key.specs.declared.KeyAnswer.{KeyAnswer}

-- the codes that are not text, each with the action of its host byte: 266 changes insert mode over, 273 is ENTER
abbrev pub key_actions : Bool → List (ℕ × ℕ)
key_actions insert =
    (256, Action.up)
    ∷ (257, Action.down)
    ∷ (258, Action.right)
    ∷ (259, Action.left)
    ∷ (260, Action.home)
    ∷ (261, Action.home_down)
    ∷ (262, Action.tab)
    ∷ (263, Action.back_tab)
    ∷ (264, Action.clear_display)
    ∷ (265, Action.clear_line)
    ∷ (266, cond insert Action.insert_off Action.insert_on)
    ∷ (267, Action.delete_char)
    ∷ (268, Action.column0)
    ∷ (269, Action.roll_up)
    ∷ (270, Action.roll_down)
    ∷ (271, Action.next_page)
    ∷ (272, Action.prev_page)
    ∷ (273, Action.ask_block)
    ∷ []

-- 32 to 126 text, then the list; `rest` for a code that is not listed
unfoldable pub key_action : ℕ → Bool → ℕ
key_action code insert = cond (within 32 126 code) Action.text (listed (key_actions insert) Action.rest code)

abbrev pub enter : ℕ
enter = 273

-- the field of the target does not allow the character
unfoldable pub disallows : List ℕ → ℕ → Option ℕ → Bool
disallows ms v (Some cell) = not (allowed (kind_at ms cell) v)
disallows ms v None = false

-- keys test 1, 2, 3, 4, 5, 6, 7; 5 and 6 are for text keys with format on, which go to the target
unfoldable pub key_refusal : ℕ → World → ℕ → ℕ → ℕ
key_refusal rows w code room =
    let ms = marks w.attrs in
    let found = target ms (cell_of w.state.cursor) in
    let aims = within 32 126 code && w.state.format in
    first_refusal
    ((1 when not (is_sized rows w.chars w.attrs))
    ∷ (2 when not (is_good rows w.state))
    ∷ (3 when eqb (key_action code w.state.insert) Action.rest)
    ∷ (4 when barred w.state)
    ∷ (5 when (aims && is_none found))
    ∷ (6 when (aims && disallows ms code found))
    ∷ (7 when (eqb code enter && ltb room 1))
    ∷ [])

-- what a key call leaves: its answer and the three buffers
pub record Keyed : Type 0 where
  pub number : ℕ
  pub written : ℕ
  pub world : World
  pub reply : List ℕ

abbrev pub key_left : KeyAnswer → List ℕ → List ℕ → List ℕ → Keyed
key_left r chars attrs reply = record { number = r.number; written = r.written; world = world r.state chars attrs; reply = reply }

-- the same with those bytes of the reply buffer alone that the call wrote
abbrev pub delivered : Keyed → Keyed
delivered k = record { number = k.number; written = k.written; world = k.world; reply = take k.written k.reply }

-- the key's action, the rows that it changes noted; ENTER also sends byte 18
unfoldable pub key_done : ℕ → World → List ℕ → ℕ → Keyed
key_done rows w reply code =
    let v = noted rows w (acted rows (key_action code w.state.insert) (code % 256) w) in
    cond (eqb code enter) (record { number = 0; written = 1; world = v; reply = set reply 0 18 })
    (record { number = 0; written = 0; world = v; reply = reply })

-- a refusal leaves all
unfoldable pub keyed : ℕ → World → List ℕ → ℕ → Keyed
keyed rows w reply code =
    let n = key_refusal rows w code (length reply) in
    cond (eqb n 0) (key_done rows w reply code) (record { number = n; written = 0; world = w; reply = reply })
