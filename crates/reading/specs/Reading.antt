-- Document 01, 'Reading host bytes': which action a byte asks for in each reading state, by lists and decisions in the document's order.
-- Assumes nothing.
use Rattle.std.specs.Prelude.{◌≡◌, Bool, true, false, cond, ◌&&◌, ◌||◌, not, List, [], ◌∷◌, ℕ, ◌+◌, ◌-◌, ◌*◌, ◌%◌, ◌≤◌, ◌<◌, min, eqb, leb, ltb}
use Rattle.cells.specs.Range.{within}
use Rattle.reading.specs.declared.Number.{Number}
use Rattle.reading.specs.Action.{rest, esc, ack, left, tab, line_feed, column0, trigger, text, up, down, right, home, home_all, home_down, back_tab, clear_display, clear_line, insert_row, delete_row, delete_char, insert_on, insert_off, roll_up, roll_down, next_page, prev_page, format_on, format_off, set_tab, clear_tab, clear_tabs, mark1, mark4, mark5, turn2, turn3, turn1, ask_absolute, ask_window, ask_status, ask_block, lock_off, lock_on, soft_reset, hard_reset, to_group, to_set, to_cursor, to_enhance, to_other, plus, minus, digit, column_on, column_end, row_on, row_end, window_on, window_end, stay, enhance}

-- what a list has beside byte b, such as an action, or `other` where it does not list b
abbrev pub listed : {A : Type 0} → List (ℕ × A) → A → ℕ → A
listed [] other b = other
listed (row ∷ rows) other b = cond (eqb b row.0) row.1 (listed rows other b)

-- state 0, plain
abbrev pub in_plain : ℕ → ℕ
in_plain b =
    listed ((5, ack) ∷ (8, left) ∷ (9, tab) ∷ (10, line_feed) ∷ (13, column0) ∷ (17, trigger) ∷ [])
    (cond (within 32 126 b) text rest) b

-- state 1, after ESC; any other byte ends
abbrev pub after_esc : List (ℕ × ℕ)
after_esc =
    (65, up) ∷  -- A
    (66, down) ∷  -- B
    (67, right) ∷  -- C
    (68, left) ∷  -- D
    (71, column0) ∷  -- G
    (72, home) ∷  -- H
    (104, home_all) ∷  -- h
    (70, home_down) ∷  -- F
    (73, tab) ∷  -- I
    (105, back_tab) ∷  -- i
    (74, clear_display) ∷  -- J
    (75, clear_line) ∷  -- K
    (76, insert_row) ∷  -- L
    (77, delete_row) ∷  -- M
    (80, delete_char) ∷  -- P
    (81, insert_on) ∷  -- Q
    (82, insert_off) ∷  -- R
    (83, roll_up) ∷  -- S
    (84, roll_down) ∷  -- T
    (85, next_page) ∷  -- U
    (86, prev_page) ∷  -- V
    (87, format_on) ∷  -- W
    (88, format_off) ∷  -- X
    (49, set_tab) ∷  -- 1
    (50, clear_tab) ∷  -- 2
    (51, clear_tabs) ∷  -- 3
    (91, mark1) ∷  -- [
    (123, mark4) ∷  -- {
    (93, mark5) ∷  -- ]
    (54, turn2) ∷  -- 6
    (55, turn3) ∷  -- 7
    (56, turn1) ∷  -- 8
    (97, ask_absolute) ∷  -- a
    (96, ask_window) ∷  -- `
    (94, ask_status) ∷  -- ^
    (100, ask_block) ∷  -- d
    (98, lock_off) ∷  -- b
    (99, lock_on) ∷  -- c
    (103, soft_reset) ∷  -- g
    (69, hard_reset) ∷  -- E
    (38, to_group) ∷  -- &
    (41, to_set) ∷  -- )
    []

-- state 2, after ESC &: a, d, another lowercase letter; any other byte ends
abbrev pub in_group : ℕ → ℕ
in_group b = listed ((97, to_cursor) ∷ (100, to_enhance) ∷ []) (cond (within 97 122 b) to_other rest) b

-- state 3, in ESC & a: + or -, a digit, then c or C, r or R, y or Y; any other byte ends. Whether a sign may stand here depends on the number so far:
-- `settled`, below, decides it
abbrev pub in_cursor : ℕ → ℕ
in_cursor b =
    listed ((43, plus) ∷ (45, minus) ∷ [])
    (cond (within 48 57 b) digit
    (listed ((99, column_on) ∷ (67, column_end) ∷ (114, row_on) ∷ (82, row_end) ∷ (121, window_on) ∷ (89, window_end) ∷ []) rest b)) b

-- state 4: in ESC & d
abbrev pub in_enhance : ℕ → ℕ
in_enhance b = cond (within 64 79 b) enhance rest

-- state 5: in another ESC & group
abbrev pub in_other : ℕ → ℕ
in_other b = cond (within 64 90 b || ltb b 32) rest stay

-- one state's rules, for a byte below 128 that is no ESC; state 6 ends after any byte
abbrev pub in_state : ℕ → ℕ → ℕ
in_state s b =
    cond (eqb s 0) (in_plain b)
    (cond (eqb s 1) (listed after_esc rest b)
    (cond (eqb s 2) (in_group b)
    (cond (eqb s 3) (in_cursor b)
    (cond (eqb s 4) (in_enhance b)
    (cond (eqb s 5) (in_other b)
    rest)))))

-- ESC in any state comes before every other rule
abbrev pub action_at : ℕ → ℕ → ℕ
action_at s b = cond (eqb b 27) esc (in_state s b)

-- the action of a byte in reading state s: a byte counts modulo 128
unfoldable pub action_of : ℕ → ℕ → ℕ
action_of s byte = action_at s (byte % 128)

-- ---- the number being read: sign 0 none, 1 plus, 2 minus; whether a digit came; a value of 0 to 999
abbrev pub clear : Number
clear = record { sign = 0; digit = false; value = 0 }

-- no sign and no digit came yet
unfoldable pub unbegun : Number → Bool
unbegun n = eqb n.sign 0 && not n.digit

-- a sign stands first: after a sign or a digit it is a byte like any other, and ends
unfoldable pub settled : ℕ → Number → ℕ
settled a n = cond (eqb a plus || eqb a minus) (cond (unbegun n) a rest) a

-- the number after a settled action, b the byte below 128: above 999 counts as 999; every other action begins the next number or ends
unfoldable pub counted : ℕ → ℕ → Number → Number
counted a b n =
    cond (eqb a plus) (record { sign = 1; digit = false; value = 0 })
    (cond (eqb a minus) (record { sign = 2; digit = false; value = 0 })
    (cond (eqb a digit) (record { sign = n.sign; digit = true; value = min 999 (n.value * 10 + (b - 48)) })
    clear))

-- the reading state after a settled action
unfoldable pub next_reading : ℕ → ℕ
next_reading a =
    cond (eqb a esc) 1
    (cond (eqb a to_group) 2
    (cond (eqb a to_cursor || eqb a plus || eqb a minus || eqb a digit || eqb a column_on || eqb a row_on || eqb a window_on) 3
    (cond (eqb a to_enhance) 4
    (cond (eqb a to_other || eqb a stay) 5
    (cond (eqb a to_set) 6
    0)))))

-- a number that a good state can hold in a reading state: in range, 0 where no digit came, clear outside reading state 3
unfoldable pub sound_number : ℕ → Number → Bool
sound_number reading n =
    leb n.value 999 && (ltb n.sign 3 && ((n.digit || eqb n.value 0) && (eqb reading 3 || unbegun n)))

-- the same as facts: `sound_number reading n` is true exactly where these hold (`sound-in` and `in-sound` of proofs/Numbers.antt)
pub record SoundNumber (reading : ℕ) (n : Number) : Type 0 where
  pub value_in : n.value ≤ 999
  pub sign_in : n.sign < 3
  pub undigited : n.digit ≡ false → n.value ≡ 0
  pub cleared : (reading ≡ 3 → ⊥) → n ≡ clear
