-- The byte reader as plain decisions, in document 01's order and words ('Reading host bytes'): what a byte asks for, and the reading state and the number after it.
-- Assumes nothing.
use Rattle.std.specs.Prelude.{Bool, true, false, cond, ◌||◌, List, [], ◌∷◌, ℕ, ◌+◌, ◌-◌, ◌*◌, ◌%◌, min, eqb, ltb}
use Rattle.cells.specs.Range.{within}
use Rattle.reading.specs.declared.Number.{Number}
use Rattle.reading.specs.Action.{number_of, rest, esc, ack, left, tab, line_feed, column0, trigger, text, up, down, right, home, home_all, home_down, back_tab, clear_display, clear_line, insert_row, delete_row, delete_char, insert_on, insert_off, roll_up, roll_down, next_page, prev_page, format_on, format_off, set_tab, clear_tab, clear_tabs, mark1, mark4, mark5, turn2, turn3, turn1, ask_absolute, ask_window, ask_status, ask_block, lock_off, lock_on, soft_reset, hard_reset, to_group, to_set, to_cursor, to_enhance, to_other, plus, minus, digit, column_on, column_end, row_on, row_end, window_on, window_end, stay, enhance}
use Rattle.reading.specs.Reading.{listed, clear, unbegun}
use Rattle.decisions.specs.declared.Step as Declared

-- what a byte comes to: the number of the action that it asks for, and the reading state and the number after it
pub record Step : Type 0 where
  pub action : ℕ
  pub reading : ℕ
  pub number : Number

abbrev pub step : ℕ → ℕ → Number → Step
step action reading number = record { action = action; reading = reading; number = number }

-- a step of the code
abbrev pub step_of : Declared.Step → Step
step_of d = step (number_of d.action) d.reading d.number

-- an action, and on to a reading state with the number cleared: each end of a sequence goes to state 0
abbrev pub goes_to : ℕ → ℕ → Step
goes_to action reading = step action reading clear

-- a byte of the number in ESC & a: state 3, with what has come of the number
abbrev pub counts_on : ℕ → ℕ → Bool → ℕ → Step
counts_on action sign digit value = step action 3 (record { sign = sign; digit = digit; value = value })

-- state 0, plain; others do nothing
abbrev pub controls : List (ℕ × Step)
controls = (5, goes_to ack 0) ∷ (8, goes_to left 0) ∷ (9, goes_to tab 0) ∷ (10, goes_to line_feed 0) ∷ (13, goes_to column0 0) ∷ (17, goes_to trigger 0) ∷ []

abbrev pub in_plain : ℕ → Step
in_plain b = listed controls (cond (within 32 126 b) (goes_to text 0) (goes_to rest 0)) b

-- state 1, after ESC; any other byte ends
abbrev pub letters : List (ℕ × Step)
letters =
    (65, goes_to up 0) ∷  -- A
    (66, goes_to down 0) ∷  -- B
    (67, goes_to right 0) ∷  -- C
    (68, goes_to left 0) ∷  -- D
    (71, goes_to column0 0) ∷  -- G
    (72, goes_to home 0) ∷  -- H
    (104, goes_to home_all 0) ∷  -- h
    (70, goes_to home_down 0) ∷  -- F
    (73, goes_to tab 0) ∷  -- I
    (105, goes_to back_tab 0) ∷  -- i
    (74, goes_to clear_display 0) ∷  -- J
    (75, goes_to clear_line 0) ∷  -- K
    (76, goes_to insert_row 0) ∷  -- L
    (77, goes_to delete_row 0) ∷  -- M
    (80, goes_to delete_char 0) ∷  -- P
    (81, goes_to insert_on 0) ∷  -- Q
    (82, goes_to insert_off 0) ∷  -- R
    (83, goes_to roll_up 0) ∷  -- S
    (84, goes_to roll_down 0) ∷  -- T
    (85, goes_to next_page 0) ∷  -- U
    (86, goes_to prev_page 0) ∷  -- V
    (87, goes_to format_on 0) ∷  -- W
    (88, goes_to format_off 0) ∷  -- X
    (49, goes_to set_tab 0) ∷  -- 1
    (50, goes_to clear_tab 0) ∷  -- 2
    (51, goes_to clear_tabs 0) ∷  -- 3
    (91, goes_to mark1 0) ∷  -- [
    (123, goes_to mark4 0) ∷  -- {
    (93, goes_to mark5 0) ∷  -- ]
    (54, goes_to turn2 0) ∷  -- 6
    (55, goes_to turn3 0) ∷  -- 7
    (56, goes_to turn1 0) ∷  -- 8
    (97, goes_to ask_absolute 0) ∷  -- a
    (96, goes_to ask_window 0) ∷  -- `
    (94, goes_to ask_status 0) ∷  -- ^
    (100, goes_to ask_block 0) ∷  -- d
    (98, goes_to lock_off 0) ∷  -- b
    (99, goes_to lock_on 0) ∷  -- c
    (103, goes_to soft_reset 0) ∷  -- g
    (69, goes_to hard_reset 0) ∷  -- E
    (38, goes_to to_group 2) ∷  -- &
    (41, goes_to to_set 6) ∷  -- )
    []

abbrev pub after_esc : ℕ → Step
after_esc b = listed letters (goes_to rest 0) b

-- state 2, after ESC &: a, d, another lowercase letter; any other byte ends
abbrev pub groups : List (ℕ × Step)
groups = (97, goes_to to_cursor 3) ∷ (100, goes_to to_enhance 4) ∷ []

abbrev pub after_group : ℕ → Step
after_group b = listed groups (cond (within 97 122 b) (goes_to to_other 5) (goes_to rest 0)) b

-- a sign: first, where neither a sign nor a digit has come, or else it ends the sequence
abbrev pub signed : Number → ℕ → ℕ → Step
signed n action sign = cond (unbegun n) (counts_on action sign false 0) (goes_to rest 0)

-- a digit: the value with it; above 999 counts as 999
abbrev pub digited : Number → ℕ → Step
digited n b = counts_on digit n.sign true (min 999 (n.value * 10 + (b - 48)))

-- state 3, in ESC & a: an optional sign first, digits (above 999 counts as 999), then c, r or y: a small letter acts and begins the next number, a capital acts and
-- ends; anything else ends
abbrev pub signs : Number → List (ℕ × Step)
signs n = (43, signed n plus 1) ∷ (45, signed n minus 2) ∷ []

abbrev pub places : List (ℕ × Step)
places =
    (99, goes_to column_on 3) ∷ (67, goes_to column_end 0) ∷ (114, goes_to row_on 3) ∷ (82, goes_to row_end 0) ∷ (121, goes_to window_on 3) ∷ (89, goes_to window_end 0) ∷ []

abbrev pub in_cursor : Number → ℕ → Step
in_cursor n b = listed (signs n) (cond (within 48 57 b) (digited n b) (listed places (goes_to rest 0) b)) b

-- state 4, in ESC & d: all bytes end it
abbrev pub in_enhance : ℕ → Step
in_enhance b = cond (within 64 79 b) (goes_to enhance 0) (goes_to rest 0)

-- state 5, in another ESC & group
abbrev pub in_other : ℕ → Step
in_other b = cond (within 64 90 b || ltb b 32) (goes_to rest 0) (goes_to stay 5)

-- ESC in any state clears the number and goes to 1, before every other rule; state 6, after ESC ), ends after one byte
abbrev pub decided_at : ℕ → Number → ℕ → Step
decided_at s n b =
    cond (eqb b 27) (goes_to esc 1)
    (cond (eqb s 0) (in_plain b)
    (cond (eqb s 1) (after_esc b)
    (cond (eqb s 2) (after_group b)
    (cond (eqb s 3) (in_cursor n b)
    (cond (eqb s 4) (in_enhance b)
    (cond (eqb s 5) (in_other b)
    (goes_to rest 0)))))))

-- a byte counts modulo 128
unfoldable pub decided : ℕ → Number → ℕ → Step
decided s n byte = decided_at s n (byte % 128)
