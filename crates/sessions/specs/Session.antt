-- A session of any bytes (document 01, 'Session program'): its records, their lines, and the end line. Assumes nothing.
use Rattle.std.specs.Prelude.{ℕ, zero, suc, ◌+◌, ◌/◌, ◌%◌, min, cond, List, [], ◌∷◌, ◌++◌, length, take, drop, ltb}
use Rattle.cursor.specs.declared.Cursor.{Cursor}
use Rattle.terminal.specs.State.{World, fresh_world}
use Rattle.records.specs.Records.{record_ran}

-- the records: parts of 84 bytes, and a last part under 84 bytes if there is one. Each has at least one byte, so as many steps as there are bytes are enough
unfoldable pub split_in : ℕ → List ℕ → List (List ℕ)
split_in zero bytes = []
split_in (suc steps) [] = []
split_in (suc steps) (b ∷ bytes) = take 84 (b ∷ bytes) ∷ split_in steps (drop 84 (b ∷ bytes))

unfoldable pub split : List ℕ → List (List ℕ)
split bytes = split_in (length bytes) bytes

-- the number of the next record. It stays at 2⁶⁴ - 1, which no file reaches: its records would have 84 × 2⁶⁴ bytes
abbrev pub next : ℕ → ℕ
next number = min (number + 1) 18446744073709551615

-- per record: record number, answer, reply bytes
pub record Line : Type 0 where
  pub number : ℕ
  pub answer : ℕ
  pub replied : ℕ

-- what running records one after the other leaves: their lines, the number of the next record, and the terminal
pub record Went : Type 0 where
  pub lines : List Line
  pub number : ℕ
  pub world : World

unfoldable pub went : ℕ → ℕ → World → List (List ℕ) → Went
went rows number w [] = record { lines = []; number = number; world = w }
went rows number w (r ∷ rs) =
    let x = record_ran rows w r in
    let v = went rows (next number) x.world rs in
    record { lines = record { number = number; answer = x.answer; replied = x.replied } ∷ v.lines; number = v.number; world = v.world }

-- from a fresh terminal, numbered from 0
unfoldable pub session : ℕ → List ℕ → Went
session rows bytes = went rows 0 (fresh_world rows) (split bytes)

-- ---- as text

-- a number in decimal: the fewest digits, the most significant first. More steps than the number has digits are enough
unfoldable pub decimal_in : ℕ → ℕ → List ℕ
decimal_in zero n = []
decimal_in (suc steps) n = cond (ltb n 10) ((48 + n) ∷ []) (decimal_in steps (n / 10) ++ ((48 + n % 10) ∷ []))

unfoldable pub decimal : ℕ → List ℕ
decimal n = decimal_in (suc n) n

-- three numbers with single spaces between, and a line feed
unfoldable pub three : ℕ → ℕ → ℕ → List ℕ
three a b c = (decimal a ++ (32 ∷ [])) ++ ((decimal b ++ (32 ∷ [])) ++ (decimal c ++ (10 ∷ [])))

unfoldable pub lines_text : List Line → List ℕ
lines_text [] = []
lines_text (l ∷ ls) = three l.number l.answer l.replied ++ lines_text ls

-- the word `end`, row, column, top
unfoldable pub end_text : Cursor → List ℕ
end_text c = 101 ∷ 110 ∷ 100 ∷ 32 ∷ three c.row c.col c.top

-- what records print from a number and a terminal on: their lines, then the end line
unfoldable pub printed : ℕ → ℕ → World → List (List ℕ) → List ℕ
printed rows number w rs =
    let v = went rows number w rs in
    lines_text v.lines ++ end_text v.world.state.cursor

-- what the session program prints
unfoldable pub session_text : ℕ → List ℕ → List ℕ
session_text rows bytes = printed rows 0 (fresh_world rows) (split bytes)
