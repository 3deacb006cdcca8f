-- The replies (document 01, 'Replies'), byte by byte. Assumes nothing.
use Rattle.std.specs.Prelude.{ℕ, suc, ◌+◌, ◌*◌, ◌/◌, ◌%◌, Bool, true, false, cond, List, [], ◌∷◌, ◌++◌, map, Option, Some, None}
use Rattle.std.proofs.Math.Seq.{slice}
use Rattle.cells.specs.Search.{last_in, all_of}
use Rattle.fields.specs.Fields.{marks, is_in, field_end, non_blank}

-- three digits
unfoldable pub digits : ℕ → List ℕ
digits n = (48 + n / 100 % 10) ∷ (48 + n / 10 % 10) ∷ (48 + n % 10) ∷ []

-- ESC & a, three digits of column, c, three of row, R (82) or Y (89), CR
unfoldable pub cursor_reply : ℕ → ℕ → ℕ → List ℕ
cursor_reply col row letter = 27 ∷ 38 ∷ 97 ∷ (digits col ++ (99 ∷ (digits row ++ (letter ∷ 13 ∷ []))))

-- ESC, byte 92, then 48 + format + 2 × insert + 4 × host lock, six bytes 48, CR
abbrev pub bit : Bool → ℕ
bit b = cond b 1 0

unfoldable pub status_reply : Bool → Bool → Bool → List ℕ
status_reply format insert lock = 27 ∷ 92 ∷ (48 + bit format + 2 * bit insert + 4 * bit lock) ∷ 48 ∷ 48 ∷ 48 ∷ 48 ∷ 48 ∷ 48 ∷ 13 ∷ []

-- ---- block, format on: every field of marks 1 to 4 in reading order, whole, byte 31 between, byte 30 last.
-- The text of a field: its characters from its start up to its end
unfoldable pub field_text : List ℕ → List ℕ → ℕ → List ℕ
field_text chars ms start = slice start (field_end ms start) chars

-- texts with byte 31 between
unfoldable pub joined : List (List ℕ) → List ℕ
joined [] = []
joined (t ∷ []) = t
joined (t ∷ (u ∷ ts)) = t ++ (31 ∷ joined (u ∷ ts))

unfoldable pub fields_reply : List ℕ → List ℕ → List ℕ
fields_reply chars attrs = joined (map (field_text chars (marks attrs)) (all_of (is_in 4) 0 (marks attrs))) ++ (30 ∷ [])

-- ---- block, format off: the cursor row through its last non-blank, CR
abbrev pub through : ℕ → Option ℕ → ℕ
through from (Some k) = suc k
through from None = from

unfoldable pub row_reply : List ℕ → ℕ → List ℕ
row_reply chars row = slice (row * 80) (through (row * 80) (last_in non_blank chars (row * 80) (row * 80 + 80))) chars ++ (13 ∷ [])

unfoldable pub block_reply : Bool → List ℕ → List ℕ → ℕ → List ℕ
block_reply true chars attrs row = fields_reply chars attrs
block_reply false chars attrs row = row_reply chars row
