-- Document 01's own session ('Session program'): its three records print what the document says. Assumes nothing.
use Rattle.std.specs.Prelude.{ℕ, ◌≡◌, List, [], ◌∷◌, ◌++◌, replicate}
use Rattle.sessions.specs.Session.{session_text}

-- H `ESC [ ESC &a4C ESC ] ESC W`, P field 0 `T17`, H `ESC d DC1`
abbrev pub three_records : List ℕ
three_records =
    (72 ∷ 11 ∷ 0 ∷ 0 ∷ 27 ∷ 91 ∷ 27 ∷ 38 ∷ 97 ∷ 52 ∷ 67 ∷ 27 ∷ 93 ∷ 27 ∷ 87 ∷ replicate 69 0)
    ++ ((80 ∷ 3 ∷ 0 ∷ 0 ∷ 84 ∷ 49 ∷ 55 ∷ replicate 77 0)
    ++ (72 ∷ 3 ∷ 0 ∷ 0 ∷ 27 ∷ 100 ∷ 17 ∷ replicate 77 0))

-- 0 0 0, 1 0 0, 2 0 5, end 0 4 0
abbrev pub four_lines : List ℕ
four_lines =
    48 ∷ 32 ∷ 48 ∷ 32 ∷ 48 ∷ 10
    ∷ 49 ∷ 32 ∷ 48 ∷ 32 ∷ 48 ∷ 10
    ∷ 50 ∷ 32 ∷ 48 ∷ 32 ∷ 53 ∷ 10
    ∷ 101 ∷ 110 ∷ 100 ∷ 32 ∷ 48 ∷ 32 ∷ 52 ∷ 32 ∷ 48 ∷ 10 ∷ []

abbrev pub SessionExample : ℕ → Type 0
SessionExample rows = session_text rows three_records ≡ four_lines
