-- All of the cases hold: the checker computes them, part by part. Assumes nothing.
use Prim.Native.Nat.{ℕ, ◌+◌}
use mathlib.Core.Path.{◌≡◌, refl}
use mathlib.Core.Bool.{Bool, true, false}
use mathlib.Core.List.{List, [], ◌∷◌, ◌++◌}
use native.Mathlib.Omega.{arith}
use Rattle.cases.proofs.Rules.{rules}
use Rattle.cases.specs.Cases.{same, same_stops, same_state, same_memory, same_world, stands_at, start, room, after, gives, types, takes, refuses, laid, holds_only, clears, reported_on, listed_rows, tells, later, document_cases, weight_cases, clear_cases, place_cases, change_cases, cases, failing, CasesHold}

-- that no case of a list fails does not turn on the number of its first; and where none fails of two lists, none fails of both
failing-from : (bs : List Bool) (i j : ℕ) → failing i bs ≡ [] → failing j bs ≡ []
unfolding failing
failing-from [] i j e = refl
failing-from (true ∷ bs) i j e = failing-from bs (i + 1) (j + 1) e
failing-from (false ∷ bs) i j e = let z : ◌≡◌ {A = ℕ} 0 1 = cc in absurd (omega arith)

failing-both : (bs cs : List Bool) (i : ℕ) → failing i bs ≡ [] → failing 0 cs ≡ [] → failing i (bs ++ cs) ≡ []
unfolding failing
failing-both [] cs i e f = failing-from cs 0 i f
failing-both (true ∷ bs) cs i e f = failing-both bs cs (i + 1) e f
failing-both (false ∷ bs) cs i e f = let z : ◌≡◌ {A = ℕ} 0 1 = cc in absurd (omega arith)

-- what the cases compute with
unfoldable comparing : ℕ
unfolding rules same same_stops same_state same_memory same_world stands_at start room after gives types takes refuses laid holds_only clears reported_on listed_rows tells later failing
comparing = 0

-- all hold where those of each part do
cases_by : (rows : ℕ) → failing 0 (document_cases rows) ≡ [] → failing 0 (weight_cases rows) ≡ [] → failing 0 (clear_cases rows) ≡ [] → failing 0 (place_cases rows) ≡ []
    → failing 0 (change_cases rows) ≡ [] → CasesHold rows
unfolding cases
cases_by rows d w c p h =
    failing-both (document_cases rows) (weight_cases rows ++ (clear_cases rows ++ (place_cases rows ++ change_cases rows))) 0 d
    (failing-both (weight_cases rows) (clear_cases rows ++ (place_cases rows ++ change_cases rows)) 0 w
    (failing-both (clear_cases rows) (place_cases rows ++ change_cases rows) 0 c (failing-both (place_cases rows) (change_cases rows) 0 p h)))

-- ---- on 96 rows
document-hold-96 : failing 0 (document_cases 96) ≡ []
unfolding comparing document_cases
document-hold-96 = refl

weights-hold-96 : failing 0 (weight_cases 96) ≡ []
unfolding comparing weight_cases
weights-hold-96 = refl

clears-hold-96 : failing 0 (clear_cases 96) ≡ []
unfolding comparing clear_cases
clears-hold-96 = refl

places-hold-96 : failing 0 (place_cases 96) ≡ []
unfolding comparing place_cases
places-hold-96 = refl

changes-hold-96 : failing 0 (change_cases 96) ≡ []
unfolding comparing change_cases
changes-hold-96 = refl

pub cases-hold-96 : CasesHold 96
cases-hold-96 = cases_by 96 document-hold-96 weights-hold-96 clears-hold-96 places-hold-96 changes-hold-96

-- ---- on 48 rows
document-hold-48 : failing 0 (document_cases 48) ≡ []
unfolding comparing document_cases
document-hold-48 = refl

weights-hold-48 : failing 0 (weight_cases 48) ≡ []
unfolding comparing weight_cases
weights-hold-48 = refl

clears-hold-48 : failing 0 (clear_cases 48) ≡ []
unfolding comparing clear_cases
clears-hold-48 = refl

places-hold-48 : failing 0 (place_cases 48) ≡ []
unfolding comparing place_cases
places-hold-48 = refl

changes-hold-48 : failing 0 (change_cases 48) ≡ []
unfolding comparing change_cases
changes-hold-48 = refl

pub cases-hold-48 : CasesHold 48
cases-hold-48 = cases_by 48 document-hold-48 weights-hold-48 clears-hold-48 places-hold-48 changes-hold-48
