-- The promises of sessions: each line is given as the table says, a good state stays good, parts print what all would, and each contract leaves no choice. Assumes
-- nothing.
use Prim.Native.Nat.{ℕ, zero, suc, ◌+◌, ◌≤◌, ◌<◌, min}
use mathlib.Core.Path.{◌≡◌, refl, ◌∙◌}
use mathlib.Core.List.{List, [], ◌∷◌}
use native.Mathlib.Omega.{arith}
use lib.ListN.{length, get_or}
use Rattle.terminal.specs.State.{World, fresh_world, Good}
use Rattle.terminal.proofs.Good.{fresh-sound}
use Rattle.records.specs.Records.{record_ran}
use Rattle.records.proofs.Answered.{record-good}
use Rattle.records.proofs.Once.{part_once, ran-once}
use Rattle.sessions.specs.Session.{split, next, Line, went, session}
use Rattle.sessions.proofs.Resuming.{resumed}
use Rattle.sessions.proofs.Once.{lines_once, end_once}
use Rattle.promises.specs.Sessions.{PartOnce, RecordOnce, LinesOnce, EndOnce, Lined, SessionLines, SessionNumbered, SessionGood, SessionInParts}
use Rattle.promises.proofs.Refusals.{good_stays}
use Rattle.promises.proofs.Records.{record_numbers}

-- ---- lines
module _ (rows : ℕ) (some : 24 ≤ rows) (few : rows ≤ 96) where
  lined : (rs : List (List ℕ)) (number : ℕ) (w : World) → Lined rows number w rs (went rows number w rs).lines
  unfolding went
  lined [] number w = refl
  lined (r ∷ rs) number w = (refl, (record_numbers rows some few w r (record_ran rows w r).answer).0 refl, refl, lined rs (next number) (record_ran rows w r).world)

  pub session_lines : SessionLines rows
  unfolding session
  session_lines bytes = lined (split bytes) 0 (fresh_world rows)

  went-good : (rs : List (List ℕ)) (number : ℕ) (w : World) → Good rows w.state → Good rows (went rows number w rs).world.state
  unfolding went
  went-good [] number w g = g
  went-good (r ∷ rs) number w g = went-good rs (next number) (record_ran rows w r).world (record-good rows few r w g)

  pub session_good : SessionGood rows
  unfolding session
  session_good = (
    λ number w rs g. good_stays rows few [] (went rows number w rs).world (went-good rs number w g),
    λ bytes. good_stays rows few [] (went rows 0 (fresh_world rows) (split bytes)).world (went-good (split bytes) 0 (fresh_world rows) (fresh-sound some few).good),
  )

numbered : (rows : ℕ) (rs : List (List ℕ)) (number : ℕ) (w : World) (i : ℕ) (l : Line) → number ≤ 18446744073709551615 → i < length (went rows number w rs).lines
    → (get_or (went rows number w rs).lines i l).number ≡ min (number + i) 18446744073709551615
unfolding went
numbered rows [] number w i l m h = absurd (omega arith)
numbered rows (r ∷ rs) number w zero l m h = omega arith
numbered rows (r ∷ rs) number w (suc i) l m h =
    let e : min (next number + i) 18446744073709551615 ≡ min (number + suc i) 18446744073709551615 = omega arith in
    numbered rows rs (next number) (record_ran rows w r).world i l (omega arith) (omega arith) ∙ e

module _ (rows : ℕ) where
  pub session_numbered : SessionNumbered rows
  unfolding session
  session_numbered bytes i l h = numbered rows (split bytes) 0 (fresh_world rows) i l (omega arith) h ∙ omega arith

  pub session_in_parts : SessionInParts rows
  session_in_parts number w part more room o = resumed rows number w part more room o

  -- ---- each contract leaves no choice
  pub part-is-once : PartOnce rows
  part-is-once w bytes at reply r q c c' a a' o o' x y = let s = part_once x y in (s.0.answer, s.0.chars-same, s.0.attrs-same, s.1)

  pub record-is-once : RecordOnce rows
  record-is-once w bytes r q c c' a a' x y = let s = ran-once x y in (s.answer, s.chars-same, s.attrs-same)

  pub lines-is-once : LinesOnce rows
  lines-is-once w number bytes lines r q c c' a a' o o' x y = let s = lines_once x y in (s.0.answer, s.0.chars-same, s.0.attrs-same, s.1)

pub end-is-once : EndOnce
end-is-once c line n m o o' x y = end_once x y
