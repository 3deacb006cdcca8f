-- A stream in closed form: the bytes stepped one after the other, their answers written one after the other; a stream cut anywhere is the same. Assumes nothing.
use Prim.Native.Nat.{ℕ, ◌+◌, ◌-◌, ◌≤◌}
use mathlib.Core.Path.{◌≡◌, refl, ap, sym, ◌∙◌}
use mathlib.Core.List.{List, [], ◌∷◌, ◌++◌, append_assoc}
use native.Mathlib.Omega.{arith}
use lib.ListN.{length, take, length-append}
use lib.Dec.{leb}
use borrow.Author.Tests.{leb-true, le-leb}
use Rattle.cells.specs.Memory.{written}
use Rattle.cells.proofs.Splice.{length-written, written_none, written_twice}
use Rattle.cells.proofs.Choices.{choose-by}
use Rattle.terminal.specs.State.{World, Sound}
use Rattle.terminal.specs.Refusals.{first_refusal}
use Rattle.terminal.proofs.Good.{in-sound}
use Rattle.streams.specs.Streams.{stepped, answer_to, Hosted, hosted, fed_on, host_refusal, fed}
use Rattle.streams.proofs.Kept.{stepped-sound}
use Rattle.streams.proofs.Streams.{step_fits, fed_on-taken}

-- ---- the world after the bytes, and all that they send
unfoldable pub stepped_on : ℕ → List ℕ → World → World
stepped_on rows [] w = w
stepped_on rows (b ∷ bs) w = stepped_on rows bs (stepped rows b w)

unfoldable pub answers_to : ℕ → List ℕ → World → List ℕ
answers_to rows [] w = []
answers_to rows (b ∷ bs) w = answer_to b w ++ answers_to rows bs (stepped rows b w)

-- two streams one after the other
pub stepped-append : (rows : ℕ) (xs ys : List ℕ) (w : World) → stepped_on rows (xs ++ ys) w ≡ stepped_on rows ys (stepped_on rows xs w)
unfolding stepped_on
stepped-append rows [] ys w = refl
stepped-append rows (b ∷ xs) ys w = stepped-append rows xs ys (stepped rows b w)

pub answers-append : (rows : ℕ) (xs ys : List ℕ) (w : World) → answers_to rows (xs ++ ys) w ≡ answers_to rows xs w ++ answers_to rows ys (stepped_on rows xs w)
unfolding answers_to stepped_on
answers-append rows [] ys w = refl
answers-append rows (b ∷ xs) ys w = ap (λ (r : List ℕ). answer_to b w ++ r) (answers-append rows xs ys (stepped rows b w)) ∙ sym (append_assoc (answer_to b w) _ _)

pub stepped_on-sound : {rows : ℕ} {w : World} → Sound rows w → (bytes : List ℕ) → Sound rows (stepped_on rows bytes w)
unfolding stepped_on
stepped_on-sound {rows = rows} {w = w} s [] = s
stepped_on-sound {rows = rows} {w = w} s (b ∷ bs) = stepped_on-sound {w = stepped rows b w} (stepped-sound s b) bs

-- ---- what a stream leaves that is taken whole
abbrev pub wholly_fed : ℕ → List ℕ → ℕ → ℕ → World → List ℕ → Hosted
wholly_fed rows bytes taken sent w reply =
    hosted 0 (taken + length bytes) (sent + length (answers_to rows bytes w)) (stepped_on rows bytes w) (written reply sent (answers_to rows bytes w))

-- no byte
whole-none : (rows taken sent : ℕ) (w : World) (reply : List ℕ) → hosted 0 taken sent w reply ≡ wholly_fed rows [] taken sent w reply
unfolding answers_to stepped_on
whole-none rows taken sent w reply =
    let p : taken ≡ taken + 0 = omega arith in
    let q : sent ≡ sent + 0 = omega arith in
    cc (p, q, written_none reply sent)

module _ (rows b : ℕ) (bs : List ℕ) (taken sent : ℕ) (w : World) (reply : List ℕ) (l : sent ≤ length reply) where
  -- one byte, and then the others
  whole-step : wholly_fed rows bs (taken + 1) (sent + length (answer_to b w)) (stepped rows b w) (written reply sent (answer_to b w)) ≡ wholly_fed rows (b ∷ bs) taken sent w reply
  unfolding answers_to stepped_on
  whole-step =
      let p : taken + 1 + length bs ≡ taken + length (b ∷ bs) = omega arith in
      let out = answers_to rows bs (stepped rows b w) in
      let q : sent + length (answer_to b w) + length out ≡ sent + length (answer_to b w ++ out) = simp length-append (omega arith) in
      cc (p, q, written_twice reply sent (answer_to b w) out l)

-- where the answers fit, the stream is taken whole
pub fed_on-wholly : (rows : ℕ) (bytes : List ℕ) (taken sent : ℕ) (w : World) (reply : List ℕ) → sent + length (answers_to rows bytes w) ≤ length reply → fed_on rows bytes taken sent w reply ≡ wholly_fed rows bytes taken sent w reply
unfolding fed_on answers_to stepped_on
fed_on-wholly rows [] taken sent w reply l = whole-none rows taken sent w reply
fed_on-wholly rows (b ∷ bs) taken sent w reply l =
    let n = length-append (answer_to b w) (answers_to rows bs (stepped rows b w)) in
    let fits : sent + length (answer_to b w) ≤ length reply = omega arith in
    let m : sent + length (answer_to b w) + length (answers_to rows bs (stepped rows b w)) ≤ length (written reply sent (answer_to b w)) = omega (arith, length-written reply sent (answer_to b w) fits) in
    rw (le-leb (sent + length (answer_to b w)) (length reply) fits)
    (fed_on-wholly rows bs (taken + 1) (sent + length (answer_to b w)) (stepped rows b w) (written reply sent (answer_to b w)) m
    ∙ whole-step rows b bs taken sent w reply (omega arith))

-- a stream that answers 0 was taken whole
pub fed_on-done : (rows : ℕ) (bytes : List ℕ) (taken sent : ℕ) (w : World) (reply : List ℕ) → sent ≤ length reply → (fed_on rows bytes taken sent w reply).number ≡ 0 → fed_on rows bytes taken sent w reply ≡ wholly_fed rows bytes taken sent w reply
unfolding fed_on answers_to stepped_on
fed_on-done rows [] taken sent w reply l = λ _. whole-none rows taken sent w reply
fed_on-done rows (b ∷ bs) taken sent w reply l =
    choose-by (λ (h : Hosted). h.number ≡ 0 → h ≡ wholly_fed rows (b ∷ bs) taken sent w reply) (leb (sent + length (answer_to b w)) (length reply))
    (λ t e.
    fed_on-done rows bs (taken + 1) (sent + length (answer_to b w)) (stepped rows b w) (written reply sent (answer_to b w)) (step_fits sent b w reply (leb-true _ _ t)) e
    ∙ whole-step rows b bs taken sent w reply l)
    (λ _ e. absurd (omega arith))

-- ---- what any stream leaves: the bytes taken, stepped, and their answers, written
pub record Taken (rows : ℕ) (bytes : List ℕ) (w : World) (reply : List ℕ) (h : Hosted) : Type 0 where
  pub world_is : h.world ≡ stepped_on rows (take h.taken bytes) w
  pub written_is : h.written ≡ length (answers_to rows (take h.taken bytes) w)
  pub reply-is : h.reply ≡ written reply 0 (answers_to rows (take h.taken bytes) w)

pub fed_on-is : (rows : ℕ) (bytes : List ℕ) (w : World) (reply : List ℕ) → Taken rows bytes w reply (fed_on rows bytes 0 0 w reply)
fed_on-is rows bytes w reply =
    let h = fed_on rows bytes 0 0 w reply in
    let z : h.taken - 0 ≡ h.taken = omega arith in
    let a = rw z at (fed_on-taken rows bytes 0 0 w reply (omega arith)) in
    let e = sym a ∙ fed_on-done rows (take h.taken bytes) 0 0 w reply (omega arith) (ap (λ (k : Hosted). k.number) a) in
    record {
      world_is = ap (λ (k : Hosted). k.world) e;
      written_is = ap (λ (k : Hosted). k.written) e ∙ omega arith;
      reply-is = ap (λ (k : Hosted). k.reply) e;
    }

-- a call on a sound world runs the stream
pub fed-on : {rows : ℕ} {w : World} → Sound rows w → (bytes reply : List ℕ) → fed rows w bytes reply ≡ fed_on rows bytes 0 0 w reply
unfolding fed host_refusal first_refusal
fed-on s bytes reply = let t = in-sound s in rw (t.0, t.1)
