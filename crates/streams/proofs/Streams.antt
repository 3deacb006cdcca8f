-- A stream is its steps: streams one after the other, counts, what is written where, and the steps of a loop over the bytes. Assumes nothing.
use Prim.Native.Nat.{ℕ, suc, ◌+◌, ◌-◌, ◌≤◌, ◌<◌}
use mathlib.Core.Path.{◌≡◌, refl, ap, sym, ◌∙◌}
use mathlib.Core.Bool.{Bool, true, false, cond}
use mathlib.Core.List.{List, [], ◌∷◌, ◌++◌}
use native.Mathlib.Omega.{arith}
use native.Mathlib.Numerals.{add-one}
use lib.ListN.{length, take, drop, get_or, length-append}
use lib.Seq.{take-nil, take-take, drop-drop, drop-cons, drop-length}
use lib.Dec.{leb, eqb}
use borrow.Author.Tests.{leb-true, leb-false, le-leb, lt-leb}
use Rattle.cells.specs.Memory.{written}
use Rattle.cells.proofs.Splice.{length-written, take-written-before, drop-written, written_behind}
use Rattle.cells.proofs.Choices.{choose-by, choose-as}
use Rattle.terminal.specs.State.{World}
use Rattle.streams.specs.Streams.{action_for, reply_to, stepped_by, stepped, answer_to, Hosted, hosted, fed_on}

-- ---- no byte
pub fed_on-none : (rows taken sent : ℕ) (w : World) (reply : List ℕ) → fed_on rows [] taken sent w reply ≡ hosted 0 taken sent w reply
unfolding fed_on
fed_on-none rows taken sent w reply = refl

-- ---- two streams one after the other: the second begins where the first ends, unless the first stopped
unfoldable pub then_fed : ℕ → List ℕ → Hosted → Hosted
then_fed rows bytes h = cond (eqb h.number 0) (fed_on rows bytes h.taken h.written h.world h.reply) h

pub fed_on-append : (rows : ℕ) (xs ys : List ℕ) (taken sent : ℕ) (w : World) (reply : List ℕ) → fed_on rows (xs ++ ys) taken sent w reply ≡ then_fed rows ys (fed_on rows xs taken sent w reply)
unfolding fed_on then_fed
fed_on-append rows [] ys taken sent w reply = refl
fed_on-append rows (b ∷ xs) ys taken sent w reply =
    choose-as (then_fed rows ys) (leb (sent + length (answer_to b w)) (length reply)) (fed_on-append rows xs ys (taken + 1) _ _ _) refl

-- ---- behind n bytes that are taken, and reply bytes that are written, a stream leaves what it leaves in the rest of the buffer
abbrev pub behind : List ℕ → ℕ → Hosted → Hosted
behind out n h = hosted h.number (n + h.taken) (length out + h.written) h.world (out ++ h.reply)

leb-behind : (k a b : ℕ) → leb (k + a) (k + b) ≡ leb a b
leb-behind k a b = by (leb a b) refl
  where
    by : (t : Bool) → leb a b ≡ t → leb (k + a) (k + b) ≡ t
    by true t = le-leb (k + a) (k + b) (omega (arith, leb-true a b t))
    by false t = lt-leb (k + a) (k + b) (omega (arith, leb-false a b t))

pub fed_on-behind : (rows : ℕ) (out : List ℕ) (n : ℕ) (bytes : List ℕ) (taken sent : ℕ) (w : World) (reply : List ℕ)
    → fed_on rows bytes (n + taken) (length out + sent) w (out ++ reply) ≡ behind out n (fed_on rows bytes taken sent w reply)
unfolding fed_on
fed_on-behind rows out n [] taken sent w reply = refl
fed_on-behind rows out n (b ∷ bs) taken sent w reply =
    let bytes = answer_to b w in
    let e : n + taken + 1 ≡ n + (taken + 1) = omega arith in
    let s : length out + sent + length bytes ≡ length out + (sent + length bytes) = omega arith in
    rw (s, e, length-append out reply, leb-behind (length out) (sent + length bytes) (length reply), written_behind out reply sent bytes)
    (choose-as (behind out n) (leb (sent + length bytes) (length reply))
    (fed_on-behind rows out n bs (taken + 1) (sent + length bytes) (stepped rows b w) (written reply sent bytes)) refl)

-- a reply that fits still fits when it is written
pub step_fits : (sent b : ℕ) (w : World) (reply : List ℕ) → sent + length (answer_to b w) ≤ length reply → sent + length (answer_to b w) ≤ length (written reply sent (answer_to b w))
step_fits sent b w reply fits = omega (arith, length-written reply sent (answer_to b w) fits)

-- ---- what a stream leaves of `bytes` and of the reply, from `taken` and `sent` on
pub record Counts (bytes : List ℕ) (taken sent : ℕ) (reply : List ℕ) (h : Hosted) : Type 0 where
  pub taken-from : taken ≤ h.taken
  pub taken-upto : h.taken ≤ taken + length bytes
  pub sent-from : sent ≤ h.written
  pub sent-upto : h.written ≤ length reply
  pub reply-long : length h.reply ≡ length reply
  pub before : take sent h.reply ≡ take sent reply
  pub after : drop h.written h.reply ≡ drop h.written reply
  pub all-taken : h.number ≡ 0 → h.taken ≡ taken + length bytes
  pub stopped : h.number ≡ 7 → h.taken < taken + length bytes

pub fed_on-counts : (rows : ℕ) (bytes : List ℕ) (taken sent : ℕ) (w : World) (reply : List ℕ) → sent ≤ length reply → Counts bytes taken sent reply (fed_on rows bytes taken sent w reply)
unfolding fed_on
fed_on-counts rows [] taken sent w reply l =
    record {
      taken-from = omega arith;
      taken-upto = omega arith;
      sent-from = omega arith;
      sent-upto = l;
      reply-long = refl;
      before = refl;
      after = refl;
      all-taken = λ _. omega arith;
      stopped = λ e. absurd (omega arith);
    }
fed_on-counts rows (b ∷ bs) taken sent w reply l =
    choose-by (Counts (b ∷ bs) taken sent reply) (leb (sent + length (answer_to b w)) (length reply))
    (λ t. let fits = leb-true (sent + length (answer_to b w)) (length reply) t in
    more fits (fed_on-counts rows bs (taken + 1) (sent + length (answer_to b w)) (stepped rows b w) (written reply sent (answer_to b w)) (step_fits sent b w reply fits)))
    (λ _. record {
      taken-from = omega arith;
      taken-upto = omega arith;
      sent-from = omega arith;
      sent-upto = l;
      reply-long = refl;
      before = refl;
      after = refl;
      all-taken = λ e. absurd (omega arith);
      stopped = λ _. omega arith;
    })
  where
    more : {h : Hosted} → sent + length (answer_to b w) ≤ length reply → Counts bs (taken + 1) (sent + length (answer_to b w)) (written reply sent (answer_to b w)) h → Counts (b ∷ bs) taken sent reply h
    more {h} fits r =
        let out = answer_to b w in
        let n = length-written reply sent out fits in
        let gap : sent + length out + (h.written - (sent + length out)) ≡ h.written = omega (arith, r.sent-from) in
        record {
          taken-from = omega (arith, r.taken-from);
          taken-upto = omega (arith, r.taken-upto);
          sent-from = omega (arith, r.sent-from);
          sent-upto = omega (arith, r.sent-upto, n);
          reply-long = r.reply-long ∙ n;
          before =
              sym (take-take sent (sent + length out) h.reply (omega arith))
              ∙ ap (take sent) r.before
              ∙ take-take sent (sent + length out) (written reply sent out) (omega arith)
              ∙ take-written-before reply sent out l sent (omega arith);
          after =
              r.after
              ∙ ap (λ (k : ℕ). drop k (written reply sent out)) (sym gap)
              ∙ sym (drop-drop (h.written - (sent + length out)) (sent + length out) (written reply sent out))
              ∙ ap (drop (h.written - (sent + length out))) (drop-written reply sent out l)
              ∙ drop-drop (h.written - (sent + length out)) (sent + length out) reply
              ∙ ap (λ (k : ℕ). drop k reply) gap;
          all-taken = λ e. omega (arith, r.all-taken e);
          stopped = λ e. omega (arith, r.stopped e);
        }

-- ---- what a stream leaves is what the bytes that it took leave, alone
abbrev pub finished : Hosted → Hosted
finished h = hosted 0 h.taken h.written h.world h.reply

pub fed_on-taken : (rows : ℕ) (bytes : List ℕ) (taken sent : ℕ) (w : World) (reply : List ℕ) → sent ≤ length reply → fed_on rows (take ((fed_on rows bytes taken sent w reply).taken - taken) bytes) taken sent w reply ≡ finished (fed_on rows bytes taken sent w reply)
unfolding fed_on
fed_on-taken rows [] taken sent w reply l = ap (λ (xs : List ℕ). fed_on rows xs taken sent w reply) (take-nil (taken - taken))
fed_on-taken rows (b ∷ bs) taken sent w reply l =
    let out = answer_to b w in
    let more = fed_on rows bs (taken + 1) (sent + length out) (stepped rows b w) (written reply sent out) in
    choose-by (λ (h : Hosted). fed_on rows (take (h.taken - taken) (b ∷ bs)) taken sent w reply ≡ finished h) (leb (sent + length out) (length reply))
    (λ t.
    let m : sent + length out ≤ length (written reply sent out) = step_fits sent b w reply (leb-true _ _ t) in
    let c = fed_on-counts rows bs (taken + 1) (sent + length out) (stepped rows b w) (written reply sent out) m in
    let e : more.taken - taken ≡ suc (more.taken - (taken + 1)) = omega (arith, c.taken-from) in
    ap (λ (n : ℕ). fed_on rows (take n (b ∷ bs)) taken sent w reply) e
    ∙ rw t (fed_on-taken rows bs (taken + 1) (sent + length out) (stepped rows b w) (written reply sent out) m))
    (λ _. let e : taken - taken ≡ 0 = omega arith in ap (λ (n : ℕ). fed_on rows (take n (b ∷ bs)) taken sent w reply) e)

-- 7 stops before the byte whose reply does not fit
pub fed_on-full : (rows : ℕ) (bytes : List ℕ) (taken sent : ℕ) (w : World) (reply : List ℕ) → sent ≤ length reply → let h = fed_on rows bytes taken sent w reply in h.number ≡ 7 → length reply < h.written + length (answer_to (get_or bytes (h.taken - taken) 0) h.world)
unfolding fed_on
fed_on-full rows [] taken sent w reply l = λ z. absurd (omega arith)
fed_on-full rows (b ∷ bs) taken sent w reply l =
    let out = answer_to b w in
    let more = fed_on rows bs (taken + 1) (sent + length out) (stepped rows b w) (written reply sent out) in
    choose-by (λ (h : Hosted). h.number ≡ 7 → length reply < h.written + length (answer_to (get_or (b ∷ bs) (h.taken - taken) 0) h.world))
    (leb (sent + length out) (length reply))
    (λ t z.
    let fits : sent + length out ≤ length reply = leb-true _ _ t in
    let m : sent + length out ≤ length (written reply sent out) = step_fits sent b w reply fits in
    let c = fed_on-counts rows bs (taken + 1) (sent + length out) (stepped rows b w) (written reply sent out) m in
    let e : more.taken - taken ≡ suc (more.taken - (taken + 1)) = omega (arith, c.taken-from) in
    let i = fed_on-full rows bs (taken + 1) (sent + length out) (stepped rows b w) (written reply sent out) m z in
    rw (← length-written reply sent out fits, e) i)
    (λ t z. let e : taken - taken ≡ 0 = omega arith in rw e (leb-false _ _ t))

-- ---- the steps of a loop over the bytes, at byte i
module _ (rows : ℕ) (bytes : List ℕ) (i at : ℕ) (w : World) (reply : List ℕ) {a : ℕ} (h : i < length bytes) (e : a ≡ action_for w.state (get_or bytes i 0)) where
  -- a byte whose reply fits
  pub fed_on-turn : {at' : ℕ} {w' : World} {reply' : List ℕ} → at + length (reply_to a w) ≤ length reply → at' ≡ at + length (reply_to a w) → w' ≡ stepped_by rows a (get_or bytes i 0) w → reply' ≡ written reply at (reply_to a w) → fed_on rows (drop (i + 1) bytes) (i + 1) at' w' reply' ≡ fed_on rows (drop i bytes) i at w reply
  unfolding fed_on answer_to stepped
  fed_on-turn l p q r =
      let t = le-leb _ _ (rw e at l) in
      rw (p, q, r, e, drop-cons bytes i 0 h, add-one i, t)

  -- a byte whose reply does not fit
  pub fed_on-stop : length reply < at + length (reply_to a w) → hosted 7 i at w reply ≡ fed_on rows (drop i bytes) i at w reply
  unfolding fed_on answer_to
  fed_on-stop l = let t = lt-leb _ _ (rw e at l) in rw (drop-cons bytes i 0 h, t)

-- past the last byte
pub fed_on-end : (rows : ℕ) (bytes : List ℕ) (i at : ℕ) (w : World) (reply : List ℕ) → i ≡ length bytes → hosted 0 i at w reply ≡ fed_on rows (drop i bytes) i at w reply
unfolding fed_on
fed_on-end rows bytes i at w reply e = rw (ap (λ (n : ℕ). drop n bytes) e ∙ drop-length bytes)
