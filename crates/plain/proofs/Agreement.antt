-- A stream by the plain decisions is the stream by the table: one byte steps alike and sends alike, and so does a stream. Assumes nothing.
use Prim.Native.Nat.{ℕ, ◌+◌, ◌%◌}
use mathlib.Core.Path.{◌≡◌, refl, sym, ap, ◌∙◌}
use mathlib.Core.Bool.{Bool, true, false, cond}
use mathlib.Core.List.{List, [], ◌∷◌}
use lib.ListN.{length}
use lib.Dec.{leb, eqb}
use borrow.Author.Tests.{eqb-true}
use Rattle.cells.specs.Memory.{written}
use Rattle.reading.specs.declared.Number.{Number}
use Rattle.reading.specs.Action.{digit}
use Rattle.reading.specs.Reading.{counted, next_reading}
use Rattle.decisions.specs.Decisions.{Step, decided}
use Rattle.decisions.proofs.Agreement.{came_to, decided-as}
use Rattle.terminal.specs.declared.Terminal.{Terminal}
use Rattle.terminal.specs.State.{World, stated, reread}
use Rattle.terminal.specs.Acts.{switched, steered, stamps, acted}
use Rattle.terminal.specs.Noted.{noted}
use Rattle.streams.specs.Streams.{action_for, read_on, stepped_by, stepped, reply_to, answer_to, Hosted, hosted, fed_on, host_refusal, fed}
use Rattle.plain.specs.Plain.{read_of, stepped_to, plainly_stepped, plain_answer, plainly_fed_on, plainly_fed}

-- what the decisions make of a byte is what its action in the table comes to
read_as : (t : Terminal) (byte : ℕ) → decided t.reading t.number byte ≡ came_to (action_for t byte) (byte % 128) t.number
unfolding action_for
read_as t byte = decided-as t.reading t.number byte

pub action-as : (t : Terminal) (byte : ℕ) {d : Step} → d ≡ decided t.reading t.number byte → d.action ≡ action_for t byte
action-as t byte e = ap (λ (d : Step). d.action) (e ∙ read_as t byte)

-- an action leaves the number to be counted: a digit does nothing more, and what any other leaves of the number does not depend on it
counted_same : (rows a b : ℕ) (w : World) → counted a b w.state.number ≡ counted a b (acted rows a b w).state.number
unfolding counted acted steered switched stamps
counted_same rows a b w = by-digit (eqb a digit) refl
  where
    by-digit : (t : Bool) → eqb a digit ≡ t → counted a b w.state.number ≡ counted a b (acted rows a b w).state.number
    by-digit true e = rw (eqb-true a digit e)
    by-digit false e = rw e

came-step : (rows a byte : ℕ) (w : World) → stepped_to rows (came_to a (byte % 128) w.state.number) byte w ≡ stepped_by rows a byte w
unfolding stepped_to stepped_by read_on
came-step rows a byte w =
    let v = noted rows w (acted rows a (byte % 128) w) in
    ap (λ (n : Number). stated v (reread v.state (next_reading a) n)) (counted_same rows a (byte % 128) w)

pub step-as : (rows byte : ℕ) (w : World) {d : Step} → d ≡ decided w.state.reading w.state.number byte → stepped_to rows d byte w ≡ stepped_by rows d.action byte w
step-as rows byte w e =
    ap (λ (d : Step). stepped_to rows d byte w) (e ∙ read_as w.state byte)
    ∙ came-step rows (action_for w.state byte) byte w
    ∙ ap (λ (a : ℕ). stepped_by rows a byte w) (sym (action-as w.state byte e))

pub plainly-stepped : (rows byte : ℕ) (w : World) → plainly_stepped rows byte w ≡ stepped rows byte w
unfolding plainly_stepped read_of stepped
plainly-stepped rows byte w = step-as rows byte w refl ∙ ap (λ (a : ℕ). stepped_by rows a byte w) (action-as w.state byte refl)

pub plain-answer : (byte : ℕ) (w : World) → plain_answer byte w ≡ answer_to byte w
unfolding plain_answer read_of answer_to
plain-answer byte w = ap (λ (a : ℕ). reply_to a w) (action-as w.state byte refl)

plainly-on : (rows : ℕ) (bytes : List ℕ) (taken sent : ℕ) (w : World) (reply : List ℕ) → plainly_fed_on rows bytes taken sent w reply ≡ fed_on rows bytes taken sent w reply
unfolding plainly_fed_on fed_on
plainly-on rows [] taken sent w reply = refl
plainly-on rows (b ∷ bs) taken sent w reply =
    let out = answer_to b w in
    rw (plain-answer b w, plainly-stepped rows b w)
    (ap (λ (h : Hosted). cond (leb (sent + length out) (length reply)) h (hosted 7 taken sent w reply))
    (plainly-on rows bs (taken + 1) (sent + length out) (stepped rows b w) (written reply sent out)))

-- and so does a call, refused or not
pub plainly-fed : (rows : ℕ) (w : World) (bytes reply : List ℕ) → plainly_fed rows w bytes reply ≡ fed rows w bytes reply
unfolding plainly_fed fed
plainly-fed rows w bytes reply =
    let n = host_refusal rows w in
    ap (λ (h : Hosted). cond (eqb n 0) h (hosted n 0 0 w reply)) (plainly-on rows bytes 0 0 w reply)

-- what a call leaves by the one definition, it leaves by both
pub by_both : (rows : ℕ) (w : World) (bytes reply : List ℕ) {h : Hosted} → h ≡ fed rows w bytes reply → (h ≡ fed rows w bytes reply) × (h ≡ plainly_fed rows w bytes reply)
by_both rows w bytes reply e = (e, e ∙ sym (plainly-fed rows w bytes reply))
