-- What a stream answers, leaves and sends turns on the room of its reply buffer alone, not on what the buffer held. Assumes nothing.
use Prim.Native.Nat.{ℕ, ◌+◌, ◌≤◌}
use mathlib.Core.Path.{◌≡◌, refl, ap, sym, ◌∙◌}
use mathlib.Core.List.{List, [], ◌∷◌, ◌++◌}
use native.Mathlib.Omega.{arith}
use lib.ListN.{length, take}
use lib.Dec.{leb, eqb}
use borrow.Author.Tests.{leb-true}
use Rattle.cells.specs.Memory.{written}
use Rattle.cells.proofs.Splice.{length-written, take-written}
use Rattle.cells.proofs.Choices.{choose-both}
use Rattle.terminal.specs.State.{World}
use Rattle.streams.specs.Streams.{stepped, answer_to, Hosted, hosted, delivered, fed_on, host_refusal, fed}
use Rattle.streams.proofs.Streams.{step_fits}

-- the two calls answer, leave and send the same
abbrev Alike : Hosted → Hosted → Type 0
Alike h k = delivered h ≡ delivered k

fed_on-room :
    (rows : ℕ) (bytes : List ℕ) (taken sent : ℕ) (w : World) (reply other : List ℕ) → sent ≤ length reply → length reply ≡ length other → take sent reply ≡ take sent other
    → Alike (fed_on rows bytes taken sent w reply) (fed_on rows bytes taken sent w other)
unfolding fed_on
fed_on-room rows [] taken sent w reply other l e s = ap (λ (xs : List ℕ). hosted 0 taken sent w xs) s
fed_on-room rows (b ∷ bs) taken sent w reply other l e s =
    let out = answer_to b w in
    rw (← e)
    (choose-both Alike (leb (sent + length out) (length reply))
    (λ t.
    let fits : sent + length out ≤ length reply = leb-true _ _ t in
    fed_on-room rows bs (taken + 1) (sent + length out) (stepped rows b w) (written reply sent out) (written other sent out) (step_fits sent b w reply fits)
    (length-written reply sent out fits ∙ e ∙ sym (length-written other sent out (omega arith)))
    (take-written reply sent out l ∙ ap (λ (xs : List ℕ). xs ++ out) s ∙ sym (take-written other sent out (omega arith))))
    (λ _. ap (λ (xs : List ℕ). hosted 7 taken sent w xs) s))

pub fed-room : (rows : ℕ) (w : World) (bytes reply other : List ℕ) → length reply ≡ length other → delivered (fed rows w bytes reply) ≡ delivered (fed rows w bytes other)
unfolding fed
fed-room rows w bytes reply other e = choose-both Alike (eqb (host_refusal rows w) 0) (λ _. fed_on-room rows bytes 0 0 w reply other (omega arith) e refl) (λ _. refl)
