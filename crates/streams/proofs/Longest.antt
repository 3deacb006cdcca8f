-- From a sound world no reply is longer than an emptied reply buffer of rows × 160 bytes, so a call with one takes a byte or is done. Assumes nothing.
use Prim.Native.Nat.{ℕ, ◌+◌, ◌-◌, ◌*◌, ◌≤◌, ◌<◌}
use mathlib.Core.Path.{◌≡◌, sym, ◌∙◌}
use mathlib.Core.Logic.{◌⊎◌}
use mathlib.Core.List.{List, [], ◌∷◌}
use native.Mathlib.Omega.{arith}
use lib.ListN.{length}
use lib.Dec.{leb, eqb}
use borrow.Author.Tests.{leb-true, leb-false}
use Rattle.cells.specs.Memory.{written}
use Rattle.reading.specs.Action as Action
use Rattle.reading.proofs.Rules.{either}
use Rattle.replies.proofs.Longest.{cursor-length, status-length, block-longest}
use Rattle.cells.proofs.Choices.{choose-by}
use Rattle.terminal.specs.State.{World, Sound}
use Rattle.streams.specs.Streams.{action_for, pending_reply, reply_to, answer_to, stepped, Hosted, fed_on, fed}
use Rattle.streams.proofs.Streams.{fed_on-counts, step_fits}
use Rattle.streams.proofs.Steps.{fed-on}
use Rattle.streams.proofs.Kept.{fed_on-number}

module _ {rows : ℕ} {w : World} (s : Sound rows w) where
  pub reply-longest : (a : ℕ) → length (reply_to a w) ≤ rows * 160
  unfolding reply_to pending_reply
  reply-longest a =
      let P : List ℕ → Type 0 = λ xs. length xs ≤ rows * 160 in
      let t = w.state in
      let c = t.cursor in
      let room : c.row < rows = omega (arith, s.good.place) in
      either P (eqb a Action.ack) (omega arith)
      (either P (eqb a Action.trigger)
      (either P (eqb t.pending 1) (omega (arith, cursor-length c.col c.row 82))
      (either P (eqb t.pending 2) (omega (arith, cursor-length c.col (c.row - c.top) 89))
      (either P (eqb t.pending 3) (omega (arith, status-length t.format t.insert t.lock))
      (either P (eqb t.pending 4) (omega (arith, block-longest w.chars c.row (omega (arith, s.chars_long)) t.format w.attrs (s.chars_long ∙ sym s.attrs_long), s.chars_long)) (omega arith)))))
      (omega arith))

  pub answer-longest : (byte : ℕ) → length (answer_to byte w) ≤ rows * 160
  unfolding answer_to
  answer-longest byte = reply-longest (action_for w.state byte)

  on-takes : (bytes reply : List ℕ) → length reply ≡ rows * 160 → (fed_on rows bytes 0 0 w reply).number ≡ 7 → 0 < (fed_on rows bytes 0 0 w reply).taken
  unfolding fed_on
  on-takes [] reply l = λ z. absurd (omega arith)
  on-takes (b ∷ bs) reply l =
      choose-by (λ (h : Hosted). h.number ≡ 7 → 0 < h.taken) (leb (0 + length (answer_to b w)) (length reply))
      (λ t _.
      let fits = step_fits 0 b w reply (leb-true (0 + length (answer_to b w)) (length reply) t) in
      omega (arith, (fed_on-counts rows bs (0 + 1) (0 + length (answer_to b w)) (stepped rows b w) (written reply 0 (answer_to b w)) fits).taken-from))
      (λ t. absurd (omega (arith, leb-false (0 + length (answer_to b w)) (length reply) t, answer-longest b)))

  -- a call that does not take all takes at least one byte; its number is 0 or 7
  pub fed-takes : (bytes reply : List ℕ) → length reply ≡ rows * 160 → (fed rows w bytes reply).number ≡ 7 → 0 < (fed rows w bytes reply).taken
  fed-takes bytes reply l = rw (fed-on s bytes reply) (on-takes bytes reply l)

  pub fed-number : (bytes reply : List ℕ) → ((fed rows w bytes reply).number ≡ 0) ⊎ ((fed rows w bytes reply).number ≡ 7)
  fed-number bytes reply = rw (fed-on s bytes reply) (fed_on-number rows bytes 0 0 w reply)
