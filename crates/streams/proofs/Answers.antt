-- What each action and each pending transfer sends, by its number. Assumes nothing.
use Prim.Native.Nat.{ℕ, ◌-◌, ◌≤◌}
use mathlib.Core.Path.{◌≡◌, ap, ◌∙◌}
use mathlib.Core.Logic.{inl, inr}
use mathlib.Core.List.{[], ◌∷◌}
use native.Mathlib.Omega.{arith}
use lib.ListN.{length}
use borrow.Author.Tests.{ne_eqb}
use Rattle.cells.proofs.Patch.{eq-or}
use Rattle.reading.specs.Action as Action
use Rattle.replies.specs.Replies.{cursor_reply, status_reply, block_reply}
use Rattle.replies.proofs.Longest.{cursor-length}
use Rattle.terminal.specs.State.{World}
use Rattle.streams.specs.Streams.{pending_reply, reply_to}

-- ---- the pending transfer
module _ (w : World) where
  pub pending-absolute : w.state.pending ≡ 1 → pending_reply w ≡ cursor_reply w.state.cursor.col w.state.cursor.row 82
  unfolding pending_reply
  pending-absolute e = rw e

  pub pending-window : w.state.pending ≡ 2 → pending_reply w ≡ cursor_reply w.state.cursor.col (w.state.cursor.row - w.state.cursor.top) 89
  unfolding pending_reply
  pending-window e = rw e

  -- either cursor's place, by its length
  pub pending-place : 1 ≤ w.state.pending → w.state.pending ≤ 2 → length (pending_reply w) ≡ 12
  pending-place l u = elim (eq-or w.state.pending 1) [
    | inl e ↦ ap length (pending-absolute e) ∙ cursor-length w.state.cursor.col w.state.cursor.row 82
    | inr n ↦ ap length (pending-window (omega arith)) ∙ cursor-length w.state.cursor.col (w.state.cursor.row - w.state.cursor.top) 89
  ]

  pub pending-status : w.state.pending ≡ 3 → pending_reply w ≡ status_reply w.state.format w.state.insert w.state.lock
  unfolding pending_reply
  pending-status e = rw e

  pub pending-block : w.state.pending ≡ 4 → pending_reply w ≡ block_reply w.state.format w.chars w.attrs w.state.cursor.row
  unfolding pending_reply
  pending-block e = rw e

  pub pending-none : (w.state.pending ≡ 1 → ⊥) → (w.state.pending ≡ 2 → ⊥) → (w.state.pending ≡ 3 → ⊥) → (w.state.pending ≡ 4 → ⊥) → pending_reply w ≡ []
  unfolding pending_reply
  pending-none a b c d = rw (ne_eqb _ _ a, ne_eqb _ _ b, ne_eqb _ _ c, ne_eqb _ _ d)

-- ---- an action
module _ (a : ℕ) (w : World) where
  pub reply-ack : a ≡ Action.ack → reply_to a w ≡ 6 ∷ []
  unfolding reply_to
  reply-ack e = rw e

  pub reply-trigger : a ≡ Action.trigger → reply_to a w ≡ pending_reply w
  unfolding reply_to
  reply-trigger e = rw e

  pub reply-none : (a ≡ Action.ack → ⊥) → (a ≡ Action.trigger → ⊥) → reply_to a w ≡ []
  unfolding reply_to
  reply-none p q = rw (ne_eqb _ _ p, ne_eqb _ _ q)
