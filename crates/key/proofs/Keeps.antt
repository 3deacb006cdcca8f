-- Every key keeps format mode, host lock, the reading state with its number, and the tab stops; only ENTER makes a transfer pending. Assumes nothing.
use Prim.Native.Nat.{ℕ, ◌%◌}
use mathlib.Core.Path.{◌≡◌, refl}
use mathlib.Core.Bool.{Bool}
use mathlib.Core.List.{List}
use lib.ListN.{length}
use lib.Dec.{eqb}
use borrow.Author.Tests.{eqb-true}
use Rattle.cursor.specs.declared.Cursor.{Cursor}
use Rattle.cells.specs.Range.{within}
use Rattle.reading.specs.Action as Action
use Rattle.reading.proofs.Rules.{either}
use Rattle.cells.proofs.Choices.{choose-by}
use Rattle.terminal.specs.declared.Terminal.{Terminal}
use Rattle.terminal.specs.State.{World, placed, moded}
use Rattle.terminal.specs.Acts.{switched, steered, stamps, acted}
use Rattle.terminal.specs.Noted.{noted}
use Rattle.key.specs.Keys.{key_action, enter, key_refusal, Keyed, key_done, keyed}

-- t before the key, u after it: format mode, host lock, the reading state and its number, and the tab stops stay; so does the pending transfer, unless the key
-- is ENTER
pub record Keeps (code : ℕ) (t u : Terminal) : Type 0 where
  pub format-stays : u.format ≡ t.format
  pub lock-stays : u.lock ≡ t.lock
  pub reading-stays : u.reading ≡ t.reading
  pub number-stays : u.number ≡ t.number
  pub tabs-stay : u.tabs ≡ t.tabs
  pub pending-stays : (code ≡ enter → ⊥) → u.pending ≡ t.pending

-- the cursor, insert mode, and with ENTER the pending transfer may be others
set_keeps : {code : ℕ} (t : Terminal) (c : Cursor) (insert : Bool) (pending : ℕ) → ((code ≡ enter → ⊥) → pending ≡ t.pending) → Keeps code t (moded (placed t c) t.format insert t.lock pending)
set_keeps t c insert pending e =
    record { format-stays = refl; lock-stays = refl; reading-stays = refl; number-stays = refl; tabs-stay = refl; pending-stays = e }

same-keeps : {code : ℕ} (t : Terminal) → Keeps code t t
same-keeps t = set_keeps t t.cursor t.insert t.pending (λ _. refl)

-- the same of the action a
record Acts (rows v code : ℕ) (w : World) (a : ℕ) : Type 0 where
  keeps : Keeps code w.state (acted rows a v w).state

module _ (rows v code : ℕ) (w : World) where
  acts : (a : ℕ) {c : Cursor} {insert : Bool} → (acted rows a v w).state ≡ moded (placed w.state c) w.state.format insert w.state.lock w.state.pending → Acts rows v code w a
  acts a {c} {insert} e = record { keeps = rw e (set_keeps w.state c insert w.state.pending (λ _. refl)) }

  asks : code ≡ enter → Acts rows v code w Action.ask_block
  unfolding acted steered switched stamps
  asks e = record { keeps = set_keeps w.state w.state.cursor w.state.insert 4 (λ d. absurd (d e)) }

  key-acts : Acts rows v code w (key_action code w.state.insert)
  unfolding key_action acted steered switched stamps
  key-acts =
      let P = Acts rows v code w in
      either P (within 32 126 code) (acts Action.text refl)
      (either P (eqb code 256) (acts Action.up refl)
      (either P (eqb code 257) (acts Action.down refl)
      (either P (eqb code 258) (acts Action.right refl)
      (either P (eqb code 259) (acts Action.left refl)
      (either P (eqb code 260) (acts Action.home refl)
      (either P (eqb code 261) (acts Action.home_down refl)
      (either P (eqb code 262) (acts Action.tab refl)
      (either P (eqb code 263) (acts Action.back_tab refl)
      (either P (eqb code 264) (acts Action.clear_display refl)
      (either P (eqb code 265) (acts Action.clear_line refl)
      (either P (eqb code 266)
      (either P w.state.insert (acts Action.insert_off refl) (acts Action.insert_on refl))
      (either P (eqb code 267) (acts Action.delete_char refl)
      (either P (eqb code 268) (acts Action.column0 refl)
      (either P (eqb code 269) (acts Action.roll_up refl)
      (either P (eqb code 270) (acts Action.roll_down refl)
      (either P (eqb code 271) (acts Action.next_page refl)
      (either P (eqb code 272) (acts Action.prev_page refl)
      (choose-by P (eqb code 273) (λ t. asks (eqb-true code 273 t)) (λ _. acts Action.rest refl)))))))))))))))))))

-- the action of a key
pub key-acted-keeps : (rows v code : ℕ) (w : World) → Keeps code w.state (acted rows (key_action code w.state.insert) v w).state
key-acted-keeps rows v code w = (key-acts rows v code w).keeps

-- every key, refused or done
pub keyed-keeps : (rows : ℕ) (w : World) (reply : List ℕ) (code : ℕ) → Keeps code w.state (keyed rows w reply code).world.state
unfolding keyed key_done
keyed-keeps rows w reply code =
    let P : Keyed → Type 0 = λ k. Keeps code w.state k.world.state in
    let q = key-acted-keeps rows (code % 256) code w in
    let r : Keeps code w.state (noted rows w (acted rows (key_action code w.state.insert) (code % 256) w)).state =
    record {
      format-stays = q.format-stays;
      lock-stays = q.lock-stays;
      reading-stays = q.reading-stays;
      number-stays = q.number-stays;
      tabs-stay = q.tabs-stay;
      pending-stays = q.pending-stays;
    } in
    either P (eqb (key_refusal rows w code (length reply)) 0) (either P (eqb code enter) r r) (same-keeps w.state)
