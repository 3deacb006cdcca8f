-- A memory filled whole is a fresh one; what the call for a fresh terminal leaves. Assumes nothing.
use mathlib.Core.Path.{◌≡◌, sym, ◌∙◌}
use mathlib.Core.Bool.{true, false}
use mathlib.Core.List.{List}
use Prim.Native.Nat.{ℕ, ◌*◌}
use native.Mathlib.Omega.{arith}
use lib.ListN.{length, replicate, length-replicate, get_or-replicate}
use lib.Seq.{ext_get_or}
use Rattle.cells.specs.Memory.{filled}
use Rattle.cells.proofs.Patch.{inside-true}
use Rattle.cells.proofs.Values.{length-filled, filled-cell}
use Rattle.terminal.specs.declared.Terminal.{Terminal}
use Rattle.terminal.specs.State.{World, world, fresh_state, fresh_world, is_sized}
use Rattle.terminal.specs.Refusals.{first_refusal}
use Rattle.terminal.specs.Fresh.{Freshened, fresh_refusal, freshened}

pub filled-whole : (xs : List ℕ) (n v : ℕ) → length xs ≡ n → filled xs 0 n v ≡ replicate n v
filled-whole xs n v e =
    ext_get_or 0 (filled xs 0 n v) (replicate n v) (length-filled xs 0 n v ∙ e ∙ sym (length-replicate n v))
    (λ k h.
    let l = length-filled xs 0 n v in
    filled-cell xs 0 n v (omega (arith, e)) k ∙ (simp (inside-true 0 n k (omega arith) (omega (arith, e, l)))) ∙ sym (get_or-replicate n k v 0 (omega (arith, e, l))))

module _ (rows : ℕ) (chars attrs : List ℕ) where
  -- both memories filled, under a fresh state
  pub reset-filled : {t : Terminal} {chars' attrs' : List ℕ} → length chars ≡ rows * 80 → length attrs ≡ rows * 80 → t ≡ fresh_state rows → chars' ≡ replicate (length chars) 32 → attrs' ≡ replicate (length attrs) 0 → world t chars' attrs' ≡ fresh_world rows
  unfolding fresh_world
  reset-filled p q s x y = rw (s, x, y, p, q)

  -- the two answers
  pub freshened-done : {w : World} → is_sized rows chars attrs ≡ true → w ≡ fresh_world rows → ◌≡◌ {A = Freshened} (record { number = 0; world = w }) (freshened rows chars attrs)
  unfolding freshened fresh_refusal first_refusal
  freshened-done e x = rw (e, x)

  pub freshened-not : {t : Terminal} → is_sized rows chars attrs ≡ false → t ≡ fresh_state rows → ◌≡◌ {A = Freshened} (record { number = 1; world = world t chars attrs }) (freshened rows chars attrs)
  unfolding freshened fresh_refusal first_refusal
  freshened-not e x = rw (e, x)
