-- What a key answers, leaves and sends turns on the room of its reply buffer alone, not on what the buffer held. Assumes nothing.
use Prim.Native.Nat.{ℕ, ◌%◌}
use mathlib.Core.Path.{◌≡◌, refl, ap}
use mathlib.Core.List.{List, [], ◌∷◌}
use native.Mathlib.Omega.{arith}
use lib.ListN.{length, take, set}
use lib.Dec.{eqb}
use Rattle.cells.proofs.Choices.{choose-both}
use Rattle.terminal.specs.State.{World}
use Rattle.terminal.specs.Acts.{acted}
use Rattle.terminal.specs.Noted.{noted}
use Rattle.key.specs.Keys.{key_action, enter, key_refusal, Keyed, delivered, key_done, keyed}

-- the two calls answer, leave and send the same
abbrev Alike : Keyed → Keyed → Type 0
Alike h k = delivered h ≡ delivered k

first-sent : (reply other : List ℕ) → length reply ≡ length other → take 1 (set reply 0 18) ≡ take 1 (set other 0 18)
first-sent [] [] e = refl
first-sent [] (y ∷ ys) e = absurd (omega arith)
first-sent (x ∷ xs) [] e = absurd (omega arith)
first-sent (x ∷ xs) (y ∷ ys) e = refl

pub keyed-room : (rows : ℕ) (w : World) (reply other : List ℕ) (code : ℕ) → length reply ≡ length other → delivered (keyed rows w reply code) ≡ delivered (keyed rows w other code)
unfolding keyed key_done
keyed-room rows w reply other code e =
    let v = noted rows w (acted rows (key_action code w.state.insert) (code % 256) w) in
    rw (← e)
    (choose-both Alike (eqb (key_refusal rows w code (length reply)) 0)
    (λ _. choose-both Alike (eqb code enter)
    (λ _. ap (λ (xs : List ℕ). record { number = 0; written = 1; world = v; reply = xs }) (first-sent reply other e))
    (λ _. refl))
    (λ _. refl))
