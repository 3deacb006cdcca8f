-- While format mode stays on, no host byte and no stream changes the character of a protected cell. Assumes nothing.
use Prim.Native.Nat.{ℕ, zero, suc, ◌+◌, ◌%◌, ◌≤◌}
use mathlib.Core.Path.{◌≡◌, refl}
use mathlib.Core.Bool.{true}
use mathlib.Core.List.{List, [], ◌∷◌}
use native.Mathlib.Omega.{arith}
use lib.ListN.{length, take}
use lib.Dec.{leb}
use borrow.Author.Tests.{leb-true}
use Rattle.cells.specs.Memory.{written}
use Rattle.cells.proofs.Splice.{length-written}
use Rattle.cells.proofs.Choices.{choose-by}
use Rattle.terminal.specs.State.{World, Sound}
use Rattle.terminal.specs.Protected.{Protects}
use Rattle.terminal.proofs.Good.{sound-in}
use Rattle.terminal.proofs.Protected.{protects-same, protects-then, acted-protects}
use Rattle.streams.specs.Streams.{action_for, read_on, stepped_by, stepped, answer_to, Hosted, fed_on, fed}
use Rattle.streams.specs.Protected.{StaysOn}
use Rattle.streams.proofs.Kept.{stepped-sound, fed_by}
use Rattle.streams.proofs.Streams.{fed_on-counts}

-- ---- one byte
pub stepped-protects : {rows : ℕ} {w : World} → Sound rows w → w.state.format ≡ true → (byte : ℕ) → (stepped rows byte w).state.format ≡ true → Protects w (stepped rows byte w)
unfolding stepped stepped_by read_on
stepped-protects {rows} {w} s on byte e =
    protects-then (acted-protects s on (action_for w.state byte) (byte % 128) e) (protects-same refl refl)

-- ---- a stream
on-now : (rows : ℕ) (bytes : List ℕ) (w : World) → StaysOn rows bytes w → w.state.format ≡ true
on-now rows [] w on = on
on-now rows (b ∷ bytes) w on = on.0

-- n bytes are taken, and format mode stays on after each of them
pub fed_on-protects :
    {rows : ℕ} {w : World} → Sound rows w → (bytes : List ℕ) (taken sent : ℕ) (reply : List ℕ) (n : ℕ) → sent ≤ length reply →
    (fed_on rows bytes taken sent w reply).taken ≡ taken + n → StaysOn rows (take n bytes) w → Protects w (fed_on rows bytes taken sent w reply).world
unfolding fed_on
fed_on-protects {rows = rows} {w = w} s [] taken sent reply n l e on = protects-same refl refl
fed_on-protects {rows = rows} {w = w} s (b ∷ bytes) taken sent reply n l e on =
    choose-by (λ (h : Hosted). h.taken ≡ taken + n → Protects w h.world) (leb (sent + length (answer_to b w)) (length reply))
    (λ t.
    let room = leb-true (sent + length (answer_to b w)) (length reply) t in
    let fits : sent + length (answer_to b w) ≤ length (written reply sent (answer_to b w)) = omega (arith, length-written reply sent (answer_to b w) room) in
    let h = fed_on rows bytes (taken + 1) (sent + length (answer_to b w)) (stepped rows b w) (written reply sent (answer_to b w)) in
    more h n (fed_on-counts rows bytes (taken + 1) (sent + length (answer_to b w)) (stepped rows b w) (written reply sent (answer_to b w)) fits).taken-from
    (λ m. fed_on-protects {w = stepped rows b w} (stepped-sound s b) bytes (taken + 1) (sent + length (answer_to b w)) (written reply sent (answer_to b w)) m fits) on)
    (λ _ _. protects-same refl refl) e
  where
    more :
        (h : Hosted) (n : ℕ) → taken + 1 ≤ h.taken → ((m : ℕ) → h.taken ≡ taken + 1 + m → StaysOn rows (take m bytes) (stepped rows b w) → Protects (stepped rows b w) h.world) →
        StaysOn rows (take n (b ∷ bytes)) w → h.taken ≡ taken + n → Protects w h.world
    more h zero r ih on e = absurd (omega arith)
    more h (suc m) r ih on e =
        protects-then (stepped-protects s on.0 b (on-now rows (take m bytes) (stepped rows b w) on.1)) (ih m (omega arith) on.1)

-- a host call: format mode stays on while it takes bytes. A refused call changes nothing
pub fed-protects :
    (rows : ℕ) (w : World) (bytes reply : List ℕ) → rows ≤ 96 → StaysOn rows (take (fed rows w bytes reply).taken bytes) w →
    Protects w (fed rows w bytes reply).world
fed-protects rows w bytes reply few =
    fed_by (λ (h : Hosted). StaysOn rows (take h.taken bytes) w → Protects w h.world) rows w bytes reply
    (λ a g on. fed_on-protects (sound-in few a g) bytes 0 0 reply (fed_on rows bytes 0 0 w reply).taken (omega arith) (omega arith) on) (λ _ _ _. protects-same refl refl)
