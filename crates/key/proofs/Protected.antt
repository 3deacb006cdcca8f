-- While format mode is on, no key changes the character of a protected cell. Assumes nothing.
use Prim.Native.Nat.{ℕ, ◌%◌, ◌≤◌}
use mathlib.Core.Path.{◌≡◌, refl, ◌∙◌}
use mathlib.Core.Bool.{true}
use mathlib.Core.List.{List}
use lib.ListN.{length}
use lib.Dec.{eqb}
use borrow.Author.Tests.{eqb-true}
use Rattle.reading.proofs.Rules.{either}
use Rattle.cells.proofs.Choices.{choose-by}
use Rattle.terminal.specs.State.{World}
use Rattle.terminal.specs.Acts.{acted}
use Rattle.terminal.specs.Protected.{Protects}
use Rattle.terminal.proofs.Protected.{protects-same, protects-noted, acted-protects}
use Rattle.key.specs.Keys.{key_action, enter, key_refusal, Keyed, key_done, keyed}
use Rattle.key.proofs.Kept.{key-ready}
use Rattle.key.proofs.Keeps.{key-acted-keeps}

pub keyed-protects : (rows : ℕ) (w : World) (reply : List ℕ) (code : ℕ) → rows ≤ 96 → w.state.format ≡ true → Protects w (keyed rows w reply code).world
unfolding keyed key_done
keyed-protects rows w reply code few on =
    let P : Keyed → Type 0 = λ k. Protects w k.world in
    let a = key_action code w.state.insert in
    choose-by P (eqb (key_refusal rows w code (length reply)) 0)
    (λ t.
    let r =
    protects-noted rows w w (acted rows a (code % 256) w)
    (acted-protects (key-ready rows w code (length reply) few (eqb-true _ _ t)).sound on a (code % 256) ((key-acted-keeps rows (code % 256) code w).format-stays ∙ on)) in
    either P (eqb code enter) r r)
    (λ _. protects-same refl refl)
