-- Runs of text. Assumes nothing.
use Prim.Native.Nat.{ℕ, zero, suc, ◌+◌, ◌<◌}
use mathlib.Core.Path.{◌≡◌, ap, ◌∙◌}
use mathlib.Core.Bool.{true, false}
use mathlib.Core.List.{List}
use native.Mathlib.Omega.{arith}
use lib.ListN.{get_or}
use Rattle.cells.proofs.Search.{not-both}
use Rattle.runs.specs.Texts.{is_text}

-- a run that begins with text and ends before a byte that is none has some byte
pub begun : (bytes : List ℕ) (from n : ℕ) → is_text (get_or bytes from 0) ≡ true → is_text (get_or bytes (from + n) 0) ≡ false → 0 < n
begun bytes from zero p q = absurd (not-both p (ap (λ (k : ℕ). is_text (get_or bytes k 0)) (omega arith) ∙ q))
begun bytes from (suc n) p q = omega arith
