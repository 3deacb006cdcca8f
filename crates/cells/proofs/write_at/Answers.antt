-- `cells::write_at` meets its contract: the lent part comes back with the bytes, and no cell of it is left for a blank. Assumes nothing.
use mathlib.Core.Path.{◌≡◌, ap, ◌∙◌}
use mathlib.Core.List.{◌++◌, append-nil}
use Prim.Native.Nat.{ℕ, ◌-◌, ◌+◌}
use native.Mathlib.Omega.{arith}
use lib.ListN.{length, take, drop, replicate}
use Rattle.cells.specs.Memory.{written}
use Rattle.cells.proofs.Splice.{length_part, lent}
use Rattle.cells.proofs.write_at.Goals as goal

pub returns : goal.returns
returns c =
    let a = c.args in
    let e = a.at + length a.bytes.now in
    let p : length (take (e - a.at) (drop a.at a.s.now)) ≡ e - a.at = length_part a.s.now a.at e (omega arith) in
    let z : length (take (e - a.at) (drop a.at a.s.now)) - length a.bytes.now ≡ 0 = omega arith in
    lent a.s.now c.write_text.new.part a.at e (c.write_text.auto.part ∙ p) ∙ ap (written a.s.now a.at) (c.write_text.ensures ∙ ap (λ (n : ℕ). a.bytes.now ++ replicate n 32) z ∙ append-nil a.bytes.now)
