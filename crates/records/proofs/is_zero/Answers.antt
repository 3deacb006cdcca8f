-- `records::is_zero` meets its contract: the part of the bytes from `from` on is asked. Assumes nothing.
use Prim.Native.Nat.{ℕ, ◌-◌}
use mathlib.Core.Path.{sym, ap, ◌∙◌}
use native.Mathlib.Omega.{arith}
use lib.ListN.{length, drop, length-drop}
use lib.Seq.{take_all}
use lib.Dec.{eqb}
use Rattle.std.specs.List.{list_all}
use Rattle.records.proofs.Forms.{zeros-all}
use Rattle.records.proofs.is_zero.Goals as goal

pub returns : goal.returns
returns c =
    let b = c.args.bytes.now in
    let from = c.args.from in
    c.are_zero.ensures ∙ ap (list_all (λ (x : ℕ). eqb x 0)) (take_all (length b - from) (drop from b) (omega (arith, length-drop from b))) ∙ sym (zeros-all (drop from b))
