-- `cells::move_up` meets its contract: the copied rows, then the filled one, above them. Assumes nothing.
use mathlib.Core.Path.{◌≡◌, ap, refl, sym, ◌∙◌}
use mathlib.Core.Bool.{cond}
use Prim.Native.Nat.{ℕ, ◌+◌, ◌-◌}
use native.Mathlib.Omega.{arith}
use lib.Dec.{ltb}
use lib.ListN.{length, get_or}
use borrow.Author.Tests.{lt-ltb, le-ltb}
use Rattle.cells.proofs.Patch.{moved, join, patched, done}
use Rattle.cells.proofs.Splice.{lent-filled, moved_up-patch}
use Rattle.cells.proofs.move_up.Goals as goal

pub returns : goal.returns
returns c =
    let a = c.args in
    let n = length a.s.now in
    let ys = c.copy_within.new.self in
    let m = moved {xs = a.s.now} {ys = ys} (λ k. cond (ltb (k + 80) n) (get_or a.s.now (k + 80) 0) a.v) (a.from + 80) a.from (n - (a.from + 80)) (n - 80) c.copy_within.ensures.len c.copy_within.ensures.by_index (omega arith)
    (λ k l w. let i : a.from + 80 + (k - a.from) ≡ k + 80 = omega arith in ap (λ (j : ℕ). get_or a.s.now j 0) i ∙ sym (simp (lt-ltb (k + 80) n (omega arith)))) in
    let f = patched {xs = ys} {f = λ k. a.v} (lent-filled ys c.fill.new.self (n - 80) (length ys) a.v (omega (arith, m.len)) (omega arith) (c.fill.ensures.after (λ y e. e))) (omega arith) in
    done (join m f (omega arith) (omega (arith, m.len)) (λ k p q. sym (simp (le-ltb (k + 80) n (omega arith))))) refl m.len ∙ sym (moved_up-patch a.s.now a.from a.v (omega arith))
