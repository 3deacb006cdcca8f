-- `cells::move_down` meets its contract: the copied rows, then the filled one, below them. Assumes nothing.
use mathlib.Core.Path.{◌≡◌, ap, refl, sym, ◌∙◌}
use mathlib.Core.Bool.{cond}
use Prim.Native.Nat.{ℕ, ◌+◌, ◌-◌}
use native.Mathlib.Omega.{arith}
use lib.Dec.{ltb}
use lib.ListN.{length, get_or}
use borrow.Author.Tests.{lt-ltb, le-ltb}
use Rattle.cells.proofs.Patch.{moved, join-down, patched, done}
use Rattle.cells.proofs.Splice.{lent-filled, moved_down-patch}
use Rattle.cells.proofs.move_down.Goals as goal

pub returns : goal.returns
returns c =
    let a = c.args in
    let n = length a.s.now in
    let ys = c.copy_within.new.self in
    let m = moved {xs = a.s.now} {ys = ys} (λ k. cond (ltb k (a.from + 80)) a.v (get_or a.s.now (k - 80) 0)) a.from (a.from + 80) (n - 80 - a.from) n c.copy_within.ensures.len c.copy_within.ensures.by_index (omega arith)
    (λ k l w. let i : a.from + (k - (a.from + 80)) ≡ k - 80 = omega arith in ap (λ (j : ℕ). get_or a.s.now j 0) i ∙ sym (simp (le-ltb k (a.from + 80) l))) in
    let f = patched {xs = ys} {f = λ k. a.v} (lent-filled ys c.fill.new.self a.from (a.from + 80) a.v (omega arith) (omega (arith, m.len)) (c.fill.ensures.after (λ y e. e))) (omega (arith, m.len)) in
    done (join-down m f (omega arith) (omega arith) (λ k p q. sym (simp (lt-ltb k (a.from + 80) q)))) refl refl ∙ sym (moved_down-patch a.s.now a.from a.v (omega arith))
