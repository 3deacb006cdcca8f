-- `compare::post_differs` meets its contract: the loop's invariant is `Alike`, and the blanks are `fill_differs`'s. Assumes nothing.
use Prim.Native.Nat.{ℕ, ◌+◌, ◌-◌, ◌≤◌, ◌<◌}
use mathlib.Core.Path.{◌≡◌, sym, ap, ◌∙◌}
use mathlib.Core.List.{List}
use native.Mathlib.Omega.{arith}
use lib.ListN.{length, get_or}
use borrow.Author.Tests.{lt-ltb, le-ltb}
use Rattle.cells.specs.Memory.{filled}
use Rattle.cells.proofs.Splice.{posted-patch}
use Rattle.changes.specs.Differing.{differs}
use Rattle.compare.proofs.Patches.{altered, patch-as, patch-from, alike-none, alike-more}
use Rattle.compare.proofs.post_differs.Invariants.{text-then}
use Rattle.compare.proofs.post_differs.Goals as goal

-- a cell of the text, and one behind it
in-text : (from : ℕ) (text : List ℕ) (j : ℕ) → j < length text → text-then from text (from + j) ≡ get_or text j 0
in-text from text j h = let e : from + j - from ≡ j = omega arith in rw e (simp (lt-ltb j (length text) h))

past-text : (from : ℕ) (text : List ℕ) (k : ℕ) → from + length text ≤ k → text-then from text k ≡ 32
past-text from text k h = simp (le-ltb (k - from) (length text) (omega arith))

pub loop-i-init : goal.loop-i-init
loop-i-init c = alike-none (omega arith)

pub returns-then-s-from : goal.returns-then-s-from
returns-then-s-from c =
    let a = c.args in
    let l = c.loop-i in
    altered a.s.now a.from a.to (text-then a.from a.text.now) (omega arith) (a.from + l.i) (omega arith) (omega arith) (λ e. c.if-s-from.true (e ∙ in-text a.from a.text.now l.i (omega arith)))
    ∙ ap (differs a.s.now) (sym (posted-patch a.s.now a.from a.to a.text.now (omega arith) (omega arith) (omega arith)))

pub loop-i-preserved : goal.loop-i-preserved
loop-i-preserved c =
    let a = c.args in
    let l = c.loop-i in
    alike-more l.invariant (c.if-s-from.false ∙ sym (in-text a.from a.text.now l.i (omega arith))) (omega arith)

pub returns : goal.returns
unfolding filled
returns c =
    let a = c.args in
    let l = c.loop-i in
    let n : l.i ≡ length a.text.now = omega arith in
    let m = a.from + length a.text.now in
    let f = text-then a.from a.text.now in
    c.fill_differs.ensures
    ∙ ap (differs a.s.now) (patch-as a.s.now m a.to (λ k. 32) (omega arith) f (λ k p q. sym (past-text a.from a.text.now k p)) ∙ sym (patch-from a.s.now a.from a.to f (omega arith) m (omega arith) (omega arith) (λ k p q. l.invariant.each k p (omega arith))) ∙ sym (posted-patch a.s.now a.from a.to a.text.now (omega arith) (omega arith) (omega arith)))
