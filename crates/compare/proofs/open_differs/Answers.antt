-- `compare::open_differs` meets its contract: the loop's invariant is `Alike` of both memories, and `kind` with cell `i`'s mark gives its kind.
-- Assumes nothing.
use Prim.Native.Nat.{ℕ}
use mathlib.Core.Path.{◌≡◌, refl, sym, ◌∙◌}
use native.Mathlib.Omega.{arith}
use lib.ListN.{get_or}
use Rattle.cells.specs.Memory.{patch, filled}
use Rattle.changes.specs.Differing.{differs}
use Rattle.changes.proofs.Differing.{or-neither, or-first, or-last, or-second}
use Rattle.fields.specs.Fields.{marks, stripped, unprotected}
use Rattle.fields.proofs.Scans.{onward-start, onward-next, unprotected-by}
use Rattle.compare.proofs.Patches.{kept, kept-where, altered, alike-none, alike-more}
use Rattle.compare.proofs.open_differs.Invariants.{blanked, bared}
use Rattle.compare.proofs.open_differs.Goals as goal
use Rattle.compare.proofs.open_differs.Goals.{then-is_in+else-chars-i-ne32+else-attrs-i-ne0, else-is_in}

pub returns-then-not-rest_differs : goal.returns-then-not-rest_differs
unfolding filled
returns-then-not-rest_differs c =
    let a = c.args in
    let o = or-neither _ _ (sym c.rest_differs.ensures ∙ c.if-not-rest_differs.true) in
    or-second
    (sym (kept-where a.chars.now a.from a.to (λ (k : ℕ). 32) (unprotected (marks a.attrs.now)) (omega arith) o.0))
    (kept-where a.attrs.now a.from a.to (λ (k : ℕ). stripped (get_or a.attrs.now k 0)) (unprotected (marks a.attrs.now)) (omega arith) o.1)

pub loop-i-init : goal.loop-i-init
unfolding filled
loop-i-init c = (onward-start c.kind_at-kind.ensures, alike-none refl, alike-none refl)

pub returns-then-chars-i-ne32 : goal.returns-then-chars-i-ne32
unfolding filled
returns-then-chars-i-ne32 c =
    let l = c.loop-i in
    let a = c.args in
    let k = c.kind_after-kind.ensures ∙ l.invariant.0.gives in
    let e = unprotected-by _ l.i k c.is_in.ensures in
    or-first _ (sym (altered a.chars.now a.from a.to (blanked a.chars.now a.attrs.now) (omega arith) l.i (omega arith) (omega arith) (λ q. c.if-chars-i-ne32.true (q ∙ simp (e ∙ c.if-is_in.true)))))

pub returns-then-attrs-i-ne0 : goal.returns-then-attrs-i-ne0
unfolding filled
returns-then-attrs-i-ne0 c =
    let l = c.loop-i in
    let a = c.args in
    let k = c.kind_after-kind.ensures ∙ l.invariant.0.gives in
    let e = unprotected-by _ l.i k c.is_in.ensures in
    let z : bared a.attrs.now l.i ≡ stripped (get_or a.attrs.now l.i 0) = simp (e ∙ c.if-is_in.true) in
    or-last (differs a.chars.now (patch a.chars.now a.from a.to (blanked a.chars.now a.attrs.now))) (sym (altered a.attrs.now a.from a.to (bared a.attrs.now) (omega arith) l.i (omega arith) (omega arith) (λ q. omega (arith, c.if-attrs-i-ne0.true, q, z))))

pub loop-i-preserved : goal.loop-i-preserved
unfolding filled
loop-i-preserved c =
    let l = c.loop-i in
    let k = c.kind_after-kind.ensures ∙ l.invariant.0.gives in
    let e = unprotected-by _ l.i k c.is_in.ensures in
    let y = c.args.attrs.now in
    elim c.if-is_in.branch [
      | then-is_in+else-chars-i-ne32+else-attrs-i-ne0 w ↦
          let q : get_or y l.i 0 ≡ stripped (get_or y l.i 0) = omega (arith, w.if-attrs-i-ne0.false) in
          (onward-next l.i k refl, alike-more l.invariant.1 (w.if-chars-i-ne32.false ∙ sym (simp (e ∙ w.if-is_in.true))) refl, alike-more l.invariant.2 (q ∙ sym (simp (e ∙ w.if-is_in.true))) refl)
      | else-is_in w ↦ (onward-next l.i k refl, alike-more l.invariant.1 (sym (simp (e ∙ w.if-is_in.false))) refl, alike-more l.invariant.2 (sym (simp (e ∙ w.if-is_in.false))) refl)
    ]

pub returns : goal.returns
unfolding filled
returns c =
    let a = c.args in
    or-second
    (sym (kept a.chars.now a.from a.to (blanked a.chars.now a.attrs.now) (λ k p q. c.loop-i.invariant.1.each k p (omega arith))))
    (kept a.attrs.now a.from a.to (bared a.attrs.now) (λ k p q. c.loop-i.invariant.2.each k p (omega arith)))
