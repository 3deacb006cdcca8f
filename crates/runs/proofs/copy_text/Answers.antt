-- `runs::copy_text` meets its contract: the loop's invariant is `Cells` with `Seen`, and the bytes before the loop's place are all text. Assumes nothing.
use Prim.Native.Nat.{ℕ, ◌+◌, ◌-◌, ◌%◌, ◌<◌}
use mathlib.Core.Path.{◌≡◌, refl, sym, ap, ◌∙◌}
use mathlib.Core.Bool.{true}
use mathlib.Core.Logic.{inl, inr}
use native.Mathlib.Omega.{arith}
use lib.ListN.{get_or}
use Rattle.cells.proofs.Patch.{none, up, done, eq-or}
use Rattle.changes.specs.Differing.{differs}
use Rattle.compare.proofs.Patches.{seen_none, seen_same, seen_other}
use Rattle.runs.specs.Texts.{is_text}
use Rattle.runs.proofs.Texts.{begun}
use Rattle.runs.proofs.copy_text.Goals as goal
use Rattle.runs.proofs.copy_text.Goals.{else-chars-cell, then-chars-cell}

less : (m n : ℕ) → n < m → m - (n + 1) < m - n
less m n h = omega arith

pub loop-n-init : goal.loop-n-init
loop-n-init c = (omega arith, λ j h. absurd (omega arith), none (omega arith), seen_none (omega arith))

pub returns-then-not-is_text : goal.returns-then-not-is_text
returns-then-not-is_text c = let l = c.loop-n in let a = c.args in record { some = begun a.bytes.now a.from l.n c.requires.2 (sym c.is_text.ensures ∙ c.if-not-is_text.true); bytes_upto = omega arith; cells_upto = omega arith; row_upto = omega arith; texts = l.invariant.1; told = l.invariant.3.told ∙ ap (differs a.chars.now) (sym (done l.invariant.2 refl refl)); cells = done l.invariant.2 refl refl }

pub loop-n-preserved : goal.loop-n-preserved
loop-n-preserved c = let l = c.loop-n in let a = c.args in let e : a.from + (a.cell + l.n - a.cell) ≡ a.from + l.n = omega arith in let v = ap (λ (k : ℕ). get_or a.bytes.now k 0 % 128) (sym e) in let h = l.invariant.2.high (a.cell + l.n) (omega arith) in let t : (j : ℕ) → j < l.n + 1 → is_text (get_or a.bytes.now (a.from + j) 0) ≡ true = λ j h. elim (eq-or j l.n) [ inl q ↦ rw q (sym c.is_text.ensures ∙ c.if-not-is_text.false) | inr q ↦ l.invariant.1 j (omega arith) ] in let g = up l.invariant.2 (omega arith) (omega (arith, l.invariant.2.len)) v (omega arith) in elim c.if-chars-cell.branch [ then-chars-cell w ↦ (omega arith, t, g, rw w.changed-is (seen_other {i = a.cell + l.n} (omega arith) (omega (arith, l.invariant.2.len)) (λ q. w.if-chars-cell.true (h ∙ q ∙ sym v)) (omega arith))) | else-chars-cell w ↦ (omega arith, t, g, rw w.changed-is (seen_same {i = a.cell + l.n} l.invariant.3 (omega (arith, l.invariant.2.len)) (sym h ∙ w.if-chars-cell.false ∙ v) (omega arith))) ]

pub returns : goal.returns
returns c = let l = c.loop-n in let a = c.args in let e : l.n ≡ c.bound-most.result = omega arith in rw (sym e) (record { some = omega arith; bytes_upto = omega arith; cells_upto = omega arith; row_upto = omega arith; texts = l.invariant.1; told = l.invariant.3.told ∙ ap (differs a.chars.now) (sym (done l.invariant.2 refl refl)); cells = done l.invariant.2 refl refl })
