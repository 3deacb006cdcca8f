-- `compare::row_wipe_differs` meets its contract, by the place of the row. Assumes nothing.
use Prim.Native.Nat.{ℕ, ◌+◌, ◌*◌}
use mathlib.Core.Path.{sym, ◌∙◌}
use native.Mathlib.Omega.{arith}
use Rattle.changes.proofs.Differing.{or-second}
use Rattle.fields.specs.Fields.{marks, stripped, unprotected}
use Rattle.compare.proofs.Moves.{where-both}
use Rattle.compare.proofs.Patches.{kept}
use Rattle.compare.proofs.row_wipe_differs.Goals as goal

pub returns-then-k-first : goal.returns-then-k-first
returns-then-k-first c =
    let a = c.args in
    let p = c.requires in
    c.open_differs.ensures ∙ where-both a.rows a.r a.chars.now a.attrs.now p.3 p.0 p.1 a.k (a.r * 80) (omega arith) (unprotected (marks a.attrs.now)) (λ (v : ℕ). 32) stripped

pub returns-then-first-k : goal.returns-then-first-k
returns-then-first-k c =
    let a = c.args in
    let p = c.requires in
    or-second (sym (kept a.chars.now a.k (a.r * 80 + 80) _ (λ i m n. absurd (omega arith)))) (kept a.attrs.now a.k (a.r * 80 + 80) _ (λ i m n. absurd (omega arith)))
    ∙ where-both a.rows a.r a.chars.now a.attrs.now p.3 p.0 p.1 a.k a.k (omega arith) (unprotected (marks a.attrs.now)) (λ (v : ℕ). 32) stripped

pub returns : goal.returns
returns c =
    let a = c.args in
    let p = c.requires in
    c.open_differs-2.ensures ∙ where-both a.rows a.r a.chars.now a.attrs.now p.3 p.0 p.1 a.k a.k (omega arith) (unprotected (marks a.attrs.now)) (λ (v : ℕ). 32) stripped
