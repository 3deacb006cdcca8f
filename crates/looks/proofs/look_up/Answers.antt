-- `looks::look_up` meets its contract: the invariant of its loops is `Told`, with the row's number from its first cell. Assumes nothing.
use Prim.Native.Nat.{◌-◌, ◌/◌}
use mathlib.Core.Path.{◌≡◌, ◌∙◌}
use native.Mathlib.Omega.{arith}
use Rattle.changes.proofs.Differing.{told_more, told-all}
use Rattle.compare.proofs.Moves.{both-above, both-copy, both_first}
use Rattle.looks.proofs.look_up.Goals as goal
use Rattle.looks.proofs.look_up.Goals.{else-loop-k-2-test, then-loop-k-2-test+then-k-top}

pub loop-k-2-preserved : goal.loop-k-2-preserved
loop-k-2-preserved c =
    let l = c.loop-k-2 in
    let a = c.args in
    let p = c.requires in (
      omega arith,
      omega arith,
      (
        omega arith,
        told_more {q = (l.k - 80) / 80} l.invariant.2.1 (omega arith) (omega arith) (omega arith) c.behind-found.ensures
            (both_first a.rows ((l.k - 80) / 80) a.at a.chars.now a.attrs.now (omega arith) p.0 p.1 p.3 a.end (l.k - 80) l.k (omega arith) (omega arith) (omega arith) (omega arith) (λ e. omega (arith, e, c.loop-k-2-test.true))),
      ),
    )

pub loop-k-preserved-then-top-k : goal.loop-k-preserved-then-top-k
loop-k-preserved-then-top-k c =
    let i = c.loop-k-2-test in
    let a = c.args in
    let p = c.requires in
    elim c.loop-k-2-test.branch [
      | else-loop-k-2-test w ↦ (
        omega (arith, w.k-is),
        omega (arith, w.k-is),
        (
          omega (arith, w.k-is),
          told_more {q = (i.k - 80) / 80} {r = i.k / 80} {s = i.found} (rw w.found-is (rw w.k-is c.loop-k-2.invariant.2.1)) (omega (arith, w.k-is)) (omega (arith, w.k-is)) (omega arith) c.behind-found-then-top-k.ensures
              (c.row_copy_differs.ensures ∙ both-copy a.rows ((i.k - 80) / 80) a.at a.chars.now a.attrs.now (omega (arith, w.k-is)) p.0 p.1 p.3 a.end (i.k - 80) (omega (arith, w.k-is)) (omega (arith, w.k-is)) (omega (arith, w.k-is))),
        ),
      )
      | then-loop-k-2-test+then-k-top w ↦ absurd (omega (arith, w.if-k-top.true, w.k-is))
    ]

pub loop-k-preserved : goal.loop-k-preserved
loop-k-preserved c =
    let l = c.loop-k-2 in
    let a = c.args in
    let p = c.requires in
    elim c.loop-k-2-test.branch [
      | else-loop-k-2-test w ↦ absurd (omega (arith, w.k-is))
      | then-loop-k-2-test+then-k-top w ↦ (
        omega (arith, w.k-is),
        omega (arith, w.k-is),
        (
          omega (arith, w.k-is),
          rw w.found-is (rw w.k-is (told_more {q = (l.k - 80) / 80} l.invariant.2.1 (omega arith) (omega arith) (omega arith) w.behind-found.ensures
              (both_first a.rows ((l.k - 80) / 80) a.at a.chars.now a.attrs.now (omega arith) p.0 p.1 p.3 a.end (l.k - 80) l.k (omega arith) (omega arith) (omega arith) (omega arith) w.loop-k-2-test.true))),
        ),
      )
    ]

pub loop-above-init : goal.loop-above-init
loop-above-init c = let e : c.loop-k.k / 80 ≡ c.args.at = omega arith in rw e at c.loop-k.invariant.2.1

pub loop-above-preserved : goal.loop-above-preserved
loop-above-preserved c =
    let r = c.loop-above._above in
    let a = c.args in
    let p = c.requires in
    told_more {q = r - 1} c.loop-above.invariant (omega arith) (omega arith) (omega arith) c.behind-found-in-loop-above.ensures
    (both-above a.rows (r - 1) a.at a.chars.now a.attrs.now (omega arith) p.0 p.1 p.3 a.end (omega arith))

pub returns : goal.returns
returns c = told-all c.loop-above.invariant (omega arith)
