-- `changes::Changes::report` meets its contract, by the first word that has a row. Assumes nothing.
use Prim.Native.Nat.{ℕ}
use mathlib.Core.Path.{ap₂}
use native.Mathlib.Omega.{arith}
use Rattle.changes.specs.declared.Report.{Report}
use Rattle.changes.proofs.Words.{report-count, report-low, report-high, report-none}
use Rattle.changes.proofs.Changes.report.Goals as goal

abbrev both : ℕ → ℕ → Report
both n k = record { count = n; first = k }

pub returns-then-self-ne0 : goal.returns-then-self-ne0
returns-then-self-ne0 c = let a = c.args in ap₂ both (report-count a.rows a.self c.requires.1) (report-low a.rows a.self c.requires.1 (omega (arith, c.if-self-ne0.true)))

pub returns-then-self-ne0-2 : goal.returns-then-self-ne0-2
returns-then-self-ne0-2 c = let a = c.args in ap₂ both (report-count a.rows a.self c.requires.1) (report-high a.rows a.self c.requires.1 c.if-self-ne0.false (omega (arith, c.if-self-ne0-2.true)) (omega (arith, c.requires.0)))

pub returns-else-self-ne0-2 : goal.returns-else-self-ne0-2
returns-else-self-ne0-2 c = let a = c.args in ap₂ both (report-count a.rows a.self c.requires.1) (report-none a.rows a.self c.requires.1 c.if-self-ne0.false c.if-self-ne0-2.false)
