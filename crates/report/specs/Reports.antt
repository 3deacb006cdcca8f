-- The report of the rows that changed. Assumes nothing.
use Rattle.std.specs.Prelude.{ℕ, false, cond, not, [], ◌∷◌, replicate, eqb}
use Rattle.changes.specs.Sets.{set_of, rows_of, count_true, first_true}
use Rattle.terminal.specs.declared.Terminal.{Terminal}
use Rattle.terminal.specs.State.{is_good, flagged}
use Rattle.terminal.specs.Refusals.{◌when◌, first_refusal}
use Rattle.report.specs.declared.ReportAnswer.{ReportAnswer}

-- the one test: the state is not good
unfoldable pub report_refusal : ℕ → Terminal → ℕ
report_refusal rows t = first_refusal ((2 when not (is_good rows t)) ∷ [])

-- how many rows are set, and the first of them or the number of rows where none is; then none is set. A refusal tells of no row, and leaves all
unfoldable pub reported : ℕ → Terminal → ReportAnswer
reported rows t =
    let n = report_refusal rows t in
    cond (eqb n 0)
    (record {
      number = 0;
      count = count_true (rows_of rows t.changes);
      first = first_true (rows_of rows t.changes);
      state = flagged t (set_of (replicate rows false));
    })
    (record { number = n; count = 0; first = rows; state = t })
