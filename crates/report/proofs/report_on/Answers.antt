-- `report::report_on` meets its contract, by the test of the state. Assumes nothing.
use mathlib.Core.Path.{sym, ap₂, ◌∙◌}
use Rattle.changes.specs.declared.Changes.{Changes}
use Rattle.changes.specs.declared.Report.{Report}
use Rattle.terminal.specs.State.{flagged}
use Rattle.terminal.specs.Refusals.{first_refusal}
use Rattle.terminal.proofs.Good.{good-in}
use Rattle.report.specs.declared.ReportAnswer.{ReportAnswer}
use Rattle.report.specs.Reports.{report_refusal, reported}
use Rattle.report.proofs.report_on.Goals as goal

pub returns-then-not-is_good : goal.returns-then-not-is_good
unfolding reported report_refusal first_refusal
returns-then-not-is_good c = rw (c.number.ensures, sym c.is_good.ensures ∙ c.if-not-is_good.true)

pub report-told-requires : goal.report-told-requires
unfolding reported report_refusal first_refusal
report-told-requires c = (c.requires.1, (good-in c.args.rows c.args.t (sym c.is_good.ensures ∙ c.if-not-is_good.false)).changes_in)

pub returns : goal.returns
unfolding reported report_refusal first_refusal
returns c = let left : Report → Changes → ReportAnswer = λ r n. record { number = 0; count = r.count; first = r.first; state = flagged c.args.t n } in rw (sym c.is_good.ensures ∙ c.if-not-is_good.false) (ap₂ left c.report-told.ensures (c.none-next.ensures c.args.rows))
