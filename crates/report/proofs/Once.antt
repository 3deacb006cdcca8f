-- Two results that meet the contract of `report` are equal. Assumes nothing.
use mathlib.Core.Path.{◌≡◌, sym, ◌∙◌}
use Rattle.report.specs.declared.ReportAnswer.{ReportAnswer}

pub report_once : {r q p : ReportAnswer} → r ≡ p → q ≡ p → r ≡ q
report_once x y = x ∙ sym y
