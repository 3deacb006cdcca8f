-- A report keeps a good state good and a sound world sound; a refused one leaves all. Assumes nothing.
use Prim.Native.Nat.{ℕ}
use mathlib.Core.Path.{◌≡◌, refl, sym}
use mathlib.Core.Bool.{false}
use lib.ListN.{replicate, length-replicate}
use lib.Dec.{eqb}
use borrow.Author.Tests.{eqb-true}
use Rattle.reading.proofs.Rules.{either}
use Rattle.cells.proofs.Choices.{choose-by}
use Rattle.terminal.specs.declared.Terminal.{Terminal}
use Rattle.terminal.specs.State.{World, stated, Good, Sound}
use Rattle.terminal.proofs.Noted.{good-flagged}
use Rattle.report.specs.declared.ReportAnswer.{ReportAnswer}
use Rattle.report.specs.Reports.{report_refusal, reported}

module _ (rows : ℕ) (t : Terminal) where
  -- the number is the refusal's
  pub report-number : (reported rows t).number ≡ report_refusal rows t
  unfolding reported
  report-number =
      choose-by (λ (r : ReportAnswer). r.number ≡ report_refusal rows t) (eqb (report_refusal rows t) 0) (λ e. sym (eqb-true (report_refusal rows t) 0 e)) (λ _. refl)

  pub report-refused : ((reported rows t).number ≡ 0 → ⊥) → ((reported rows t).state ≡ t) × ((reported rows t).count ≡ 0) × ((reported rows t).first ≡ rows)
  unfolding reported
  report-refused =
      either (λ (r : ReportAnswer). (r.number ≡ 0 → ⊥) → (r.state ≡ t) × (r.count ≡ 0) × (r.first ≡ rows)) (eqb (report_refusal rows t) 0)
      (λ n. absurd (n refl)) (λ _. (refl, refl, refl))

  pub report-good : Good rows t → Good rows (reported rows t).state
  unfolding reported
  report-good g =
      either (λ (r : ReportAnswer). Good rows r.state) (eqb (report_refusal rows t) 0) (good-flagged g (replicate rows false) (length-replicate rows false)) g

-- over a sound world it leaves a sound one
pub report-sound : {rows : ℕ} {w : World} → Sound rows w → Sound rows (stated w (reported rows w.state).state)
report-sound {rows} {w} s = record { few = s.few; chars_long = s.chars_long; attrs_long = s.attrs_long; good = report-good rows w.state s.good }
