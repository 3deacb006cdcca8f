-- Two results that meet the contract of `run_records`, or of `write_end`, are equal. Assumes nothing.
use Prim.Native.Nat.{ℕ}
use mathlib.Core.Path.{◌≡◌, sym, ap, ◌∙◌}
use mathlib.Core.List.{List}
use Rattle.terminal.proofs.Once.{Same}
use Rattle.sessions.specs.declared.LinesAnswer.{LinesAnswer}
use Rattle.sessions.specs.Parts.{Batch, lines_left, Ended, ended}

pub lines_once : {r q : LinesAnswer} {chars chars' attrs attrs' lines lines' : List ℕ} {l : Batch} → lines_left r chars attrs lines ≡ l → lines_left q chars' attrs' lines' ≡ l
    → Same r q chars chars' attrs attrs' × (lines ≡ lines')
lines_once x y =
    let e = x ∙ sym y in (
      record {
        answer = ap (λ (l : Batch). record { taken = l.taken; written = l.written; number = l.number; state = l.world.state }) e;
        chars-same = ap (λ (l : Batch). l.world.chars) e;
        attrs-same = ap (λ (l : Batch). l.world.attrs) e;
      },
      ap (λ (l : Batch). l.lines) e,
    )

pub end_once : {n m : ℕ} {line line' : List ℕ} {e : Ended} → ended n line ≡ e → ended m line' ≡ e → (n ≡ m) × (line ≡ line')
end_once x y = let e = x ∙ sym y in (ap (λ (l : Ended). l.written) e, ap (λ (l : Ended). l.line) e)
