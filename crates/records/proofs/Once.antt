-- Two results that meet the contract of `run_from`, or of `run`, are equal. Assumes nothing.
use Prim.Native.Nat.{ℕ}
use mathlib.Core.Path.{◌≡◌, sym, ap, ◌∙◌}
use mathlib.Core.List.{List}
use Rattle.terminal.proofs.Once.{Same}
use Rattle.records.specs.declared.PartAnswer.{PartAnswer}
use Rattle.records.specs.declared.RanAnswer.{RanAnswer}
use Rattle.records.specs.Records.{Part, part_left, Ran, ran_left}

pub part_once : {r q : PartAnswer} {chars chars' attrs attrs' reply reply' : List ℕ} {p : Part} → part_left r chars attrs reply ≡ p → part_left q chars' attrs' reply' ≡ p
    → Same r q chars chars' attrs attrs' × (reply ≡ reply')
part_once x y =
    let e = x ∙ sym y in (
      record {
        answer = ap (λ (p : Part). record { number = p.number; at = p.at; written = p.written; state = p.world.state }) e;
        chars-same = ap (λ (p : Part). p.world.chars) e;
        attrs-same = ap (λ (p : Part). p.world.attrs) e;
      },
      ap (λ (p : Part). p.reply) e,
    )

pub ran-once : {r q : RanAnswer} {chars chars' attrs attrs' : List ℕ} {x : Ran} → ran_left r chars attrs ≡ x → ran_left q chars' attrs' ≡ x → Same r q chars chars' attrs attrs'
ran-once x y =
    let e = x ∙ sym y in
    record {
      answer = ap (λ (x : Ran). record { answer = x.answer; replied = x.replied; state = x.world.state }) e;
      chars-same = ap (λ (x : Ran). x.world.chars) e;
      attrs-same = ap (λ (x : Ran). x.world.attrs) e;
    }
