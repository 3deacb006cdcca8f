-- Two results that meet the contract of `host` are equal. Assumes nothing.
use mathlib.Core.Path.{◌≡◌, sym, ap, ◌∙◌}
use mathlib.Core.List.{List}
use Prim.Native.Nat.{ℕ}
use Rattle.terminal.proofs.Once.{Same}
use Rattle.streams.specs.declared.HostAnswer.{HostAnswer}
use Rattle.streams.specs.Streams.{Hosted, host_left}

pub host_once : {r q : HostAnswer} {chars chars' attrs attrs' reply reply' : List ℕ} {h : Hosted} → host_left r chars attrs reply ≡ h → host_left q chars' attrs' reply' ≡ h → Same r q chars chars' attrs attrs' × (reply ≡ reply')
host_once x y =
    let e = x ∙ sym y in (
      record {
        answer = ap (λ (h : Hosted). record { number = h.number; taken = h.taken; written = h.written; state = h.world.state }) e;
        chars-same = ap (λ (h : Hosted). h.world.chars) e;
        attrs-same = ap (λ (h : Hosted). h.world.attrs) e;
      },
      ap (λ (h : Hosted). h.reply) e,
    )
