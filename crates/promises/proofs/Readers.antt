-- The table and the plain decisions agree on every byte, and so the two host calls on every stream. Assumes nothing.
use Prim.Native.Nat.{ℕ, ◌%◌}
use mathlib.Core.Path.{sym, ap, ◌∙◌}
use native.Mathlib.Omega.{arith}
use Rattle.reading.specs.Reading.{action_of, settled}
use Rattle.decisions.proofs.Agreement.{came_to, decided-as}
use Rattle.streams.proofs.Once.{host_once}
use Rattle.plain.proofs.Agreement.{plainly-stepped, plain-answer, plainly-fed}
use Rattle.promises.specs.Readers.{ReadersAgree, BytesAgree, HostsAgree}

pub readers_agree : ReadersAgree
unfolding action_of
readers_agree table tabled s byte n hs hb =
    ap (λ (k : ℕ). came_to (settled k n) (byte % 128) n) (tabled.entry s (byte % 128) hs (omega arith)) ∙ sym (decided-as s n byte)

module _ (rows : ℕ) where
  pub bytes_agree : BytesAgree rows
  bytes_agree w byte = (sym (plainly-stepped rows byte w), sym (plain-answer byte w))

  pub hosts_agree : HostsAgree rows
  hosts_agree w bytes reply r q c c' a a' o o' x y =
      let s = host_once x (y ∙ plainly-fed rows w bytes reply) in (s.0.answer, s.0.chars-same, s.0.attrs-same, s.1)
