-- `records::run_host` meets its contract: what either reader leaves of the bytes from `at` on leaves. Assumes nothing.
use Prim.Native.Nat.{ℕ, ◌+◌}
use mathlib.Core.Path.{ap, ◌∙◌}
use mathlib.Core.List.{List}
use native.Mathlib.Omega.{arith}
use lib.ListN.{drop, length-drop}
use Rattle.terminal.specs.State.{world}
use Rattle.streams.specs.Streams.{Hosted, fed}
use Rattle.records.specs.Records.{part, host_part}
use Rattle.records.proofs.Running.{from_on, fed-within}
use Rattle.records.proofs.run_host.Goals as goal

pub overflow_add-result : goal.overflow_add-result
unfolding host_part
overflow_add-result c = let a = c.args in let w = world a.t a.chars.now a.attrs.now in let b = a.bytes.now in let e = c.feed-a.ensures ∙ ap (λ (p : List ℕ). fed a.rows w p a.reply.now) (from_on b a.at c.min-from.ensures) in omega (arith, (fed-within a.rows w (drop a.at b) a.reply.now).taken_in, ap (λ (k : Hosted). k.taken) e, length-drop a.at b, c.ranges.at)

pub returns : goal.returns
unfolding host_part
returns c = let a = c.args in let w = world a.t a.chars.now a.attrs.now in let b = a.bytes.now in let e = c.feed-a.ensures ∙ ap (λ (p : List ℕ). fed a.rows w p a.reply.now) (from_on b a.at c.min-from.ensures) in ap (λ (k : Hosted). part k.number (a.at + k.taken) k.written k.world k.reply) e
