-- `records::run_from_on` meets its contract: each kind by its own function, what is no record by its refusal. Assumes nothing.
use Prim.Native.Nat.{ℕ}
use mathlib.Core.Path.{ap, sym, ◌∙◌}
use mathlib.Core.List.{List}
use native.Mathlib.Omega.{arith}
use Rattle.terminal.specs.State.{world}
use Rattle.terminal.proofs.Refusals.{not-done}
use Rattle.records.specs.Records.{data_of, host_part, key_part, post_part}
use Rattle.records.proofs.Running.{other-form, host-record, key-record, post-record}
use Rattle.records.proofs.run_from_on.Goals as goal

pub returns-in-Ok-Host : goal.returns-in-Ok-Host
returns-in-Ok-Host c =
    let a = c.args in
    let w = world a.t a.chars.now a.attrs.now in
    let s = rw c.in-Ok-Host.field-0-is at c.in-Ok-Host.ensures in
    c.run_host.ensures ∙ ap (λ (p : List ℕ). host_part a.rows w p a.at a.reply.now) s.2 ∙ host-record a.rows w a.bytes.now a.at a.reply.now s.0 s.1

pub returns-in-Ok-Key : goal.returns-in-Ok-Key
returns-in-Ok-Key c =
    let a = c.args in
    let w = world a.t a.chars.now a.attrs.now in
    let s = rw c.in-Ok-Key.field-0-is at c.in-Ok-Key.ensures in
    c.run_key.ensures ∙ ap (λ (k : ℕ). key_part a.rows w k a.at a.reply.now) s.2 ∙ key-record a.rows w a.bytes.now a.at a.reply.now s.0 (λ z. omega (arith, s.1)) s.1

pub returns-in-Ok-Post : goal.returns-in-Ok-Post
returns-in-Ok-Post c =
    let a = c.args in
    let r = a.bytes.now in
    let w = world a.t a.chars.now a.attrs.now in
    let s = rw c.in-Ok-Post.field-0-is at c.in-Ok-Post.ensures in
    c.run_post.ensures ∙ ap (λ (p : List ℕ). post_part a.rows w c.in-Ok-Post.field p a.at a.reply.now) s.3
    ∙ ap (λ (k : ℕ). post_part a.rows w k (data_of r) a.at a.reply.now) s.2
    ∙ post-record a.rows w r a.at a.reply.now s.0 (λ z. omega (arith, s.1)) (λ z. omega (arith, s.1))

pub returns-in-Err : goal.returns-in-Err
returns-in-Err c =
    let a = c.args in
    other-form a.rows (world a.t a.chars.now a.attrs.now) a.bytes.now a.at a.reply.now (c.number.ensures ∙ c.in-Err.ensures) (λ z. not-done c.in-Err.refusal (sym c.number.ensures ∙ z))
