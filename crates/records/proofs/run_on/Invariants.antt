-- `records::run_on` meets its contract. The loop's invariant: the calls left, from data byte `at` on, leave what all calls leave; the reply buffer keeps its room, and at most as
-- many reply bytes a call are added up. Assumes nothing.
use Prim.Native.Nat.{◌-◌, ◌*◌, ◌≤◌}
use mathlib.Core.Path.{◌≡◌}
use lib.ListN.{length}
use Rattle.terminal.specs.State.{world}
use Rattle.records.specs.Records.{ran_from, record_ran}
use Rattle.records.proofs.run_on.Given as goal

abbrev pub invariant-loop : goal.invariant-loop
invariant-loop l =
    (l.sum ≤ l.counter * 15360) × (l.counter ≤ 81) × (length l.chars ≡ length l.initial.chars) × (length l.attrs ≡ length l.initial.attrs) × (length l.reply ≡ length l.initial.reply)
    × (ran_from l.rows (81 - l.counter) (world l.u l.chars l.attrs) l.bytes l.at l.sum ≡ record_ran l.rows (world l.initial.u l.initial.chars l.initial.attrs) l.bytes)
