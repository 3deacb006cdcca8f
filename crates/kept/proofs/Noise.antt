-- Sequences that are spoiled and recovered, a stream cut inside a sequence, and what the ESC is for: the checker computes them. Assumes nothing.
use Prim.Native.Nat.{ℕ, ◌≤◌}
use mathlib.Core.Path.{refl}
use mathlib.Core.List.{List}
use native.Mathlib.Omega.{arith}
use Rattle.terminal.specs.State.{Sound}
use Rattle.terminal.proofs.Good.{fresh-sound}
use Rattle.streams.proofs.Kept.{fed-sound}
use Rattle.cases.specs.Cases.{same, same_stops, same_state, same_memory, same_world, stands_at, start, room, after, gives, failing}
use Rattle.cases.proofs.Rules.{rules}
use Rattle.promises.specs.Noise.{meant, spoiled, recovers, broken_off, leaves, noise_cases, NoiseCases, EscNeeded}
use Rattle.kept.proofs.Witness.{cell-differs}

-- what they compute with
unfoldable noise : ℕ
unfolding rules same same_stops same_state same_memory same_world stands_at start room after gives failing recovers broken_off leaves noise_cases
noise = 0

-- where the two terminals come from
after-sound : {rows : ℕ} → 24 ≤ rows → rows ≤ 96 → (bytes : List ℕ) → Sound rows (after rows bytes)
unfolding after start
after-sound some few bytes = fed-sound (fresh-sound some few) bytes _

-- ---- on 96 rows
pub noise-cases-96 : NoiseCases 96
unfolding noise
noise-cases-96 = refl

pub esc-needed-96 : EscNeeded 96
unfolding noise
esc-needed-96 =
    record {
      misread = record { sound = after-sound (omega arith) (omega arith) meant; other_sound = after-sound (omega arith) (omega arith) spoiled; else_same = refl };
      differ = cell-differs 12 refl;
    }

-- ---- on 48 rows
pub noise-cases-48 : NoiseCases 48
unfolding noise
noise-cases-48 = refl

pub esc-needed-48 : EscNeeded 48
unfolding noise
esc-needed-48 =
    record {
      misread = record { sound = after-sound (omega arith) (omega arith) meant; other_sound = after-sound (omega arith) (omega arith) spoiled; else_same = refl };
      differ = cell-differs 12 refl;
    }
