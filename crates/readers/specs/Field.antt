-- Only proofs and inner contracts need this: the tests of reading back that do not look at the field, and those that do, with what they leave. Assumes nothing.
use Rattle.std.specs.Prelude.{ℕ, Bool, ◌&&◌, not, List, [], ◌∷◌, length, ltb, Option, is_none, Result, Ok, Err}
use Rattle.terminal.specs.declared.refusal.Refusal.{Refusal}
use Rattle.terminal.specs.State.{World, is_good, is_sized}
use Rattle.terminal.specs.Numbers.{number_of}
use Rattle.terminal.specs.Refusals.{◌when◌, first_refusal}
use Rattle.readers.specs.Owners.{is_table, Read, read_with}

unfoldable pub early_refusal : ℕ → World → List ℕ → ℕ
early_refusal rows w owners =
    first_refusal ((1 when not (is_sized rows w.chars w.attrs && is_table owners)) ∷ (2 when not (is_good rows w.state)) ∷ (8 when not w.state.format) ∷ [])

unfoldable pub late_refusal : List ℕ → Bool → Option ℕ → ℕ → ℕ
late_refusal text owned found room = first_refusal ((9 when is_none found) ∷ (13 when not owned) ∷ (7 when ltb room (length text)) ∷ [])

-- the text of the field that was found, read back by one who owns it or does not
unfoldable pub read_in : List ℕ → Bool → Option ℕ → List ℕ → Read
read_in text owned found out = read_with (late_refusal text owned found (length out)) text out

-- what an inner call leaves that gives how many bytes it wrote, or why it is refused
abbrev pub written_left : Result ℕ Refusal → List ℕ → Read
written_left (Ok written) out = record { number = 0; written = written; out = out }
written_left (Err refusal) out = record { number = number_of refusal; written = 0; out = out }
