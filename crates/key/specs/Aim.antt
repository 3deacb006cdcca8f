-- Only proofs and inner contracts need this: the number of a text key with format on, once the tests before it have passed. Assumes nothing.
use Rattle.std.specs.Prelude.{ℕ, List, [], ◌∷◌, Option, is_none}
use Rattle.terminal.specs.Refusals.{◌when◌, first_refusal}
use Rattle.key.specs.Keys.{disallows}

unfoldable pub aim_refusal : ℕ → List ℕ → Option ℕ → ℕ
aim_refusal v ms found = first_refusal ((5 when is_none found) ∷ (6 when disallows ms v found) ∷ [])
