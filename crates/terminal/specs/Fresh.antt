-- What the call for a fresh terminal leaves. Assumes nothing.
use Rattle.std.specs.Prelude.{ℕ, cond, not, List, [], ◌∷◌, eqb}
use Rattle.terminal.specs.declared.FreshAnswer.{FreshAnswer}
use Rattle.terminal.specs.Refusals.{◌when◌, first_refusal}
use Rattle.terminal.specs.State.{World, world, fresh_state, fresh_world, is_sized}

-- the answer's number, and the state with the two buffers
pub record Freshened : Type 0 where
  pub number : ℕ
  pub world : World

abbrev pub fresh_left : FreshAnswer → List ℕ → List ℕ → Freshened
fresh_left r chars attrs = record { number = r.number; world = world r.state chars attrs }

-- the one test: a memory buffer is not of the right size
unfoldable pub fresh_refusal : ℕ → List ℕ → List ℕ → ℕ
fresh_refusal rows chars attrs = first_refusal ((1 when not (is_sized rows chars attrs)) ∷ [])

-- a refusal leaves the buffers; no state was handed in, so the one handed back is fresh all the same
unfoldable pub freshened : ℕ → List ℕ → List ℕ → Freshened
freshened rows chars attrs =
    let n = fresh_refusal rows chars attrs in
    record { number = n; world = cond (eqb n 0) (fresh_world rows) (world (fresh_state rows) chars attrs) }
