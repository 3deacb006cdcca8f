-- Cells seen through a test: what stands in those that pass, and nothing elsewhere. Two views by one test are equal exactly when the cells that pass are.
-- Assumes nothing.
use mathlib.Core.Path.{◌≡◌, refl, sym, ap, ◌∙◌, fun_ext}
use mathlib.Core.Bool.{Bool, true, false, cond}
use mathlib.Core.Option.{Option, none, some}
use Prim.Native.Nat.{ℕ}

module _ {C : Type 0} where
  abbrev pub view : (ℕ → Bool) → (ℕ → C) → ℕ → Option C
  view p c i = cond (p i) (some (c i)) none

  -- cells that are the same give equal views, and equal views have the same cells
  pub view-same : (p q : ℕ → Bool) (c d : ℕ → C) → p ≡ q → ((i : ℕ) → p i ≡ true → c i ≡ d i) → view p c ≡ view q d
  view-same p q c d e h = fun_ext (λ i. go i (p i) refl (sym (ap (λ (t : ℕ → Bool). t i) e)))
    where
      go : (i : ℕ) (b : Bool) → p i ≡ b → q i ≡ p i → view p c i ≡ view q d i
      go i true a b = rw (a, b ∙ a) (ap some (h i a))
      go i false a b = rw (a, b ∙ a)

  pub view-at : (p q : ℕ → Bool) (c d : ℕ → C) → p ≡ q → view p c ≡ view q d → (i : ℕ) → p i ≡ true → c i ≡ d i
  view-at p q c d e h i a =
      let b : q i ≡ true = sym (ap (λ (t : ℕ → Bool). t i) e) ∙ a in
      let s : some (c i) ≡ some (d i) = rw (a, b) at (ap (λ (v : ℕ → Option C). v i) h) in
      cc
