-- A computed test that keys keep apart from posts: `apart_by` gives `Apart` where it passes. Assumes nothing.
use mathlib.Core.Path.{◌≡◌, refl, subst}
use mathlib.Core.Bool.{Bool, true, false, cond, ◌&&◌, ◌||◌, not, false≢true, and-eq-true_iff}
use mathlib.Core.List.{List, [], ◌∷◌}
use Prim.Native.Nat.{ℕ, ◌≤◌}
use native.Mathlib.Omega.{arith}
use lib.Dec.{eqb, leb}
use borrow.Author.Tests.{eqb-true, eqb-false, leb-true, not-true}
use Rattle.std.specs.Prelude.{Option, Some, None}
use Rattle.cells.proofs.Search.{not-both}
use Rattle.cursor.specs.Cursor.{cell_of}
use Rattle.cells.specs.Range.{within}
use Rattle.fields.specs.Fields.{marks, target, holds, nth_field, field_end}
use Rattle.fields.proofs.Numbers.{holds-field}
use Rattle.terminal.specs.State.{World}
use Rattle.mixing.specs.Event.{Event, key}
use Rattle.mixing.specs.Mix.{Post, texts_to, Apart}
use Rattle.promises.specs.Mixing.{Key, handled, Reaches, Reach, NotEnter}

-- each post's field passes
unfoldable pub every : {T : Type 0} → (ℕ → Bool) → List (Post T) → Bool
every p [] = true
every p (q ∷ ps) = p q.field && every p ps

-- then no post names a field that does not
unnamed : {T : Type 0} (p : ℕ → Bool) (ps : List (Post T)) (f : ℕ) → every p ps ≡ true → ¬ (p f ≡ true) → texts_to f ps ≡ []
unfolding every
unnamed p [] f t n = refl
unnamed p (q ∷ ps) f t n = go (eqb q.field f) refl (unnamed p ps f b.1 n)
  where
    b : (p q.field ≡ true) × (every p ps ≡ true)
    b = (and-eq-true_iff (p q.field) (every p ps)).0 t

    go : (c : Bool) → eqb q.field f ≡ c → texts_to f ps ≡ [] → cond c (q.text ∷ texts_to f ps) (texts_to f ps) ≡ []
    go true e ih = absurd (n (subst (λ (g : ℕ). p g ≡ true) (eqb-true q.field f e) b.0))
    go false e ih = ih

-- the field ends before the cell, or is none
abbrev ends_before : List ℕ → ℕ → Option ℕ → Bool
ends_before ms cell (Some k) = leb (field_end ms k) cell
ends_before ms cell None = true

abbrev holds_not : List ℕ → ℕ → Option ℕ → Bool
holds_not ms f (Some k) = not (holds ms f k)
holds_not ms f None = true

abbrev is_none : Option ℕ → Bool
is_none (Some k) = false
is_none None = true

-- the key does not reach the field
unfoldable pub spares : ℕ → List ℕ → ℕ → ℕ → Bool
spares code ms cell f =
    cond (within 32 126 code) (holds_not ms f (target ms cell))
    (cond (eqb code 265 || eqb code 267) (not (holds ms f cell))
    (cond (eqb code 264) (ends_before ms cell (nth_field ms f))
    (cond (eqb code 261) (is_none (nth_field ms f))
    true)))

-- what the outcomes of a test refute, the choice refutes
refuted : (b : Bool) {P Q : Type 0} {s t : Bool} → (P → ¬ (s ≡ true)) → (Q → ¬ (t ≡ true)) → cond b P Q → ¬ (cond b s t ≡ true)
refuted true p q = p
refuted false p q = q

module _ (code : ℕ) (ms : List ℕ) (cell f : ℕ) where
  not-in-target : (k : ℕ) (g : Option ℕ) → g ≡ Some k → holds ms f k ≡ true → ¬ (holds_not ms f g ≡ true)
  not-in-target k g e h t =
      let r : not (holds ms f k) ≡ true = subst (λ (g : Option ℕ). holds_not ms f g ≡ true) e t in
      not-both h (not-true (holds ms f k) r)

  not_after : (k : ℕ) → cell ≤ k → holds ms f k ≡ true → ¬ (ends_before ms cell (nth_field ms f) ≡ true)
  not_after k l h t =
      let r = holds-field ms f k h in
      let u : leb (field_end ms r.0) cell ≡ true = subst (λ (g : Option ℕ). ends_before ms cell g ≡ true) r.1 t in
      omega (arith, leb-true (field_end ms r.0) cell u, r.3)

  not_none : (k : ℕ) → holds ms f k ≡ true → ¬ (is_none (nth_field ms f) ≡ true)
  not_none k h t =
      let r = holds-field ms f k h in
      false≢true (subst (λ (g : Option ℕ). is_none g ≡ true) r.1 t)

  spared : Reaches code ms cell f → ¬ (spares code ms cell f ≡ true)
  unfolding spares
  spared =
      refuted (within 32 126 code) (λ r. not-in-target r.0 (target ms cell) r.1 r.2)
      (refuted (eqb code 265 || eqb code 267) (λ r t. not-both r (not-true (holds ms f cell) t))
      (refuted (eqb code 264) (λ r. not_after r.0 r.1 r.2)
      (refuted (eqb code 261) (λ r. not_none r.0 r.1)
      (λ r. absurd r))))

-- no key is ENTER, and each spares the posts' fields where the keys before it have come to
unfoldable pub keep_apart : {T : Type 0} → ℕ → List (Post T) → List Key → World → Bool
keep_apart rows ps [] w = true
keep_apart rows ps (k ∷ ks) w =
    not (eqb k.code 273) && (every (spares k.code (marks w.attrs) (cell_of w.state.cursor)) ps && keep_apart rows ps ks (handled rows (key k) w))

-- whatever a post does, where a key does what it does
pub apart_by_step : {T : Type 0} (step : Event Key T → World → World) (rows : ℕ) → ((k : Key) (w : World) → step (key k) w ≡ handled rows (key k) w) → (ps : List (Post T)) (ks : List Key) (w : World)
    → keep_apart rows ps ks w ≡ true → Apart step Reach NotEnter ps ks w
unfolding keep_apart
apart_by_step step rows same ps [] w t = tt
apart_by_step step rows same ps (k ∷ ks) w t =
    let ms = marks w.attrs in
    let cell = cell_of w.state.cursor in
    let next = handled rows (key k) w in
    let a = (and-eq-true_iff (not (eqb k.code 273)) _).0 t in
    let b = (and-eq-true_iff (every (spares k.code ms cell) ps) (keep_apart rows ps ks next)).0 a.1 in (
      eqb-false k.code 273 (not-true (eqb k.code 273) a.0),
      λ f r. unnamed (spares k.code ms cell) ps f b.0 (spared k.code ms cell f r),
      rw (same k w) (apart_by_step step rows same ps ks next b.1),
    )

pub apart_by : (rows : ℕ) (ps : List (Post (List ℕ))) (ks : List Key) (w : World) → keep_apart rows ps ks w ≡ true → Apart (handled rows) Reach NotEnter ps ks w
apart_by rows = apart_by_step (handled rows) rows (λ k v. refl)
