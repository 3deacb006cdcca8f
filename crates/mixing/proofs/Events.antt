-- Lists of events: their keys, and their posts to one field, as the events that a test keeps; lists with no post to a field. Assumes nothing.
use mathlib.Core.Path.{◌≡◌, refl}
use mathlib.Core.Bool.{Bool, true, false}
use mathlib.Core.List.{List, [], ◌∷◌, map}
use Prim.Native.Nat.{ℕ}
use native.Mathlib.Omega.{arith}
use lib.Dec.{eqb}
use borrow.Author.Tests.{eqb-true, eq-eqb}
use Rattle.mixing.specs.Event.{Event, key, post, answers, filtered, is_key, is_post, keys_of, posts_to}
use Rattle.mixing.proofs.Unwind.{Each}

pub cons-not-nil : {A : Type 0} (a : A) (l : List A) → a ∷ l ≡ [] → ⊥
cons-not-nil a l p = let z : ◌≡◌ {A = ℕ} 0 1 = cc in omega arith

module _ {K T : Type 0} where
  -- no post of the list names the field
  abbrev pub Free : ℕ → List (Event K T) → Type 0
  Free f es = posts_to f es ≡ []

  -- the events that are left are the keys, or the posts to one field
  pub filtered-keys : (es : List (Event K T)) → filtered is_key es ≡ map key (keys_of es)
  filtered-keys [] = refl
  filtered-keys (key k ∷ es) = cc (filtered-keys es)
  filtered-keys (post f t ∷ es) = filtered-keys es

  pub filtered-posts : (f : ℕ) (es : List (Event K T)) → filtered (is_post f) es ≡ map (post f) (posts_to f es)
  filtered-posts f [] = refl
  filtered-posts f (key k ∷ es) = filtered-posts f es
  filtered-posts f (post g t ∷ es) = go (eqb g f) refl (filtered-posts f es)
    where
      go : (b : Bool) → eqb g f ≡ b → filtered (is_post f) es ≡ map (post f) (posts_to f es)
          → filtered (is_post f) (post g t ∷ es) ≡ map (post f) (posts_to f (post g t ∷ es))
      go true p ih = rw p (cc (eqb-true g f p))
      go false p ih = rw p ih

  -- each post of a list names a field that is not free in it
  abbrev pub Named : (ℕ → Type 0) → Event K T → Type 0
  Named F (key k) = Unit {0}
  Named F (post g t) = ¬ F g

  pub each-named : (F : ℕ → Type 0) (es : List (Event K T)) → ((f : ℕ) → F f → Free f es) → Each (Named F) es
  each-named F [] h = tt
  each-named F (key k ∷ es) h = (tt, each-named F es h)
  each-named F (post g t ∷ es) h =
      (λ w. cons-not-nil t (posts_to g es) (rw (eq-eqb g g refl) at (h g w)), each-named F es (λ f w. go f (eqb g f) refl (h f w)))
    where
      go : (f : ℕ) (b : Bool) → eqb g f ≡ b → Free f (post g t ∷ es) → Free f es
      go f true p w = absurd (cons-not-nil t (posts_to f es) (rw p at w))
      go f false p w = rw p at w

  -- posts that are not there get no answer
  pub no-answers : {X A : Type 0} (step : Event K T → X → X) (ans : Event K T → X → A) (f : ℕ) (es : List (Event K T)) (x : X)
      → Free f es → answers step ans (is_post f) es x ≡ []
  no-answers step ans f [] x h = refl
  no-answers step ans f (key k ∷ es) x h = no-answers step ans f es (step (key k) x) h
  no-answers step ans f (post g t ∷ es) x h = go (no-answers step ans f es (step (post g t) x)) (eqb g f) refl h
    where
      go : (Free f es → answers step ans (is_post f) es (step (post g t) x) ≡ []) → (b : Bool) → eqb g f ≡ b → Free f (post g t ∷ es)
          → answers step ans (is_post f) (post g t ∷ es) x ≡ []
      go ih true p w = absurd (cons-not-nil t (posts_to f es) (rw p at w))
      go ih false p w = rw p (ih (rw p at w))
