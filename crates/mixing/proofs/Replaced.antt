-- Events that are replaced by others which leave and answer the same, and are seen alike: runs and answers stay. Assumes nothing.
use mathlib.Core.Path.{◌≡◌, refl, ap, ◌∙◌}
use mathlib.Core.Bool.{Bool, true, false, cond}
use mathlib.Core.List.{List, [], ◌∷◌, map}
use Rattle.mixing.specs.Event.{run, answers, filtered, Throughout}

module _ {E : Type 0} (sel : E → Bool) (f : E → E) (seen : (e : E) → sel (f e) ≡ sel e) where
  pub filtered-replaced : (es : List E) → filtered sel (map f es) ≡ map f (filtered sel es)
  filtered-replaced [] = refl
  filtered-replaced (e ∷ es) = rw (seen e) (go (sel e) (filtered-replaced es))
    where
      go : (b : Bool) → filtered sel (map f es) ≡ map f (filtered sel es)
          → cond b (f e ∷ filtered sel (map f es)) (filtered sel (map f es)) ≡ map f (cond b (e ∷ filtered sel es) (filtered sel es))
      go true h = ap (λ (l : List E). f e ∷ l) h
      go false h = h

  module _ {X A : Type 0} (step : E → X → X) (ans : E → X → A) (left : (e : E) (x : X) → step (f e) x ≡ step e x) where
    pub run-replaced : (es : List E) (x : X) → run step (map f es) x ≡ run step es x
    run-replaced [] x = refl
    run-replaced (e ∷ es) x = ap (run step (map f es)) (left e x) ∙ run-replaced es (step e x)

    pub answers-replaced : ((e : E) (x : X) → ans (f e) x ≡ ans e x) → (es : List E) (x : X) → answers step ans sel (map f es) x ≡ answers step ans sel es x
    answers-replaced told [] x = refl
    answers-replaced told (e ∷ es) x =
        rw (seen e, told e x, left e x) (ap (λ (l : List A). cond (sel e) (ans e x ∷ l) l) (answers-replaced told es (step e x)))

    pub throughout-replaced : (P : E → X → Type 0) → ((e : E) (x : X) → P e x → P (f e) x) → (es : List E) (x : X) → Throughout step P es x → Throughout step P (map f es) x
    throughout-replaced P carry [] x t = tt
    throughout-replaced P carry (e ∷ es) x t = (carry e x t.0, rw (left e x) (throughout-replaced P carry es (step e x) t.1))
