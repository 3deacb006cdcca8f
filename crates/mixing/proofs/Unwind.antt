-- Unwinding: where a relation between configurations is kept by the events that are seen, and does not notice the others, a run of all
-- events ends as the run of the seen ones alone, and they get the same answers. Assumes nothing.
use mathlib.Core.Path.{◌≡◌, refl}
use mathlib.Core.Bool.{Bool, true, false}
use mathlib.Core.List.{List, [], ◌∷◌}
use Rattle.mixing.specs.Event.{run, answers, filtered, Throughout}

-- the test that every event passes
abbrev pub any : {E : Type 0} → E → Bool
any e = true

-- a property of each event of a list
abbrev pub Each : {E : Type 0} → (E → Type 0) → List E → Type 0
Each P [] = Unit {0}
Each P (e ∷ es) = P e × Each P es

module _ {E X A : Type 0} (step : E → X → X) (ans : E → X → A) (sel : E → Bool) (Rel : X → X → Type 0) where
  abbrev pub Same : List E → List E → X → X → Type 0
  Same es es' x y = Rel (run step es x) (run step es' y) × (answers step ans sel es x ≡ answers step ans any es' y)

  module _
      (Safe : E → X → Type 0)
      (seen : (e : E) (x y : X) → sel e ≡ true → Safe e x → Rel x y → (ans e x ≡ ans e y) × Rel (step e x) (step e y))
      (unseen : (e : E) (x y : X) → sel e ≡ false → Safe e x → Rel x y → Rel (step e x) y)
    where
      pub unwind : (es : List E) (x y : X) → Throughout step Safe es x → Rel x y → Same es (filtered sel es) x y
      unwind [] x y safe r = (r, refl)
      unwind (e ∷ es) x y safe r = go (unwind es) (sel e) refl
        where
          go : ((x y : X) → Throughout step Safe es x → Rel x y → Same es (filtered sel es) x y)
              → (b : Bool) → sel e ≡ b → Same (e ∷ es) (filtered sel (e ∷ es)) x y
          go ih true p =
              let s = seen e x y p safe.0 r in
              let t = ih (step e x) (step e y) safe.1 s.1 in
              rw p (t.0, cc)
          go ih false p = rw p (ih (step e x) y safe.1 (unseen e x y p safe.0 r))

      -- where safety goes by what the relation keeps, and that of an unseen event by the event alone, it is enough that the run of the seen
      -- events is safe
      module _
          (Ready : E → Type 0)
          (carry : (e : E) (x y : X) → sel e ≡ true → Rel x y → Safe e y → Safe e x)
          (always : (e : E) (x : X) → sel e ≡ false → Ready e → Safe e x)
        where
          pub lift : (es : List E) (x y : X) → Each Ready es → Throughout step Safe (filtered sel es) y → Rel x y → Throughout step Safe es x
          lift [] x y each safe r = tt
          lift (e ∷ es) x y each safe r = go (lift es) (sel e) refl safe
            where
              go : ((x y : X) → Each Ready es → Throughout step Safe (filtered sel es) y → Rel x y → Throughout step Safe es x)
                  → (b : Bool) → sel e ≡ b → Throughout step Safe (filtered sel (e ∷ es)) y → Throughout step Safe (e ∷ es) x
              go ih true p w =
                  let v : Throughout step Safe (e ∷ filtered sel es) y = rw p at w in
                  let h : Safe e x = carry e x y p r v.0 in
                  (h, ih (step e x) (step e y) each.1 v.1 (seen e x y p h r).1)
              go ih false p w =
                  let v : Throughout step Safe (filtered sel es) y = rw p at w in
                  let h : Safe e x = always e x p each.0 in
                  (h, ih (step e x) y each.1 v (unseen e x y p h r))
