-- Two runs that differ only in events which write no cell but those of hidden fields: the other events are answered alike, and the runs end alike in all but the
-- cells of hidden fields. Each run is unwound to the run of the seen events alone. Assumes nothing.
use mathlib.Core.Path.{◌≡◌, refl, sym, ap, ◌∙◌, subst}
use mathlib.Core.Bool.{Bool, true, false, false≢true}
use mathlib.Core.List.{List}
use Prim.Native.Nat.{ℕ, ◌<◌}
use native.Mathlib.Decide.{ℕ_discrete}
use Rattle.mixing.specs.Event.{post, run, answers, filtered, Throughout}
use Rattle.mixing.proofs.Cellwise.{Cellwise, frame_of, Among, SameCells, Steps, Lives, PostLaw}
use Rattle.mixing.proofs.Unwind.{Same, unwind}

module _ {K T : Type 0} (M : Cellwise K T) (Hidden : ℕ → Type 0) where
  abbrev Shown : ℕ → Type 0
  Shown f = ¬ Hidden f

  -- alike in all but the cells of hidden fields: one state, and the same in each cell that is protected or of a field that is not hidden
  pub record Alike (x y : M.X) : Type 0 where
    pub states : M.state x ≡ M.state y
    pub cells : SameCells M Shown x y

  -- ---- what keeps two configurations alike
  -- a cell's field goes by the frame
  moved : {x y : M.X} (i : ℕ) → frame_of M x ≡ frame_of M y → (P : ℕ → Type 0) → Among M P x i → Among M P y i
  moved i e P h = subst (λ (w : M.W). M.unprotected w i ≡ true → P (M.number w i)) e h

  same-frame : {x y : M.X} → Alike x y → frame_of M x ≡ frame_of M y
  same-frame r = ap M.frame r.states

  -- a step whose next state reads no hidden field
  pub steps-follow : (At : M.X → Type 0) (f : M.X → M.X) (Reads Reach : M.S → ℕ → Type 0) → Steps M At f Reads Reach
      → ((s : M.S) (g : ℕ) → Reads s g → ¬ Hidden g) → (x y : M.X) → At x → At y → Alike x y → Alike (f x) (f y)
  steps-follow At f Reads Reach c blind x y a b r =
      record {
        states = c.states x y a b r.states (λ i l h. r.cells i l (λ o. blind (M.state x) (M.number (frame_of M x) i) (h o)));
        cells = λ i l h. go i l (moved i (c.framed x a) Shown h) (M.unprotected (frame_of M x) i) refl;
      }
    where
      go : (i : ℕ) → i < M.size → Among M Shown x i → (b : Bool) → M.unprotected (frame_of M x) i ≡ b → M.cell i (f x) ≡ M.cell i (f y)
      go i l h true o =
          c.writes.own x y i l a b r.states o (λ j m q. r.cells j m (λ u. subst Shown (sym (q u)) (h o)))
      go i l h false o =
          c.writes.stays x i l a (λ u. absurd (false≢true (sym o ∙ u))) ∙ r.cells i l h
          ∙ sym (c.writes.stays y i l b (λ u. absurd (false≢true (sym o ∙ ap (λ (w : M.W). M.unprotected w i) (same-frame r) ∙ u))))

  module _ {g : ℕ} {t : T} (c : PostLaw M g t) where
    -- a post to any field
    pub post-follows : (x y : M.X) → Lives M x → Alike x y → (M.ans (post g t) x ≡ M.ans (post g t) y) × Alike (M.step (post g t) x) (M.step (post g t) y)
    post-follows x y v r = (
      c.answer x y v w (same-frame r),
      record {
        states = c.still x v ∙ r.states ∙ sym (c.still y w);
        cells = λ i l h.
            let k = moved i (ap M.frame (c.still x v)) Shown h in
            go i l k (M.unprotected (frame_of M x) i) refl (ℕ_discrete (M.number (frame_of M x) i) g);
      },
    )
      where
        w : Lives M y
        w = subst M.Live r.states v

        stay : (i : ℕ) → i < M.size → Among M Shown x i → Among M (λ h. ¬ (h ≡ g)) x i → M.cell i (M.step (post g t) x) ≡ M.cell i (M.step (post g t) y)
        stay i l h k = c.stays x i l v k ∙ r.cells i l h ∙ sym (c.stays y i l w (moved i (same-frame r) (λ h. ¬ (h ≡ g)) k))

        go : (i : ℕ) → i < M.size → Among M Shown x i → (b : Bool) → M.unprotected (frame_of M x) i ≡ b → Dec (M.number (frame_of M x) i ≡ g)
            → M.cell i (M.step (post g t) x) ≡ M.cell i (M.step (post g t) y)
        go i l h true o (yes n) = c.own x y i l v w (same-frame r) o n (r.cells i l h)
        go i l h true o (no n) = stay i l h (λ u. n)
        go i l h false o d = stay i l h (λ u. absurd (false≢true (sym o ∙ u)))

    -- ---- what leaves a configuration like another
    -- a post to a hidden field
    pub post-hides : Hidden g → (x y : M.X) → Lives M x → Alike x y → Alike (M.step (post g t) x) y
    post-hides hidden x y v r =
        record {
          states = c.still x v ∙ r.states;
          cells = λ i l h.
              let k = moved i (ap M.frame (c.still x v)) Shown h in
              c.stays x i l v (λ o e. k o (subst Hidden (sym e) hidden)) ∙ r.cells i l k;
        }

  -- ---- the two runs, of any events
  module _ {E A : Type 0} (step : E → M.X → M.X) (ans : E → M.X → A) (seen : E → Bool) (Calm : E → M.X → Type 0)
      (follows : (e : E) (x y : M.X) → seen e ≡ true → Calm e x → Alike x y → (ans e x ≡ ans e y) × Alike (step e x) (step e y))
      (hides : (e : E) (x y : M.X) → seen e ≡ false → Calm e x → Alike x y → Alike (step e x) y)
    where
      start : (x : M.X) → Alike x x
      start x = record { states = refl; cells = λ i l h. refl }

      alone : (es : List E) (x : M.X) → Throughout step Calm es x → Same step ans seen Alike es (filtered seen es) x x
      alone es x t = unwind step ans seen Alike Calm follows hides es x x t (start x)

      -- through the run of the seen events alone
      join : (x y z : M.X) → Alike x z → Alike y z → Alike x y
      join x y z r s =
          record {
            states = r.states ∙ sym s.states;
            cells = λ i l h. r.cells i l h ∙ sym (s.cells i l (moved i (same-frame r ∙ sym (same-frame s)) Shown h));
          }

      -- what unseen events leave undisturbed
      pub undisturbed : (x : M.X) (es es' : List E) → filtered seen es ≡ filtered seen es' → Throughout step Calm es x → Throughout step Calm es' x
          → (answers step ans seen es x ≡ answers step ans seen es' x) × Alike (run step es x) (run step es' x)
      undisturbed x es es' same t t' =
          let a = alone es x t in
          let b : Same step ans seen Alike es' (filtered seen es) x x = rw same (alone es' x t') in
          (a.1 ∙ sym b.1, join (run step es x) (run step es' x) (run step (filtered seen es) x) a.0 b.0)
