-- The law of a step from its parts: `skip`, `choice` and `either` for the tests, `keeps` and `gated` for the cells, `fit` to make it the law that is asked for.
-- Assumes nothing.
use mathlib.Core.Path.{◌≡◌, refl, sym, ◌∙◌}
use mathlib.Core.Bool.{Bool, true, false, cond}
use Prim.Native.Nat.{ℕ, ◌<◌}
use Rattle.mixing.proofs.Cellwise.{Cellwise, frame_of, Among, SameCells, Writes, Steps, Lives}

module _ {K T : Type 0} (M : Cellwise K T) where
  -- a step that writes nothing
  pub keeps : (At : M.X → Type 0) (f : M.X → M.X) (Reach : M.S → ℕ → Type 0) → ((x : M.X) (i : ℕ) → i < M.size → At x → M.cell i (f x) ≡ M.cell i x)
      → Writes M At f Reach
  keeps At f Reach h =
      record {
        own = λ x y i l a b e o s. h x i l a ∙ s i l (λ u. refl) ∙ sym (h y i l b);
        stays = λ x i l a r. h x i l a;
      }

  -- a step that writes u in the cells that pass t: unprotected cells of fields in reach, and u goes by the cells of the field
  pub gated : (At : M.X → Type 0) (f : M.X → M.X) (Reach : M.S → ℕ → Type 0) (t : M.X → ℕ → Bool) (u : M.X → ℕ → M.C)
      → ((x : M.X) (i : ℕ) → i < M.size → At x → M.cell i (f x) ≡ cond (t x i) (u x i) (M.cell i x))
      → ((x y : M.X) (i : ℕ) → i < M.size → At x → At y → M.state x ≡ M.state y → t x i ≡ t y i)
      → ((x : M.X) (i : ℕ) → i < M.size → At x → t x i ≡ true → (M.unprotected (frame_of M x) i ≡ true) × Reach (M.state x) (M.number (frame_of M x) i))
      → ((x y : M.X) (i : ℕ) → i < M.size → At x → At y → M.state x ≡ M.state y → t x i ≡ true
      → SameCells M (λ g. g ≡ M.number (frame_of M x) i) x y → u x i ≡ u y i)
      → Writes M At f Reach
  gated At f Reach t u write test hit value =
      record {
        own = λ x y i l a b e o s. write x i l a ∙ own x y i l a b e s (t x i) refl (sym (test x y i l a b e)) ∙ sym (write y i l b);
        stays = λ x i l a r. write x i l a ∙ stays x i l a r (t x i) refl;
      }
    where
      own : (x y : M.X) (i : ℕ) → i < M.size → At x → At y → M.state x ≡ M.state y → SameCells M (λ g. g ≡ M.number (frame_of M x) i) x y
          → (c : Bool) → t x i ≡ c → t y i ≡ t x i → cond (t x i) (u x i) (M.cell i x) ≡ cond (t y i) (u y i) (M.cell i y)
      own x y i l a b e s true p q = rw (p, q ∙ p) (value x y i l a b e p s)
      own x y i l a b e s false p q = rw (p, q ∙ p) (s i l (λ o. refl))

      stays : (x : M.X) (i : ℕ) → i < M.size → At x → Among M (λ g. ¬ Reach (M.state x) g) x i → (c : Bool) → t x i ≡ c
          → cond (t x i) (u x i) (M.cell i x) ≡ M.cell i x
      stays x i l a r true p = let h = hit x i l a p in absurd (r h.0 h.1)
      stays x i l a r false p = rw p

  -- no step
  pub skip : (At : M.X → Type 0) (Reads Reach : M.S → ℕ → Type 0) → ((x : M.X) → At x → Lives M x) → Steps M At (λ x. x) Reads Reach
  skip At Reads Reach v =
      record {
        states = λ x y a b e s. e;
        live = v;
        framed = λ x a. refl;
        writes = keeps At (λ x. x) Reach (λ x i l a. refl);
      }

  -- one of two steps, by the key alone
  pub choice : (At : M.X → Type 0) (b : Bool) (f g : M.X → M.X) (Reads Reach : M.S → ℕ → Type 0)
      → (b ≡ true → Steps M At f Reads Reach) → (b ≡ false → Steps M At g Reads Reach) → Steps M At (λ x. cond b (f x) (g x)) Reads Reach
  choice At true f g Reads Reach h k = h refl
  choice At false f g Reads Reach h k = k refl

  -- one of two steps, by a test that goes by the state
  pub either : (At : M.X → Type 0) (t : M.X → Bool) (f g : M.X → M.X) (Reads Reach : M.S → ℕ → Type 0)
      → ((x y : M.X) → At x → At y → M.state x ≡ M.state y → t x ≡ t y)
      → Steps M (λ x. At x × (t x ≡ true)) f Reads Reach → Steps M (λ x. At x × (t x ≡ false)) g Reads Reach
      → Steps M At (λ x. cond (t x) (f x) (g x)) Reads Reach
  either At t f g Reads Reach test yes-law no-law =
      record {
        states = λ x y a b e s. two x y (λ z w. M.state z ≡ M.state w) (test x y a b e)
            (λ p q. yes-law.states x y (a, p) (b, q) e s) (λ p q. no-law.states x y (a, p) (b, q) e s);
        live = λ x a. one x (Lives M) (λ p. yes-law.live x (a, p)) (λ p. no-law.live x (a, p));
        framed = λ x a. one x (λ z. frame_of M z ≡ frame_of M x) (λ p. yes-law.framed x (a, p)) (λ p. no-law.framed x (a, p));
        writes =
            record {
              own = λ x y i l a b e o s. two x y (λ z w. M.cell i z ≡ M.cell i w) (test x y a b e)
                  (λ p q. yes-law.writes.own x y i l (a, p) (b, q) e o s) (λ p q. no-law.writes.own x y i l (a, p) (b, q) e o s);
              stays = λ x i l a r. one x (λ z. M.cell i z ≡ M.cell i x) (λ p. yes-law.writes.stays x i l (a, p) r) (λ p. no-law.writes.stays x i l (a, p) r);
            };
      }
    where
      one : (x : M.X) (P : M.X → Type 0) → (t x ≡ true → P (f x)) → (t x ≡ false → P (g x)) → P (cond (t x) (f x) (g x))
      one x P h k = go (t x) refl
        where
          go : (c : Bool) → t x ≡ c → P (cond (t x) (f x) (g x))
          go true p = rw p (h p)
          go false p = rw p (k p)

      two : (x y : M.X) (P : M.X → M.X → Type 0) → t x ≡ t y → (t x ≡ true → t y ≡ true → P (f x) (f y)) → (t x ≡ false → t y ≡ false → P (g x) (g y))
          → P (cond (t x) (f x) (g x)) (cond (t y) (f y) (g y))
      two x y P e h k = go (t x) refl (sym e)
        where
          go : (c : Bool) → t x ≡ c → t y ≡ t x → P (cond (t x) (f x) (g x)) (cond (t y) (f y) (g y))
          go true p q = rw (p, q ∙ p) (h p (q ∙ p))
          go false p q = rw (p, q ∙ p) (k p (q ∙ p))

  -- a law also holds at fewer places, and where more is said to be read and reached
  pub fit : (At Be : M.X → Type 0) (f : M.X → M.X) (Reads Reads' Reach Reach' : M.S → ℕ → Type 0) → ((x : M.X) → Be x → At x)
      → ((s : M.S) (g : ℕ) → Reads s g → Reads' s g) → ((s : M.S) (g : ℕ) → Reach s g → Reach' s g) → Steps M At f Reads Reach → Steps M Be f Reads' Reach'
  fit At Be f Reads Reads' Reach Reach' at more far c =
      record {
        states = λ x y a b e s. c.states x y (at x a) (at y b) e (λ i l p. s i l (λ o. more (M.state x) (M.number (frame_of M x) i) (p o)));
        live = λ x a. c.live x (at x a);
        framed = λ x a. c.framed x (at x a);
        writes =
            record {
              own = λ x y i l a b e o s. c.writes.own x y i l (at x a) (at y b) e o s;
              stays = λ x i l a r. c.writes.stays x i l (at x a) (λ o w. r o (far (M.state x) (M.number (frame_of M x) i) w));
            };
      }
