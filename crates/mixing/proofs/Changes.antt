-- A sum of what changes: where each event adds something that goes by which cells differ after it from before it, the laws of keys and posts give the law of the
-- sum, and no key or post has to say more. Assumes nothing.
use mathlib.Core.Path.{◌≡◌, refl, sym, ap, ◌∙◌, subst}
use mathlib.Core.Bool.{Bool, true, false, false≢true}
use mathlib.Core.Logic.{◌↔◌}
use Prim.Native.Nat.{ℕ, ◌<◌}
use native.Mathlib.Decide.{ℕ_discrete}
use Rattle.mixing.specs.Event.{Event, key, post}
use Rattle.mixing.proofs.Machine.{Tally}
use Rattle.mixing.proofs.Cellwise.{Cellwise, frame_of, SameCells, Lives, CellLaws, AllCells, CellSums}

module _ {K T : Type 0} (M : Cellwise K T) {B : Type 0} (change : M.X → M.X → B) where
  -- each event adds the change that it makes
  abbrev pub changing : (M.X → B) → (B → B → B) → Tally (Event K T) M.X
  changing sum add = record { B = B; sum = sum; add = add; adds = λ e x. change x (M.step e x) }

  -- cell i stays from x to x' exactly when it does from y to y'
  abbrev pub SameStay : M.X → M.X → M.X → M.X → ℕ → Type 0
  SameStay x x' y y' i = (M.cell i x ≡ M.cell i x') ↔ (M.cell i y ≡ M.cell i y')

  -- a change goes by the cells that stay, and cells that cannot fail to be the same are
  module _
      (by-cells : (x x' y y' : M.X) → Lives M x → Lives M x' → Lives M y → Lives M y' → ((i : ℕ) → i < M.size → SameStay x x' y y' i) → change x x' ≡ change y y')
      (stable : (c d : M.C) → ¬ (¬ (c ≡ d)) → c ≡ d)
      (Ok : K → Type 0)
      (c : CellLaws M Ok)
    where
      module _ (i : ℕ) (x x' y y' : M.X) where
        -- a cell that stays in both, a cell that is alike before and after, and a cell of which it cannot fail
        both-stay : M.cell i x' ≡ M.cell i x → M.cell i y' ≡ M.cell i y → SameStay x x' y y' i
        both-stay h k = (λ q. sym k, λ q. sym h)

        alike : M.cell i x ≡ M.cell i y → M.cell i x' ≡ M.cell i y' → SameStay x x' y y' i
        alike h k = (λ q. sym h ∙ q ∙ k, λ q. h ∙ q ∙ sym k)

        settled : ¬ (¬ SameStay x x' y y' i) → SameStay x x' y y' i
        settled n = (
          λ q. stable (M.cell i y) (M.cell i y') (λ nay. n (λ f. nay (f.0 q))),
          λ q. stable (M.cell i x) (M.cell i x') (λ nay. n (λ f. nay (f.1 q))),
        )

      by_key : (k : K) → Ok k → (x y : M.X) → Lives M x → Lives M y → M.state x ≡ M.state y → SameCells M (M.Reach k (M.state x)) x y
          → (i : ℕ) → i < M.size → SameStay x (M.step (key k) x) y (M.step (key k) y) i
      by_key k o x y v w e s i l = go (M.unprotected (frame_of M x) i) refl
        where
          x' : M.X
          x' = M.step (key k) x

          y' : M.X
          y' = M.step (key k) y

          go : (b : Bool) → M.unprotected (frame_of M x) i ≡ b → SameStay x x' y y' i
          go false p =
              both-stay i x x' y y' ((c.keys k o).steps.writes.stays x i l v (λ q. absurd (false≢true (sym p ∙ q))))
              ((c.keys k o).steps.writes.stays y i l w (λ q. absurd (false≢true (sym p ∙ ap (λ (s : M.S). M.unprotected (M.frame s) i) e ∙ q))))
          go true p = settled i x x' y y' (λ nay. nay (out (λ r. nay (reached r))))
            where
              Hit : M.S → Type 0
              Hit s = M.Reach k s (M.number (M.frame s) i)

              reached : Hit (M.state x) → SameStay x x' y y' i
              reached r =
                  alike i x x' y y' (s i l (λ q. r))
                  ((c.keys k o).steps.writes.own x y i l v w e p (λ j m q. s j m (λ u. subst (M.Reach k (M.state x)) (sym (q u)) r)))

              out : ¬ Hit (M.state x) → SameStay x x' y y' i
              out r =
                  both-stay i x x' y y' ((c.keys k o).steps.writes.stays x i l v (λ q. r))
                  ((c.keys k o).steps.writes.stays y i l w (λ q h. r (subst Hit (sym e) h)))

      by_post : (g : ℕ) (t : T) (x y : M.X) → Lives M x → Lives M y → frame_of M x ≡ frame_of M y
          → ((i : ℕ) → i < M.size → M.unprotected (frame_of M x) i ≡ true → M.number (frame_of M x) i ≡ g → M.cell i x ≡ M.cell i y)
          → (i : ℕ) → i < M.size → SameStay x (M.step (post g t) x) y (M.step (post g t) y) i
      by_post g t x y v w e s i l = go (M.unprotected (frame_of M x) i) refl (ℕ_discrete (M.number (frame_of M x) i) g)
        where
          x' : M.X
          x' = M.step (post g t) x

          y' : M.X
          y' = M.step (post g t) y

          go : (b : Bool) → M.unprotected (frame_of M x) i ≡ b → Dec (M.number (frame_of M x) i ≡ g) → SameStay x x' y y' i
          go true p (yes n) = alike i x x' y y' (s i l p n) ((c.posts g t).own x y i l v w e p n (s i l p n))
          go true p (no n) =
              both-stay i x x' y y' ((c.posts g t).stays x i l v (λ q. n))
              ((c.posts g t).stays y i l w (λ q h. n (ap (λ (f : M.W). M.number f i) e ∙ h)))
          go false p d =
              both-stay i x x' y y' ((c.posts g t).stays x i l v (λ q. absurd (false≢true (sym p ∙ q))))
              ((c.posts g t).stays y i l w (λ q. absurd (false≢true (sym p ∙ ap (λ (f : M.W). M.unprotected f i) e ∙ q))))

      live_on : (g : ℕ) (t : T) (x : M.X) → Lives M x → Lives M (M.step (post g t) x)
      live_on g t x v = subst M.Live (sym ((c.posts g t).still x v)) v

      -- the law of the sum
      pub changes-sum : (sum : M.X → B) (add : B → B → B) → ((a b d : B) → add (add a b) d ≡ add (add a d) b)
          → ((e : Event K T) (x : M.X) → Lives M x → sum (M.step e x) ≡ add (sum x) (change x (M.step e x)))
          → ((x y : M.X) → Lives M x → Lives M y → M.state x ≡ M.state y → AllCells M x y → sum x ≡ sum y → x ≡ y)
          → CellSums M (changing sum add) Ok
      changes-sum sum add swap summed ext =
          record {
            swap = swap;
            summed = summed;
            keys = λ k o x y v w e s.
                by-cells x (M.step (key k) x) y (M.step (key k) y) v ((c.keys k o).steps.live x v) w ((c.keys k o).steps.live y w) (by_key k o x y v w e s);
            posts = λ g t x y v w e s.
                by-cells x (M.step (post g t) x) y (M.step (post g t) y) v (live_on g t x v) w (live_on g t y w) (by_post g t x y v w e s);
            ext = ext;
          }
