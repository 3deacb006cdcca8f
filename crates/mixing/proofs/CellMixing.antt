-- The mixing theorem for a machine of cells: `CellLaws` gives `Laws`, and `CellSums` gives `Sums`. Assumes nothing.
use mathlib.Core.Path.{◌≡◌, refl, sym, ap, ◌∙◌, subst}
use mathlib.Core.Bool.{Bool, true, false, ◌&&◌, not, false≢true}
use mathlib.Core.List.{List}
use mathlib.Core.Option.{Option}
use Prim.Native.Nat.{ℕ, ◌<◌}
use lib.Dec.{eqb, ltb}
use borrow.Author.Tests.{eqb-true, eq-eqb, ltb-true, lt-ltb, not-true}
use Rattle.mixing.specs.Event.{Event, key, post}
use Rattle.mixing.specs.Mix.{Post, Mixed, Apart, Agree}
use Rattle.mixing.proofs.Cellwise.{Cellwise, frame_of, SameCells, Lives, KeyLaw, PostLaw, CellLaws, CellSums}
use Rattle.mixing.proofs.Machine.{Machine, Local, Quiet, Laws, Tally, Sums}
use Rattle.mixing.proofs.Summing.{mixes_agree}
use Rattle.mixing.proofs.View.{view, view-same, view-at}

-- the two parts of a conjunction
and_left : (a b : Bool) → (a && b) ≡ true → a ≡ true
and_left true b h = refl
and_left false b h = h

and_right : (a b : Bool) → (a && b) ≡ true → b ≡ true
and_right true b h = h
and_right false b h = absurd (false≢true h)

module _ {K T : Type 0} (M : Cellwise K T) where
  -- the cells that are protected, and those of the field f
  abbrev protected : M.W → ℕ → Bool
  protected w i = ltb i M.size && not (M.unprotected w i)

  abbrev in_field : M.W → ℕ → ℕ → Bool
  in_field w f i = ltb i M.size && (M.unprotected w i && eqb (M.number w i) f)

  -- the state, and what stands in the protected cells
  pub record Shape : Type 0 where
    pub state : M.S
    pub kept : ℕ → Option M.C

  abbrev pub shape_of : M.X → Shape
  shape_of x = record { state = M.state x; kept = view (protected (frame_of M x)) (λ i. M.cell i x) }

  abbrev pub text_of : ℕ → M.X → ℕ → Option M.C
  text_of f x = view (in_field (frame_of M x) f) (λ i. M.cell i x)

  abbrev pub machine : Machine K T
  machine =
      record {
        X = M.X;
        A = M.A;
        S = Shape;
        D = ℕ → Option M.C;
        W = M.W;
        step = M.step;
        ans = M.ans;
        shape = shape_of;
        text = text_of;
        frame = λ s. M.frame s.state;
        Live = λ s. M.Live s.state;
        Reads = λ k s f. M.Reads k s.state f;
        Reach = λ k s f. M.Reach k s.state f;
      }

  -- what the two tests say, both ways
  protected-of : (w : M.W) (i : ℕ) → i < M.size → M.unprotected w i ≡ false → protected w i ≡ true
  protected-of w i l e = rw (lt-ltb i M.size l, e)

  of-protected : (w : M.W) (i : ℕ) → protected w i ≡ true → (i < M.size) × (M.unprotected w i ≡ false)
  of-protected w i h = (
    ltb-true i M.size (and_left (ltb i M.size) (not (M.unprotected w i)) h),
    not-true (M.unprotected w i) (and_right (ltb i M.size) (not (M.unprotected w i)) h),
  )

  field_of : (w : M.W) (f i : ℕ) → i < M.size → M.unprotected w i ≡ true → M.number w i ≡ f → in_field w f i ≡ true
  field_of w f i l o n = rw (lt-ltb i M.size l, o) (eq-eqb (M.number w i) f n)

  of_field : (w : M.W) (f i : ℕ) → in_field w f i ≡ true → (i < M.size) × (M.unprotected w i ≡ true) × (M.number w i ≡ f)
  of_field w f i h =
      let r = and_right (ltb i M.size) (M.unprotected w i && eqb (M.number w i) f) h in (
        ltb-true i M.size (and_left (ltb i M.size) (M.unprotected w i && eqb (M.number w i) f) h),
        and_left (M.unprotected w i) (eqb (M.number w i) f) r,
        eqb-true (M.number w i) f (and_right (M.unprotected w i) (eqb (M.number w i) f) r),
      )

  module _ (x y : M.X) where
    -- views by cells
    same_kept : frame_of M x ≡ frame_of M y → ((i : ℕ) → i < M.size → M.unprotected (frame_of M x) i ≡ false → M.cell i x ≡ M.cell i y)
        → (shape_of x).kept ≡ (shape_of y).kept
    same_kept e h =
        view-same (protected (frame_of M x)) (protected (frame_of M y)) (λ i. M.cell i x) (λ i. M.cell i y) (ap protected e)
        (λ i p. let q = of-protected (frame_of M x) i p in h i q.0 q.1)

    same_text : (f : ℕ) → frame_of M x ≡ frame_of M y
        → ((i : ℕ) → i < M.size → M.unprotected (frame_of M x) i ≡ true → M.number (frame_of M x) i ≡ f → M.cell i x ≡ M.cell i y)
        → text_of f x ≡ text_of f y
    same_text f e h =
        view-same (in_field (frame_of M x) f) (in_field (frame_of M y) f) (λ i. M.cell i x) (λ i. M.cell i y) (ap (λ (w : M.W). in_field w f) e)
        (λ i p. let q = of_field (frame_of M x) f i p in h i q.0 q.1 q.2)

    -- and cells by views
    text_at : (f : ℕ) → frame_of M x ≡ frame_of M y → text_of f x ≡ text_of f y
        → (i : ℕ) → i < M.size → M.unprotected (frame_of M x) i ≡ true → M.number (frame_of M x) i ≡ f → M.cell i x ≡ M.cell i y
    text_at f e h i l o n =
        view-at (in_field (frame_of M x) f) (in_field (frame_of M y) f) (λ i. M.cell i x) (λ i. M.cell i y) (ap (λ (w : M.W). in_field w f) e) h i
        (field_of (frame_of M x) f i l o n)

    -- what two configurations of one shape share
    same-state : shape_of x ≡ shape_of y → M.state x ≡ M.state y
    same-state s = ap (λ (z : Shape). z.state) s

    also-lives : shape_of x ≡ shape_of y → Lives M x → Lives M y
    also-lives s v = subst M.Live (same-state s) v

    same-cells : (P : ℕ → Type 0) → shape_of x ≡ shape_of y → ((f : ℕ) → P f → text_of f x ≡ text_of f y) → SameCells M P x y
    same-cells P s h i l p = go (M.unprotected (frame_of M x) i) refl
      where
        e : frame_of M x ≡ frame_of M y
        e = ap M.frame (same-state s)

        go : (b : Bool) → M.unprotected (frame_of M x) i ≡ b → M.cell i x ≡ M.cell i y
        go true o = text_at (M.number (frame_of M x) i) e (h (M.number (frame_of M x) i) (p o)) i l o refl
        go false o =
            view-at (protected (frame_of M x)) (protected (frame_of M y)) (λ i. M.cell i x) (λ i. M.cell i y) (ap protected e) (ap (λ (z : Shape). z.kept) s) i
            (protected-of (frame_of M x) i l o)

  -- a key's law on cells makes it local, and a post's makes it quiet
  local : (k : K) → KeyLaw M k → Local machine k
  local k c =
      record {
        answer = λ x y v s r. c.answer x y v (also-lives x y s v) (same-state x y s) (same-cells x y (M.Reads k (M.state x)) s r);
        shapes = shapes;
        texts = texts;
        other = λ x f v r.
            sym
            (same_text x (M.step (key k) x) f (sym (c.steps.framed x v))
            (λ i l o n. sym (c.steps.writes.stays x i l v (λ a. subst (λ (m : ℕ). ¬ M.Reach k (M.state x) m) (sym n) r))));
        reads = λ s f r. c.reads s.state f r;
        live = c.steps.live;
        framed = c.steps.framed;
      }
    where
      kept : (x : M.X) → Lives M x → (shape_of x).kept ≡ (shape_of (M.step (key k) x)).kept
      kept x v =
          same_kept x (M.step (key k) x) (sym (c.steps.framed x v)) (λ i l o. sym (c.steps.writes.stays x i l v (λ a. absurd (false≢true (sym o ∙ a)))))

      shapes : (x y : M.X) → Lives M x → shape_of x ≡ shape_of y → ((f : ℕ) → M.Reads k (M.state x) f → text_of f x ≡ text_of f y)
          → shape_of (M.step (key k) x) ≡ shape_of (M.step (key k) y)
      shapes x y v s r =
          let e : M.state x ≡ M.state y = same-state x y s in
          let u : Lives M y = also-lives x y s v in
          let st = c.steps.states x y v u e (same-cells x y (M.Reads k (M.state x)) s r) in
          let ke = sym (kept x v) ∙ ap (λ (z : Shape). z.kept) s ∙ kept y u in
          λ i. record { state = st i; kept = ke i }

      texts : (x y : M.X) (f : ℕ) → Lives M x → shape_of x ≡ shape_of y → text_of f x ≡ text_of f y
          → text_of f (M.step (key k) x) ≡ text_of f (M.step (key k) y)
      texts x y f v s h =
          let e : M.state x ≡ M.state y = same-state x y s in
          let u : Lives M y = also-lives x y s v in
          let fx = c.steps.framed x v in
          same_text (M.step (key k) x) (M.step (key k) y) f (fx ∙ ap M.frame e ∙ sym (c.steps.framed y u))
          (λ i l o n.
          let o' : M.unprotected (frame_of M x) i ≡ true = sym (ap (λ (w : M.W). M.unprotected w i) fx) ∙ o in
          let n' : M.number (frame_of M x) i ≡ f = sym (ap (λ (w : M.W). M.number w i) fx) ∙ n in
          c.steps.writes.own x y i l v u e o'
          (same-cells x y (λ g. g ≡ M.number (frame_of M x) i) s (λ g q. subst (λ (m : ℕ). text_of m x ≡ text_of m y) (sym (q ∙ n')) h)))

  quiet : (g : ℕ) (t : T) → PostLaw M g t → Quiet machine g t
  quiet g t c =
      record {
        still = λ x v.
            let st = c.still x v in
            let ke = sym
            (same_kept x (M.step (post g t) x) (sym (framed x v)) (λ i l o. sym (c.stays x i l v (λ a. absurd (false≢true (sym o ∙ a)))))) in
            λ i. record { state = st i; kept = ke i };
        answer = λ x y v w e h. c.answer x y v w e;
        own = λ x y v w e h.
            same_text (M.step (post g t) x) (M.step (post g t) y) g (framed x v ∙ e ∙ sym (framed y w))
            (λ i l o n.
            let o' : M.unprotected (frame_of M x) i ≡ true = sym (ap (λ (w : M.W). M.unprotected w i) (framed x v)) ∙ o in
            let n' : M.number (frame_of M x) i ≡ g = sym (ap (λ (w : M.W). M.number w i) (framed x v)) ∙ n in
            c.own x y i l v w e o' n' (text_at x y g e h i l o' n'));
        other = λ x f v d.
            sym (same_text x (M.step (post g t) x) f (sym (framed x v)) (λ i l o n. sym (c.stays x i l v (λ a e. d (sym e ∙ n)))));
      }
    where
      framed : (x : M.X) → Lives M x → frame_of M (M.step (post g t) x) ≡ frame_of M x
      framed x v = ap M.frame (c.still x v)

  cell_laws : (Ok : K → Type 0) → CellLaws M Ok → Laws machine Ok
  cell_laws Ok c = record { keys = λ k o. local k (c.keys k o); posts = λ g t. quiet g t (c.posts g t) }

  cell-sums : (Y : Tally (Event K T) M.X) (Ok : K → Type 0) → CellSums M Y Ok → Sums machine Y Ok
  cell-sums Y Ok c =
      record {
        swap = c.swap;
        summed = c.summed;
        keys = λ k o x y v s r. c.keys k o x y v (also-lives x y s v) (same-state x y s) (same-cells x y (M.Reach k (M.state x)) s r);
        posts = λ g t x y v w e h. c.posts g t x y v w e (text_at x y g e h);
        ext = λ x y v s h. c.ext x y v (also-lives x y s v) (same-state x y s) (λ i l. same-cells x y (λ f. Unit {0}) s (λ f u. h f) i l (λ o. tt));
      }

  -- THE MIXING THEOREM for a machine of cells
  pub cells_agree : (Y : Tally (Event K T) M.X) (Ok : K → Type 0) → CellLaws M Ok → CellSums M Y Ok
      → (ks : List K) (ps : List (Post T)) (es es' : List (Event K T)) → Mixed ks ps es → Mixed ks ps es'
      → (x : M.X) → Lives M x → Apart M.step (λ k y f. M.Reach k (M.state y) f) Ok ps ks x → Agree M.step M.ans es es' x
  cells_agree Y Ok c s = mixes_agree machine Y Ok (cell_laws Ok c) (cell-sums Y Ok s)
