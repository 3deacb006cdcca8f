-- `Mixed` leaves no mix out and lets nothing else in (`mixed_exactly`): `mixed-keys` and `mixed-posts` one way, `complete` the other. Assumes nothing.
use mathlib.Core.Path.{◌≡◌, refl, sym, ap, ◌∙◌, subst}
use mathlib.Core.Bool.{Bool, true, false, cond}
use mathlib.Core.List.{List, [], ◌∷◌}
use Prim.Native.Nat.{ℕ}
use lib.Dec.{eqb}
use borrow.Author.Tests.{eqb-true, eqb-false, eq-eqb}
use Rattle.mixing.specs.Event.{Event, key, post, keys_of, posts_to}
use Rattle.mixing.specs.Mix.{Post, Takes, here, later, Mixed, done, a_key, a_post, texts_to, Unnamed, MixedExactly}
use Rattle.mixing.proofs.Events.{cons-not-nil}

module _ {T : Type 0} where
  -- taking a post out takes the first text of its field, and leaves the other fields' texts
  pub takes-texts : (p : Post T) (f : ℕ) {ps qs : List (Post T)} → Takes p ps qs → texts_to f ps ≡ cond (eqb p.field f) (p.text ∷ texts_to f qs) (texts_to f qs)
  takes-texts p f here = refl
  takes-texts p f (later {q = q} {qs = qs} n t) = go (takes-texts p f t) (eqb q.field f) refl (eqb p.field f) refl
    where
      go : {r : List T} → r ≡ cond (eqb p.field f) (p.text ∷ texts_to f qs) (texts_to f qs)
          → (b : Bool) → eqb q.field f ≡ b → (c : Bool) → eqb p.field f ≡ c
          → cond (eqb q.field f) (q.text ∷ r) r
          ≡ cond (eqb p.field f) (p.text ∷ cond (eqb q.field f) (q.text ∷ texts_to f qs) (texts_to f qs)) (cond (eqb q.field f) (q.text ∷ texts_to f qs) (texts_to f qs))
      go ih true b true c = absurd (n (eqb-true q.field f b ∙ sym (eqb-true p.field f c)))
      go ih true b false c = rw (b, c) (ap (λ (l : List T). q.text ∷ l) (rw c at ih))
      go ih false b c e = rw b ih

-- whether a post of the list names the field
pub unnamed? : {T : Type 0} (f : ℕ) (ps : List (Post T)) → Dec (Unnamed ps f)
unnamed? {T} f ps = go (texts_to f ps)
  where
    go : (l : List T) → Dec (l ≡ [])
    go [] = yes refl
    go (t ∷ l) = no (cons-not-nil t l)

module _ {K T : Type 0} where
  -- a mix has the keys in order, and each field's posts in order
  pub mixed-keys : {ks : List K} {ps : List (Post T)} {es : List (Event K T)} → Mixed ks ps es → keys_of es ≡ ks
  mixed-keys done = refl
  mixed-keys (a_key {k = k} m) = cc (mixed-keys m)
  mixed-keys (a_post t m) = mixed-keys m

  pub mixed-posts : (f : ℕ) {ks : List K} {ps : List (Post T)} {es : List (Event K T)} → Mixed ks ps es → posts_to f es ≡ texts_to f ps
  mixed-posts f done = refl
  mixed-posts f (a_key m) = mixed-posts f m
  mixed-posts f (a_post {p = p} {es = es} t m) = rw (← mixed-posts f m) at (sym (takes-texts p f t))

module _ {T : Type 0} where
  -- a post whose text is the first of its field can be taken out
  pub take_out : (p : Post T) (l : List T) (ps : List (Post T)) → texts_to p.field ps ≡ p.text ∷ l → (qs : List (Post T)) × Takes p ps qs
  take_out p l [] h = absurd (cons-not-nil p.text l (sym h))
  take_out p l (q ∷ ps) h = go (take_out p l ps) (eqb q.field p.field) refl h
    where
      go : (texts_to p.field ps ≡ p.text ∷ l → (qs : List (Post T)) × Takes p ps qs)
          → (b : Bool) → eqb q.field p.field ≡ b → texts_to p.field (q ∷ ps) ≡ p.text ∷ l → (qs : List (Post T)) × Takes p (q ∷ ps) qs
      go ih true e w =
          let v : q.text ∷ texts_to p.field ps ≡ p.text ∷ l = rw e at w in
          let f : q.field ≡ p.field = eqb-true q.field p.field e in
          let t : q.text ≡ p.text = cc in
          let same : p ≡ q = λ i. record { field = sym f i; text = sym t i } in
          (ps, subst (λ (r : Post T). Takes p (r ∷ ps) ps) same here)
      go ih false e w =
          let r = ih (rw e at w) in
          (q ∷ r.0, later (eqb-false q.field p.field e) r.1)

  pub no-posts : (ps : List (Post T)) → ((f : ℕ) → [] ≡ texts_to f ps) → [] ≡ ps
  no-posts [] h = refl
  no-posts (p ∷ ps) h = absurd (cons-not-nil p.text (texts_to p.field ps) (sym (rw (eq-eqb p.field p.field refl) at (h p.field))))

-- and every list that has them so is a mix
complete : {K T : Type 0} (es : List (Event K T)) (ps : List (Post T)) → ((f : ℕ) → posts_to f es ≡ texts_to f ps) → Mixed (keys_of es) ps es
complete {K} {T} [] ps h = subst (λ (r : List (Post T)). Mixed {K = K} [] r []) (no-posts ps h) done
complete (key k ∷ es) ps h = a_key (complete es ps h)
complete {K} {T} (post f t ∷ es) ps h = a_post {p = p} out.1 (complete es out.0 (λ g. rest g (eqb f g) refl (h g) (takes-texts p g out.1)))
  where
    p : Post T
    p = record { field = f; text = t }

    out : (qs : List (Post T)) × Takes p ps qs
    out = take_out p (posts_to f es) ps (rw (eq-eqb f f refl) at (sym (h f)))

    rest : (g : ℕ) (b : Bool) → eqb f g ≡ b → posts_to g (post f t ∷ es) ≡ texts_to g ps → texts_to g ps ≡ cond (eqb f g) (t ∷ texts_to g out.0) (texts_to g out.0)
        → posts_to g es ≡ texts_to g out.0
    rest g true e u v = let w : t ∷ posts_to g es ≡ t ∷ texts_to g out.0 = rw e at (u ∙ v) in cc
    rest g false e u v = rw e at (u ∙ v)

pub mixed_exactly : MixedExactly
mixed_exactly K T ks ps es = (
  λ m. (mixed-keys m, λ f. mixed-posts f m),
  λ h. rw h.0 at (complete es ps h.1),
)
