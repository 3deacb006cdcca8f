-- Two mixes of the same keys and posts are alike: the keys' part of each ends as the run of the keys alone, and a posted field as the run of the posts to it
-- alone. Each is an unwinding. Assumes nothing.
use mathlib.Core.Path.{◌≡◌, refl, sym, ◌∙◌, subst}
use mathlib.Core.Bool.{true, false, true≢false, false≢true}
use mathlib.Core.List.{List, [], ◌∷◌, map}
use Prim.Native.Nat.{ℕ}
use borrow.Author.Tests.{eqb-true, eqb-false}
use Rattle.mixing.specs.Event.{Event, key, post, run, answers, Throughout, is_key, is_post, keys_of, posts_to}
use Rattle.mixing.specs.Mix.{Post, Unnamed, Mixed, texts_to, Apart}
use Rattle.mixing.proofs.Events.{Free, Named, each-named, filtered-keys, filtered-posts, no-answers}
use Rattle.mixing.proofs.Machine.{Machine, Laws, reach}
use Rattle.mixing.proofs.Mixes.{mixed-keys, mixed-posts, unnamed?}
use Rattle.mixing.proofs.Unwind.{Same, unwind, lift}

module _ {K T : Type 0} (M : Machine K T) (Ok : K → Type 0) (F : ℕ → Type 0) where
  -- a key that reaches only fields of F; a post to a field that is not of F
  abbrev pub Safe : Event K T → M.X → Type 0
  Safe (key k) x = Ok k × ((f : ℕ) → M.Reach k (M.shape x) f → F f)
  Safe (post g t) x = ¬ F g

  -- the keys' part: the shape, and the texts of F
  abbrev pub RelK : M.X → M.X → Type 0
  RelK x y = M.Live (M.shape x) × (M.shape x ≡ M.shape y) × ((f : ℕ) → F f → M.text f x ≡ M.text f y)

  -- the part of the posts to f: the frame, and the text of f
  abbrev pub RelP : ℕ → M.X → M.X → Type 0
  RelP f x y = M.Live (M.shape x) × M.Live (M.shape y) × (M.frame (M.shape x) ≡ M.frame (M.shape y)) × (M.text f x ≡ M.text f y)

  module _ (L : Laws M Ok) where
    -- keys keep the keys' part, and posts do not disturb it
    seen_key : (e : Event K T) (x y : M.X) → is_key e ≡ true → Safe e x → RelK x y → (M.ans e x ≡ M.ans e y) × RelK (M.step e x) (M.step e y)
    seen_key (post g t) x y p s r = absurd (false≢true p)
    seen_key (key k) x y p s r =
        let l = L.keys k s.0 in
        let same : (f : ℕ) → M.Reads k (M.shape x) f → M.text f x ≡ M.text f y = λ f w. r.2 f (s.1 f (l.reads (M.shape x) f w)) in (
          l.answer x y r.0 r.1 same,
          (l.live x r.0, l.shapes x y r.0 r.1 same, λ f w. l.texts x y f r.0 r.1 (r.2 f w)),
        )

    unseen-key : (e : Event K T) (x y : M.X) → is_key e ≡ false → Safe e x → RelK x y → RelK (M.step e x) y
    unseen-key (key k) x y p s r = absurd (true≢false p)
    unseen-key (post g t) x y p s r =
        let q = L.posts g t in
        let still = q.still x r.0 in
        (rw still r.0, still ∙ r.1, λ f w. q.other x f r.0 (λ e. s (rw e w)) ∙ r.2 f w)

    -- a key is safe by the keys' part alone, and a post by its field alone
    carry-key : (e : Event K T) (x y : M.X) → is_key e ≡ true → RelK x y → Safe e y → Safe e x
    carry-key (post g t) x y p r s = s
    carry-key (key k) x y p r s = (s.0, λ f w. s.1 f (rw r.1 at w))

    ready-key : (e : Event K T) (x : M.X) → is_key e ≡ false → Named F e → Safe e x
    ready-key (key k) x p n = absurd (true≢false p)
    ready-key (post g t) x p n = n

    module _ (f : ℕ) (nf : ¬ F f) where
      -- the posts to f keep their part, and no other event disturbs it
      seen-post : (e : Event K T) (x y : M.X) → is_post f e ≡ true → Safe e x → RelP f x y → (M.ans e x ≡ M.ans e y) × RelP f (M.step e x) (M.step e y)
      seen-post (key k) x y p s r = absurd (false≢true p)
      seen-post (post g t) x y p s r =
          let q = L.posts g t in
          let e : g ≡ f = eqb-true g f p in
          let sx = q.still x r.0 in
          let sy = q.still y r.1 in
          let own : M.text g (M.step (post g t) x) ≡ M.text g (M.step (post g t) y) = q.own x y r.0 r.1 r.2 (rw e r.3) in (
            q.answer x y r.0 r.1 r.2 (rw e r.3),
            (rw sx r.0, rw sy r.1, cc, subst (λ (n : ℕ). M.text n (M.step (post g t) x) ≡ M.text n (M.step (post g t) y)) e own),
          )

      unseen-post : (e : Event K T) (x y : M.X) → is_post f e ≡ false → Safe e x → RelP f x y → RelP f (M.step e x) y
      unseen-post (key k) x y p s r =
          let l = L.keys k s.0 in
          (l.live x r.0, r.1, l.framed x r.0 ∙ r.2, l.other x f r.0 (λ w. nf (s.1 f w)) ∙ r.3)
      unseen-post (post g t) x y p s r =
          let q = L.posts g t in
          let sx = q.still x r.0 in
          (rw sx r.0, r.1, rw sx r.2, q.other x f r.0 (eqb-false g f p) ∙ r.3)

    -- every event of a list is safe where the keys alone are safe and its posts name no field of F
    pub all-safe : (es : List (Event K T)) (x : M.X) → M.Live (M.shape x) → ((f : ℕ) → F f → Free f es)
        → Throughout M.step Safe (map key (keys_of es)) x → Throughout M.step Safe es x
    all-safe es x v free safe =
        lift M.step M.ans is_key RelK Safe seen_key unseen-key (Named F) carry-key ready-key es x x (each-named F es free)
        (rw filtered-keys safe)
        (v, refl, λ f w. refl)

    -- the keys end, and are answered, as the keys alone
    pub keys-alone : (es : List (Event K T)) (x : M.X) → M.Live (M.shape x) → Throughout M.step Safe es x
        → Same M.step M.ans is_key RelK es (map key (keys_of es)) x x
    keys-alone es x v safe = rw filtered-keys at (unwind M.step M.ans is_key RelK Safe seen_key unseen-key es x x safe (v, refl, λ f w. refl))

    -- the posts to a field that is not of F end, and are answered, as those posts alone
    pub posts-alone : (f : ℕ) → ¬ F f → (es : List (Event K T)) (x : M.X) → M.Live (M.shape x) → Throughout M.step Safe es x
        → Same M.step M.ans (is_post f) (RelP f) es (map (post f) (posts_to f es)) x x
    posts-alone f nf es x v safe =
        rw filtered-posts at (unwind M.step M.ans (is_post f) (RelP f) Safe (seen-post f nf) (unseen-post f nf) es x x safe (v, v, refl, refl))

-- keys that keep apart from the posts are safe
pub apart-safe : {K T : Type 0} (M : Machine K T) (Ok : K → Type 0) (ps : List (Post T)) (ks : List K) (x : M.X)
    → Apart M.step (reach M) Ok ps ks x → Throughout M.step (Safe M Ok (Unnamed ps)) (map key ks) x
apart-safe M Ok ps [] x h = tt
apart-safe M Ok ps (k ∷ ks) x h = ((h.0, h.1), apart-safe M Ok ps ks (M.step (key k) x) h.2)

-- what two lists of events share, run from x, whatever is summed up beside
pub record Alike {K T : Type 0} (M : Machine K T) (es es' : List (Event K T)) (x : M.X) : Type 0 where
  pub live : M.Live (M.shape (run M.step es x))
  pub shapes : M.shape (run M.step es x) ≡ M.shape (run M.step es' x)
  pub texts : (f : ℕ) → M.text f (run M.step es x) ≡ M.text f (run M.step es' x)
  pub keys : answers M.step M.ans is_key es x ≡ answers M.step M.ans is_key es' x
  pub posts : (f : ℕ) → answers M.step M.ans (is_post f) es x ≡ answers M.step M.ans (is_post f) es' x

module _ {K T : Type 0} (M : Machine K T) (Ok : K → Type 0) (L : Laws M Ok) (ks : List K) (ps : List (Post T)) (x : M.X) (v : M.Live (M.shape x))
    (apart : Apart M.step (reach M) Ok ps ks x)
  where
    abbrev pub F : ℕ → Type 0
    F = Unnamed ps

    -- every event of a mix is safe
    pub mixed-safe : (es : List (Event K T)) → Mixed ks ps es → Throughout M.step (Safe M Ok F) es x
    mixed-safe es m = all-safe M Ok F L es x v (λ f w. mixed-posts f m ∙ w) (rw (mixed-keys m) (apart-safe M Ok ps ks x apart))

    keys : (es : List (Event K T)) → Mixed ks ps es → Same M.step M.ans is_key (RelK M Ok F) es (map key ks) x x
    keys es m = rw (mixed-keys m) at (keys-alone M Ok F L es x v (mixed-safe es m))

    posted : (f : ℕ) → ¬ F f → (es : List (Event K T)) → Mixed ks ps es
        → Same M.step M.ans (is_post f) (RelP M Ok F f) es (map (post f) (texts_to f ps)) x x
    posted f nf es m = rw (mixed-posts f m) at (posts-alone M Ok F L f nf es x v (mixed-safe es m))

    -- two mixes of the keys ks and the posts ps are alike, where no key's reach holds a field that a post of ps names
    pub mixes-alike : (es es' : List (Event K T)) → Mixed ks ps es → Mixed ks ps es' → Alike M es es' x
    mixes-alike es es' m m' =
        record {
          live = (keys es m).0.0;
          shapes = (keys es m).0.1 ∙ sym (keys es' m').0.1;
          texts = λ f. texts f (unnamed? f ps);
          keys = (keys es m).1 ∙ sym (keys es' m').1;
          posts = λ f. posts f (unnamed? f ps);
        }
      where
        texts : (f : ℕ) → Dec (F f) → M.text f (run M.step es x) ≡ M.text f (run M.step es' x)
        texts f (yes w) = (keys es m).0.2 f w ∙ sym ((keys es' m').0.2 f w)
        texts f (no n) = (posted f n es m).0.3 ∙ sym (posted f n es' m').0.3

        posts : (f : ℕ) → Dec (F f) → answers M.step M.ans (is_post f) es x ≡ answers M.step M.ans (is_post f) es' x
        posts f (yes w) = no-answers M.step M.ans f es x (mixed-posts f m ∙ w) ∙ sym (no-answers M.step M.ans f es' x (mixed-posts f m' ∙ w))
        posts f (no n) = (posted f n es m).1 ∙ sym (posted f n es' m').1
