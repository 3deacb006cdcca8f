-- The mixing promise: which lists of events are mixes of given keys and posts (`Mixed`, `MixedExactly`), when the keys keep apart from the posts (`Apart`), what
-- two mixes share (`Agree`). Nothing here knows the terminal: a step, an answer and a reach are parameters. Assumes nothing.
use Rattle.std.specs.Prelude.{◌≡◌, cond, ◌↔◌, List, [], ◌∷◌, ℕ, eqb}
use Rattle.mixing.specs.Event.{Event, key, post, run, answers, is_key, is_post, keys_of, posts_to}

pub record Post (T : Type 0) : Type 0 where
  pub field : ℕ
  pub text : T

module _ {T : Type 0} where
  -- the texts that a list of posts has for the field f, in order
  abbrev pub texts_to : ℕ → List (Post T) → List T
  texts_to f [] = []
  texts_to f (p ∷ ps) = cond (eqb p.field f) (p.text ∷ texts_to f ps) (texts_to f ps)

  -- no post of the list names the field f
  abbrev pub Unnamed : List (Post T) → ℕ → Type 0
  Unnamed ps f = texts_to f ps ≡ []

  -- `Takes p ps qs`: qs is ps less the post p, before which ps has no post to p's field
  pub data Takes (p : Post T) : List (Post T) → List (Post T) → Type 0 where
    here : {ps : List (Post T)} → Takes p (p ∷ ps) ps
    later : {q : Post T} {ps qs : List (Post T)} → ¬ (q.field ≡ p.field) → Takes p ps qs → Takes p (q ∷ ps) (q ∷ qs)

  -- es mixes the keys ks and the posts ps in some way that keeps the keys' order and the order of the posts to each single field
  pub data Mixed {K : Type 0} : List K → List (Post T) → List (Event K T) → Type 0 where
    done : Mixed [] [] []
    a_key : {k : K} {ks : List K} {ps : List (Post T)} {es : List (Event K T)} → Mixed ks ps es → Mixed (k ∷ ks) ps (key k ∷ es)
    a_post : {p : Post T} {ks : List K} {ps qs : List (Post T)} {es : List (Event K T)}
        → Takes p ps qs → Mixed ks qs es → Mixed ks ps (post p.field p.text ∷ es)

-- `Mixed` leaves no mix out and lets nothing else in: es is a mix of ks and ps exactly when its keys are ks, in order, and its posts to each field those of ps,
-- in order
abbrev pub MixedExactly : Type 1
MixedExactly =
    (K T : Type 0) (ks : List K) (ps : List (Post T)) (es : List (Event K T))
    → Mixed ks ps es ↔ ((keys_of es ≡ ks) × ((f : ℕ) → posts_to f es ≡ texts_to f ps))

-- each key is allowed, and where the keys alone have come to from x, it reaches no field that a post of ps names
abbrev pub Apart : {K T X : Type 0} → (Event K T → X → X) → (K → X → ℕ → Type 0) → (K → Type 0) → List (Post T) → List K → X → Type 0
Apart step Reach Ok ps [] x = Unit {0}
Apart step Reach Ok ps (k ∷ ks) x = Ok k × ((f : ℕ) → Reach k x f → Unnamed ps f) × Apart step Reach Ok ps ks (step (key k) x)

-- two lists of events, run from x, end alike, and give each key and each post the same answer
pub record Agree {K T X A : Type 0} (step : Event K T → X → X) (ans : Event K T → X → A) (es es' : List (Event K T)) (x : X) : Type 0 where
  pub ends : run step es x ≡ run step es' x
  pub keys : answers step ans is_key es x ≡ answers step ans is_key es' x
  pub posts : (f : ℕ) → answers step ans (is_post f) es x ≡ answers step ans (is_post f) es' x
