-- Events, a run of them, and the answers that they get. Nothing here knows the terminal. Assumes nothing.
use Rattle.std.specs.Prelude.{Bool, true, false, cond, List, [], ◌∷◌, ℕ, eqb}

-- a key, or a post that names a field
pub data Event (K T : Type 0) : Type 0 where
  key : K → Event K T
  post : ℕ → T → Event K T

-- the events in turn, each on what the one before it left
abbrev pub run : {E X : Type 0} → (E → X → X) → List E → X → X
run step [] x = x
run step (e ∷ es) x = run step es (step e x)

-- the answers, in a run of all events, of those that pass a test, in order
abbrev pub answers : {E X A : Type 0} → (E → X → X) → (E → X → A) → (E → Bool) → List E → X → List A
answers step ans sel [] x = []
answers step ans sel (e ∷ es) x = cond (sel e) (ans e x ∷ answers step ans sel es (step e x)) (answers step ans sel es (step e x))

-- the events that pass a test, in order
abbrev pub filtered : {E : Type 0} → (E → Bool) → List E → List E
filtered sel [] = []
filtered sel (e ∷ es) = cond (sel e) (e ∷ filtered sel es) (filtered sel es)

-- P holds of each event of a list where the run has come to
abbrev pub Throughout : {E X : Type 0} → (E → X → X) → (E → X → Type 0) → List E → X → Type 0
Throughout step P [] x = Unit {0}
Throughout step P (e ∷ es) x = P e x × Throughout step P es (step e x)

module _ {K T : Type 0} where
  abbrev pub is_key : Event K T → Bool
  is_key (key k) = true
  is_key (post f t) = false

  -- a post to the field f
  abbrev pub is_post : ℕ → Event K T → Bool
  is_post f (key k) = false
  is_post f (post g t) = eqb g f

  -- the keys of a list of events, and the texts of its posts to the field f, in order
  abbrev pub keys_of : List (Event K T) → List K
  keys_of [] = []
  keys_of (key k ∷ es) = k ∷ keys_of es
  keys_of (post f t ∷ es) = keys_of es

  abbrev pub posts_to : ℕ → List (Event K T) → List T
  posts_to f [] = []
  posts_to f (key k ∷ es) = posts_to f es
  posts_to f (post g t ∷ es) = cond (eqb g f) (t ∷ posts_to f es) (posts_to f es)
