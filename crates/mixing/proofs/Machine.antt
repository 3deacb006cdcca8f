-- What the mixing theorem asks of a machine of keys and posts: a locality law for each key, for each post that it is quiet, and of what the machine sums up
-- beside (`Tally`) that it goes by the same parts. Assumes nothing.
use mathlib.Core.Path.{◌≡◌}
use Prim.Native.Nat.{ℕ}
use Rattle.mixing.specs.Event.{Event, key, post}

-- A machine, seen as a shape (all but what stands in the fields) and one text for each field
pub record Machine (K T : Type 0) : Type 1 where
  -- configurations, answers, and the parts that are named below
  pub X : Type 0
  pub A : Type 0
  pub S : Type 0
  pub D : Type 0
  pub W : Type 0
  pub step : Event K T → X → X
  pub ans : Event K T → X → A
  pub shape : X → S
  pub text : ℕ → X → D
  -- the part of the shape that posts look at and keys keep: marks and locks, no cursor
  pub frame : S → W
  -- the shapes at which the laws hold
  pub Live : S → Type 0
  -- the answer to the key, or the next shape, may turn on the text of the field
  pub Reads : K → S → ℕ → Type 0
  -- or the key may change that text
  pub Reach : K → S → ℕ → Type 0

-- a key's reach where a configuration stands
abbrev pub reach : {K T : Type 0} (M : Machine K T) → K → M.X → ℕ → Type 0
reach M k x f = M.Reach k (M.shape x) f

module _ {K T : Type 0} (M : Machine K T) where
  -- The law of a key: its answer and the next shape go by the shape and the texts that it reads; the next text of a field by the shape and that
  -- field's own text; a text out of its reach stays
  pub record Local (k : K) : Type 0 where
    pub answer : (x y : M.X) → M.Live (M.shape x) → M.shape x ≡ M.shape y
        → ((f : ℕ) → M.Reads k (M.shape x) f → M.text f x ≡ M.text f y) → M.ans (key k) x ≡ M.ans (key k) y
    pub shapes : (x y : M.X) → M.Live (M.shape x) → M.shape x ≡ M.shape y
        → ((f : ℕ) → M.Reads k (M.shape x) f → M.text f x ≡ M.text f y) → M.shape (M.step (key k) x) ≡ M.shape (M.step (key k) y)
    pub texts : (x y : M.X) (f : ℕ) → M.Live (M.shape x) → M.shape x ≡ M.shape y
        → M.text f x ≡ M.text f y → M.text f (M.step (key k) x) ≡ M.text f (M.step (key k) y)
    pub other : (x : M.X) (f : ℕ) → M.Live (M.shape x) → ¬ (M.Reach k (M.shape x) f) → M.text f (M.step (key k) x) ≡ M.text f x
    pub reads : (s : M.S) (f : ℕ) → M.Reads k s f → M.Reach k s f
    pub live : (x : M.X) → M.Live (M.shape x) → M.Live (M.shape (M.step (key k) x))
    pub framed : (x : M.X) → M.Live (M.shape x) → M.frame (M.shape (M.step (key k) x)) ≡ M.frame (M.shape x)

  -- The law of a post of t to g: it keeps the shape and every other text; its answer and the next text of g go by the frame and that text
  pub record Quiet (g : ℕ) (t : T) : Type 0 where
    pub still : (x : M.X) → M.Live (M.shape x) → M.shape (M.step (post g t) x) ≡ M.shape x
    pub answer : (x y : M.X) → M.Live (M.shape x) → M.Live (M.shape y) → M.frame (M.shape x) ≡ M.frame (M.shape y)
        → M.text g x ≡ M.text g y → M.ans (post g t) x ≡ M.ans (post g t) y
    pub own : (x y : M.X) → M.Live (M.shape x) → M.Live (M.shape y) → M.frame (M.shape x) ≡ M.frame (M.shape y)
        → M.text g x ≡ M.text g y → M.text g (M.step (post g t) x) ≡ M.text g (M.step (post g t) y)
    pub other : (x : M.X) (f : ℕ) → M.Live (M.shape x) → ¬ (g ≡ f) → M.text f (M.step (post g t) x) ≡ M.text f x

  -- The laws of a machine: each key that is allowed is local, each post is quiet
  pub record Laws (Ok : K → Type 0) : Type 0 where
    pub keys : (k : K) → Ok k → Local k
    pub posts : (g : ℕ) (t : T) → Quiet g t

-- What a machine sums up, beside its shape and its texts: each event adds to a sum that no event reads
pub record Tally (E X : Type 0) : Type 1 where
  pub B : Type 0
  pub sum : X → B
  pub add : B → B → B
  pub adds : E → X → B

module _ {K T : Type 0} (M : Machine K T) (Y : Tally (Event K T) M.X) where
  -- The law of a sum: what a key adds goes by the shape and the texts in its reach, what a post adds by the frame and its own field's text; it does not matter
  -- which of two is added first; and shape, texts and sum are all there is
  pub record Sums (Ok : K → Type 0) : Type 0 where
    pub swap : (b c d : Y.B) → Y.add (Y.add b c) d ≡ Y.add (Y.add b d) c
    pub summed : (e : Event K T) (x : M.X) → M.Live (M.shape x) → Y.sum (M.step e x) ≡ Y.add (Y.sum x) (Y.adds e x)
    pub keys : (k : K) → Ok k → (x y : M.X) → M.Live (M.shape x) → M.shape x ≡ M.shape y
        → ((f : ℕ) → M.Reach k (M.shape x) f → M.text f x ≡ M.text f y) → Y.adds (key k) x ≡ Y.adds (key k) y
    pub posts : (g : ℕ) (t : T) (x y : M.X) → M.Live (M.shape x) → M.Live (M.shape y) → M.frame (M.shape x) ≡ M.frame (M.shape y)
        → M.text g x ≡ M.text g y → Y.adds (post g t) x ≡ Y.adds (post g t) y
    pub ext : (x y : M.X) → M.Live (M.shape x) → M.shape x ≡ M.shape y → ((f : ℕ) → M.text f x ≡ M.text f y) → Y.sum x ≡ Y.sum y → x ≡ y
