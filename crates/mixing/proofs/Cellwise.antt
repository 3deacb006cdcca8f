-- A machine whose memory is cells, each protected or of one numbered field, and the laws on single cells that it must meet. Assumes nothing.
use mathlib.Core.Path.{◌≡◌}
use mathlib.Core.Bool.{Bool, true}
use Prim.Native.Nat.{ℕ, ◌<◌}
use Rattle.mixing.specs.Event.{Event, key, post}
use Rattle.mixing.proofs.Machine.{Tally}

-- A machine of `size` cells
pub record Cellwise (K T : Type 0) : Type 1 where
  -- configurations, answers, and the parts that are named below
  pub X : Type 0
  pub A : Type 0
  pub S : Type 0
  pub W : Type 0
  pub C : Type 0
  pub step : Event K T → X → X
  pub ans : Event K T → X → A
  -- all but what stands in the cells and what is summed up: the state and the marks
  pub state : X → S
  -- what stands in a cell
  pub cell : ℕ → X → C
  pub size : ℕ
  -- the part of the state that posts look at and keys keep: the marks and the locks, no cursor
  pub frame : S → W
  -- whether a cell is of a field, and the number of its field
  pub unprotected : W → ℕ → Bool
  pub number : W → ℕ → ℕ
  -- the states at which the laws hold
  pub Live : S → Type 0
  -- the answer to the key, or the next state, may turn on the cells of the field
  pub Reads : K → S → ℕ → Type 0
  -- or the key may change them
  pub Reach : K → S → ℕ → Type 0

module _ {K T : Type 0} (M : Cellwise K T) where
  -- the frame of a configuration
  abbrev pub frame_of : M.X → M.W
  frame_of x = M.frame (M.state x)

  -- the cell is protected, or its field is one of P
  abbrev pub Among : (ℕ → Type 0) → M.X → ℕ → Type 0
  Among P x i = M.unprotected (frame_of x) i ≡ true → P (M.number (frame_of x) i)

  -- the same stands in each cell that is protected or of a field of P
  abbrev pub SameCells : (ℕ → Type 0) → M.X → M.X → Type 0
  SameCells P x y = (i : ℕ) → i < M.size → Among P x i → M.cell i x ≡ M.cell i y

  -- What a step f, made where At holds, does to the cells: what comes to stand in an unprotected cell goes by the state, the protected cells and the cell's own
  -- field; a cell that is protected or out of reach stays
  pub record Writes (At : M.X → Type 0) (f : M.X → M.X) (Reach : M.S → ℕ → Type 0) : Type 0 where
    pub own : (x y : M.X) (i : ℕ) → i < M.size → At x → At y → M.state x ≡ M.state y → M.unprotected (frame_of x) i ≡ true
        → SameCells (λ g. g ≡ M.number (frame_of x) i) x y → M.cell i (f x) ≡ M.cell i (f y)
    pub stays : (x : M.X) (i : ℕ) → i < M.size → At x → Among (λ g. ¬ Reach (M.state x) g) x i → M.cell i (f x) ≡ M.cell i x

  -- and to the state: the next one goes by the state, the protected cells and the fields that are read; it is live, and the frame stays
  pub record Steps (At : M.X → Type 0) (f : M.X → M.X) (Reads Reach : M.S → ℕ → Type 0) : Type 0 where
    pub states : (x y : M.X) → At x → At y → M.state x ≡ M.state y → SameCells (Reads (M.state x)) x y → M.state (f x) ≡ M.state (f y)
    pub live : (x : M.X) → At x → M.Live (M.state (f x))
    pub framed : (x : M.X) → At x → frame_of (f x) ≡ frame_of x
    pub writes : Writes At f Reach

  -- the configurations at which the laws hold
  abbrev pub Lives : M.X → Type 0
  Lives x = M.Live (M.state x)

  -- The law of a key: its step; and its answer goes by the state, the protected cells and the fields that it reads
  pub record KeyLaw (k : K) : Type 0 where
    pub steps : Steps Lives (M.step (key k)) (M.Reads k) (M.Reach k)
    pub answer : (x y : M.X) → Lives x → Lives y → M.state x ≡ M.state y → SameCells (M.Reads k (M.state x)) x y → M.ans (key k) x ≡ M.ans (key k) y
    pub reads : (s : M.S) (f : ℕ) → M.Reads k s f → M.Reach k s f

  -- The law of a post of t to g. It keeps the state, and each cell that is not of g; its answer goes by the frame, what comes to stand in a cell of g by the
  -- frame and what stood there
  pub record PostLaw (g : ℕ) (t : T) : Type 0 where
    pub still : (x : M.X) → Lives x → M.state (M.step (post g t) x) ≡ M.state x
    pub answer : (x y : M.X) → Lives x → Lives y → frame_of x ≡ frame_of y → M.ans (post g t) x ≡ M.ans (post g t) y
    pub own : (x y : M.X) (i : ℕ) → i < M.size → Lives x → Lives y → frame_of x ≡ frame_of y
        → M.unprotected (frame_of x) i ≡ true → M.number (frame_of x) i ≡ g
        → M.cell i x ≡ M.cell i y → M.cell i (M.step (post g t) x) ≡ M.cell i (M.step (post g t) y)
    pub stays : (x : M.X) (i : ℕ) → i < M.size → Lives x → Among (λ f. ¬ (f ≡ g)) x i → M.cell i (M.step (post g t) x) ≡ M.cell i x

  -- The laws of a machine of cells: each key that is allowed meets its law, each post too
  pub record CellLaws (Ok : K → Type 0) : Type 0 where
    pub keys : (k : K) → Ok k → KeyLaw k
    pub posts : (g : ℕ) (t : T) → PostLaw g t

  -- the same stands in every cell
  abbrev pub AllCells : M.X → M.X → Type 0
  AllCells x y = (i : ℕ) → i < M.size → M.cell i x ≡ M.cell i y

  -- The law of a sum: what a key adds goes by the state, the protected cells and the fields in its reach, what a post adds by the frame and the cells of its field;
  -- it does not matter which of two is added first; and state, cells and sum are all there is
  pub record CellSums (Y : Tally (Event K T) M.X) (Ok : K → Type 0) : Type 0 where
    pub swap : (b c d : Y.B) → Y.add (Y.add b c) d ≡ Y.add (Y.add b d) c
    pub summed : (e : Event K T) (x : M.X) → Lives x → Y.sum (M.step e x) ≡ Y.add (Y.sum x) (Y.adds e x)
    pub keys : (k : K) → Ok k → (x y : M.X) → Lives x → Lives y → M.state x ≡ M.state y → SameCells (M.Reach k (M.state x)) x y
        → Y.adds (key k) x ≡ Y.adds (key k) y
    pub posts : (g : ℕ) (t : T) (x y : M.X) → Lives x → Lives y → frame_of x ≡ frame_of y
        → ((i : ℕ) → i < M.size → M.unprotected (frame_of x) i ≡ true → M.number (frame_of x) i ≡ g → M.cell i x ≡ M.cell i y)
        → Y.adds (post g t) x ≡ Y.adds (post g t) y
    pub ext : (x y : M.X) → Lives x → Lives y → M.state x ≡ M.state y → AllCells x y → Y.sum x ≡ Y.sum y → x ≡ y
