-- Calls in turn, computed with each looked into once: whether format mode is on in each, none asks for home down and each has the owner table (`all-on`, `all-free`, `all_under`), what those
-- that are seen are told where reader 2 is hidden, and the end. Assumes nothing.
use mathlib.Core.Path.{◌≡◌, refl, sym, ap, ap₂, ◌∙◌}
use mathlib.Core.Bool.{Bool, true, false, cond, ◌&&◌, not, false≢true, and-eq-true_iff}
use mathlib.Core.List.{List, [], ◌∷◌, map}
use Prim.Native.Nat.{ℕ}
use lib.ListN.{take}
use lib.Dec.{eqb}
use borrow.Author.Tests.{eqb-true, eqb-false, not-true}
use Rattle.reading.specs.Action as Action
use Rattle.terminal.specs.State.{World}
use Rattle.streams.specs.Streams.{action_for, stepped, fed}
use Rattle.streams.specs.Protected.{StaysOn}
use Rattle.key.specs.Keys.{keyed}
use Rattle.post.specs.Posts.{posted_to}
use Rattle.readers.specs.Owners.{posted_as, read_back_of}
use Rattle.mixing.specs.Event.{run, answers, Throughout}
use Rattle.promises.specs.SharedCalls.{SharedCall, host, key, post, report, post_as, read_back, shared_called, SharedTold, by_host, by_key, by_post, by_reading, shared_told, SharedOnIn}
use Rattle.promises.specs.Owners.{seen, heard_of, heard, NoneDown, NoHomeDown, Under}

-- ---- host bytes: format mode is on before each and after the last, and none asks for home down
pub record Held : Type 0 where
  pub on : Bool
  pub free : Bool

unfoldable pub held : ℕ → List ℕ → World → Held
held rows [] w = record { on = w.state.format; free = true }
held rows (b ∷ bytes) w =
    let h = held rows bytes (stepped rows b w) in
    record { on = w.state.format && h.on; free = not (eqb (action_for w.state b) Action.home_down) && h.free }

bytes_on : (rows : ℕ) (bytes : List ℕ) (w : World) → (held rows bytes w).on ≡ true → StaysOn rows bytes w
unfolding held
bytes_on rows [] w t = t
bytes_on rows (b ∷ bytes) w t =
    let a = (and-eq-true_iff w.state.format (held rows bytes (stepped rows b w)).on).0 t in
    (a.0, bytes_on rows bytes (stepped rows b w) a.1)

bytes-free : (rows : ℕ) (bytes : List ℕ) (w : World) → (held rows bytes w).free ≡ true → NoneDown rows bytes w
unfolding held
bytes-free rows [] w t = tt
bytes-free rows (b ∷ bytes) w t =
    let a = (and-eq-true_iff (not (eqb (action_for w.state b) Action.home_down)) (held rows bytes (stepped rows b w)).free).0 t in
    (eqb-false (action_for w.state b) Action.home_down (not-true _ a.0), bytes-free rows bytes (stepped rows b w) a.1)

-- ---- two lists of bytes are the same
unfoldable pub same_bytes : List ℕ → List ℕ → Bool
same_bytes [] [] = true
same_bytes [] (y ∷ ys) = false
same_bytes (x ∷ xs) [] = false
same_bytes (x ∷ xs) (y ∷ ys) = eqb x y && same_bytes xs ys

bytes_same : (xs ys : List ℕ) → same_bytes xs ys ≡ true → xs ≡ ys
unfolding same_bytes
bytes_same [] [] t = refl
bytes_same [] (y ∷ ys) t = absurd (false≢true t)
bytes_same (x ∷ xs) [] t = absurd (false≢true t)
bytes_same (x ∷ xs) (y ∷ ys) t =
    let a = (and-eq-true_iff (eqb x y) (same_bytes xs ys)).0 t in
    ap₂ (λ (n : ℕ) (l : List ℕ). n ∷ l) (eqb-true x y a.0) (bytes_same xs ys a.1)

-- ---- one call
unfoldable is_on : ℕ → SharedCall → World → Bool
is_on rows (host bytes reply) w = (held rows (take (fed rows w bytes reply).taken bytes) w).on
is_on rows (key code reply) w = w.state.format
is_on rows (post field text) w = w.state.format
is_on rows report w = w.state.format
is_on rows (post_as table reader field text) w = w.state.format
is_on rows (read_back table reader field out) w = w.state.format

unfoldable is_free : ℕ → SharedCall → World → Bool
is_free rows (host bytes reply) w = (held rows (take (fed rows w bytes reply).taken bytes) w).free
is_free rows (key code reply) w = not (eqb code 261)
is_free rows (post field text) w = true
is_free rows report w = true
is_free rows (post_as table reader field text) w = true
is_free rows (read_back table reader field out) w = true

unfoldable is_under : List ℕ → SharedCall → Bool
is_under owners (host bytes reply) = true
is_under owners (key code reply) = true
is_under owners (post field text) = true
is_under owners report = true
is_under owners (post_as table reader field text) = same_bytes table owners
is_under owners (read_back table reader field out) = same_bytes table owners

call-on : (rows : ℕ) (c : SharedCall) (w : World) → is_on rows c w ≡ true → SharedOnIn rows c w
unfolding is_on
call-on rows (host bytes reply) w t = bytes_on rows (take (fed rows w bytes reply).taken bytes) w t
call-on rows (key code reply) w t = t
call-on rows (post field text) w t = t
call-on rows report w t = t
call-on rows (post_as table reader field text) w t = t
call-on rows (read_back table reader field out) w t = t

call-free : (rows : ℕ) (c : SharedCall) (w : World) → is_free rows c w ≡ true → NoHomeDown rows c w
unfolding is_free
call-free rows (host bytes reply) w t = bytes-free rows (take (fed rows w bytes reply).taken bytes) w t
call-free rows (key code reply) w t = eqb-false code 261 (not-true _ t)
call-free rows (post field text) w t = tt
call-free rows report w t = tt
call-free rows (post_as table reader field text) w t = tt
call-free rows (read_back table reader field out) w t = tt

call-under : (owners : List ℕ) (c : SharedCall) → is_under owners c ≡ true → Under owners c
unfolding is_under
call-under owners (host bytes reply) t = tt
call-under owners (key code reply) t = tt
call-under owners (post field text) t = tt
call-under owners report t = tt
call-under owners (post_as table reader field text) t = bytes_same table owners t
call-under owners (read_back table reader field out) t = bytes_same table owners t

-- ---- calls in turn
pub record Outcome : Type 0 where
  pub on : Bool
  pub free : Bool
  pub under : Bool
  pub told : List SharedTold
  pub end : World

-- one call before the others: its three tests, whether it is seen, and what it is told
abbrev before : Bool → Bool → Bool → Bool → SharedTold → Outcome → Outcome
before on free under isSeen t o =
    record { on = on && o.on; free = free && o.free; under = under && o.under; told = cond isSeen (t ∷ o.told) o.told; end = o.end }

unfoldable pub outcome : ℕ → List ℕ → List SharedCall → World → Outcome
outcome rows owners [] w = record { on = true; free = true; under = true; told = []; end = w }
outcome rows owners (host bytes reply ∷ calls) w =
    let h = fed rows w bytes reply in
    let b = held rows (take h.taken bytes) w in
    before b.on b.free true true (by_host h.number h.taken h.written h.reply) (outcome rows owners calls h.world)
outcome rows owners (key code reply ∷ calls) w =
    let k = keyed rows w reply code in
    before w.state.format (not (eqb code 261)) true true (by_key k.number k.written k.reply) (outcome rows owners calls k.world)
outcome rows owners (post field text ∷ calls) w =
    let p = posted_to rows w field text in
    before w.state.format true true true (by_post p.number) (outcome rows owners calls p.world)
outcome rows owners (report ∷ calls) w = before w.state.format true true false (by_post 0) (outcome rows owners calls (shared_called rows report w))
outcome rows owners (post_as table reader field text ∷ calls) w =
    let p = posted_as rows w table reader field text in
    before w.state.format true (same_bytes table owners) (not (eqb reader 2)) (by_post p.number) (outcome rows owners calls p.world)
outcome rows owners (read_back table reader field out ∷ calls) w =
    let b = read_back_of rows w table reader field out in
    before w.state.format true (same_bytes table owners) (not (eqb reader 2)) (by_reading b.number b.written b.out) (outcome rows owners calls w)

module _ (rows : ℕ) (owners : List ℕ) where
  -- what is told, and the end
  pub outcome-told : (calls : List SharedCall) (w : World) → answers (shared_called rows) (shared_told rows) (seen 2) calls w ≡ (outcome rows owners calls w).told
  unfolding outcome
  outcome-told [] w = refl
  outcome-told (host bytes reply ∷ calls) w = ap (λ (l : List SharedTold). shared_told rows (host bytes reply) w ∷ l) (outcome-told calls (shared_called rows (host bytes reply) w))
  outcome-told (key code reply ∷ calls) w = ap (λ (l : List SharedTold). shared_told rows (key code reply) w ∷ l) (outcome-told calls (shared_called rows (key code reply) w))
  outcome-told (post field text ∷ calls) w = ap (λ (l : List SharedTold). shared_told rows (post field text) w ∷ l) (outcome-told calls (shared_called rows (post field text) w))
  outcome-told (report ∷ calls) w = outcome-told calls (shared_called rows report w)
  outcome-told (post_as table reader field text ∷ calls) w =
      ap (λ (l : List SharedTold). cond (not (eqb reader 2)) (shared_told rows (post_as table reader field text) w ∷ l) l) (outcome-told calls (shared_called rows (post_as table reader field text) w))
  outcome-told (read_back table reader field out ∷ calls) w =
      ap (λ (l : List SharedTold). cond (not (eqb reader 2)) (shared_told rows (read_back table reader field out) w ∷ l) l) (outcome-told calls w)

  -- what is heard is so of each
  heard-map : (calls : List SharedCall) (w : World) → answers (shared_called rows) (heard rows) (seen 2) calls w ≡ map heard_of (answers (shared_called rows) (shared_told rows) (seen 2) calls w)
  heard-map [] w = refl
  heard-map (c ∷ calls) w = go (seen 2 c) (answers (shared_called rows) (shared_told rows) (seen 2) calls (shared_called rows c w)) (heard-map calls (shared_called rows c w))
    where
      go : (b : Bool) (m : List SharedTold) {l : List SharedTold} → l ≡ map heard_of m → cond b (heard rows c w ∷ l) l ≡ map heard_of (cond b (shared_told rows c w ∷ m) m)
      go true m e = ap (λ (l : List SharedTold). heard rows c w ∷ l) e
      go false m e = e

  pub outcome-heard : (calls : List SharedCall) (w : World) → answers (shared_called rows) (heard rows) (seen 2) calls w ≡ map heard_of (outcome rows owners calls w).told
  outcome-heard calls w = heard-map calls w ∙ ap (map heard_of) (outcome-told calls w)

  pub outcome-end : (calls : List SharedCall) (w : World) → run (shared_called rows) calls w ≡ (outcome rows owners calls w).end
  unfolding outcome
  outcome-end [] w = refl
  outcome-end (host bytes reply ∷ calls) w = outcome-end calls (shared_called rows (host bytes reply) w)
  outcome-end (key code reply ∷ calls) w = outcome-end calls (shared_called rows (key code reply) w)
  outcome-end (post field text ∷ calls) w = outcome-end calls (shared_called rows (post field text) w)
  outcome-end (report ∷ calls) w = outcome-end calls (shared_called rows report w)
  outcome-end (post_as table reader field text ∷ calls) w = outcome-end calls (shared_called rows (post_as table reader field text) w)
  outcome-end (read_back table reader field out ∷ calls) w = outcome-end calls w

  -- the three tests
  record First (c : SharedCall) (calls : List SharedCall) (w : World) : Type 0 where
    on-first : (outcome rows owners (c ∷ calls) w).on ≡ is_on rows c w && (outcome rows owners calls (shared_called rows c w)).on
    free-first : (outcome rows owners (c ∷ calls) w).free ≡ is_free rows c w && (outcome rows owners calls (shared_called rows c w)).free
    under_first : (outcome rows owners (c ∷ calls) w).under ≡ is_under owners c && (outcome rows owners calls (shared_called rows c w)).under

  first : (c : SharedCall) (calls : List SharedCall) (w : World) → First c calls w
  unfolding outcome is_on is_free is_under
  first (host bytes reply) calls w = record { on-first = refl; free-first = refl; under_first = refl }
  first (key code reply) calls w = record { on-first = refl; free-first = refl; under_first = refl }
  first (post field text) calls w = record { on-first = refl; free-first = refl; under_first = refl }
  first report calls w = record { on-first = refl; free-first = refl; under_first = refl }
  first (post_as table reader field text) calls w = record { on-first = refl; free-first = refl; under_first = refl }
  first (read_back table reader field out) calls w = record { on-first = refl; free-first = refl; under_first = refl }

  pub all-on : (calls : List SharedCall) (w : World) → (outcome rows owners calls w).on ≡ true → Throughout (shared_called rows) (SharedOnIn rows) calls w
  all-on [] w t = tt
  all-on (c ∷ calls) w t =
      let a = (and-eq-true_iff (is_on rows c w) (outcome rows owners calls (shared_called rows c w)).on).0 (sym (first c calls w).on-first ∙ t) in
      (call-on rows c w a.0, all-on calls (shared_called rows c w) a.1)

  pub all-free : (calls : List SharedCall) (w : World) → (outcome rows owners calls w).free ≡ true → Throughout (shared_called rows) (NoHomeDown rows) calls w
  all-free [] w t = tt
  all-free (c ∷ calls) w t =
      let a = (and-eq-true_iff (is_free rows c w) (outcome rows owners calls (shared_called rows c w)).free).0 (sym (first c calls w).free-first ∙ t) in
      (call-free rows c w a.0, all-free calls (shared_called rows c w) a.1)

  pub all_under : (calls : List SharedCall) (w : World) → (outcome rows owners calls w).under ≡ true → Throughout (shared_called rows) (λ c v. Under owners c) calls w
  all_under [] w t = tt
  all_under (c ∷ calls) w t =
      let a = (and-eq-true_iff (is_under owners c) (outcome rows owners calls (shared_called rows c w)).under).0 (sym (first c calls w).under_first ∙ t) in
      (call-under owners c a.0, all_under calls (shared_called rows c w) a.1)
