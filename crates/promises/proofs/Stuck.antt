-- Where a memory has another size, or the state is not good, each call but a report is refused with 1 or 2 and leaves all. So one reader does not disturb the other from any
-- memory and state. Assumes nothing.
use mathlib.Core.Path.{◌≡◌, refl, sym, ap, ap₂, ◌∙◌, subst}
use mathlib.Core.Bool.{Bool, true, false, cond, ◌&&◌, not, false≢true}
use mathlib.Core.List.{List, []}
use Prim.Native.Nat.{ℕ, ◌≤◌}
use lib.Dec.{eqb}
use lib.ListN.{get_or}
use Rattle.fields.specs.Fields.{marks}
use Rattle.terminal.specs.State.{World, flagged, is_good, is_sized}
use Rattle.terminal.specs.Refusals.{first_refusal}
use Rattle.terminal.proofs.Good.{sound-in}
use Rattle.key.specs.Keys.{Keyed, key_refusal, key_done, keyed}
use Rattle.post.specs.Posts.{Posted, post_refusal, posted_to}
use Rattle.streams.specs.Streams.{Hosted, hosted, fed_on, host_refusal, fed}
use Rattle.report.specs.Reports.{report_refusal, reported}
use Rattle.readers.specs.Owners.{is_table, post_as_refusal, posted_as, read_refusal, Read, read_back_of}
use Rattle.mixing.specs.Event.{run, filtered, Throughout}
use Rattle.mixing.proofs.Unwind.{Same, unwind}
use Rattle.promises.specs.SharedCalls.{SharedCall, host, key, post, report, post_as, read_back, shared_called, SharedTold, by_host, by_key, by_post, by_reading}
use Rattle.promises.specs.Owners.{seen, heard_of, heard, Calm, AlikeBut, Undisturbed}
use Rattle.promises.proofs.Machine.{unset}
use Rattle.promises.proofs.Hiding.{report-state, apart-sound}

-- what a call answers that is refused with n; a report aside
abbrev refused_with : ℕ → SharedCall → SharedTold
refused_with n (host bytes reply) = by_host n 0 0 []
refused_with n (key code reply) = by_key n 0 []
refused_with n (post field text) = by_post n
refused_with n report = by_post n
refused_with n (post_as owners reader field text) = by_post n
refused_with n (read_back owners reader field out) = by_reading n 0 []

-- ---- a memory of another size: all but a report answer 1, and leave all
module _ (rows : ℕ) (x : World) (e : is_sized rows x.chars x.attrs ≡ false) where
  fed-one : (bytes reply : List ℕ) → fed rows x bytes reply ≡ hosted 1 0 0 x reply
  unfolding fed host_refusal first_refusal
  fed-one bytes reply = rw e

  key_one : (code : ℕ) (reply : List ℕ) → keyed rows x reply code ≡ record { number = 1; written = 0; world = x; reply = reply }
  unfolding keyed key_refusal first_refusal
  key_one code reply = rw e

  post-one : (field : ℕ) (text : List ℕ) → posted_to rows x field text ≡ record { number = 1; world = x }
  unfolding posted_to post_refusal first_refusal
  post-one field text = rw e

  by_one : (owners : List ℕ) (reader field : ℕ) (text : List ℕ) → posted_as rows x owners reader field text ≡ record { number = 1; world = x }
  unfolding posted_as post_as_refusal first_refusal
  by_one owners reader field text = rw e

  back_one : (owners : List ℕ) (reader field : ℕ) (out : List ℕ) → read_back_of rows x owners reader field out ≡ record { number = 1; written = 0; out = out }
  unfolding read_back_of read_refusal first_refusal
  back_one owners reader field out = rw e

  one_heard : (c : SharedCall) → ¬ (c ≡ report) → heard rows c x ≡ refused_with 1 c
  one_heard (host bytes reply) n = ap (λ (h : Hosted). by_host h.number h.taken h.written []) (fed-one bytes reply)
  one_heard (key code reply) n = ap (λ (k : Keyed). heard_of (by_key k.number k.written k.reply)) (key_one code reply)
  one_heard (post field text) n = ap (λ (p : Posted). by_post p.number) (post-one field text)
  one_heard report n = absurd (n refl)
  one_heard (post_as owners reader field text) n = ap (λ (p : Posted). by_post p.number) (by_one owners reader field text)
  one_heard (read_back owners reader field out) n = ap (λ (b : Read). heard_of (by_reading b.number b.written b.out)) (back_one owners reader field out)

  -- a report changes the rows that are set
  one_left : (c : SharedCall) → ((shared_called rows c x).chars ≡ x.chars) × ((shared_called rows c x).attrs ≡ x.attrs) × (unset (shared_called rows c x).state ≡ unset x.state)
  one_left (host bytes reply) = let h = fed-one bytes reply in (ap (λ (h : Hosted). h.world.chars) h, ap (λ (h : Hosted). h.world.attrs) h, ap (λ (h : Hosted). unset h.world.state) h)
  one_left (key code reply) = let h = key_one code reply in (ap (λ (h : Keyed). h.world.chars) h, ap (λ (h : Keyed). h.world.attrs) h, ap (λ (h : Keyed). unset h.world.state) h)
  one_left (post field text) = let h = post-one field text in (ap (λ (h : Posted). h.world.chars) h, ap (λ (h : Posted). h.world.attrs) h, ap (λ (h : Posted). unset h.world.state) h)
  one_left report = (refl, refl, report-state rows x.state)
  one_left (post_as owners reader field text) =
      let h = by_one owners reader field text in (ap (λ (h : Posted). h.world.chars) h, ap (λ (h : Posted). h.world.attrs) h, ap (λ (h : Posted). unset h.world.state) h)
  one_left (read_back owners reader field out) = (refl, refl, refl)

-- ---- a state that is not good: each call leaves all
module _ (rows : ℕ) (x : World) (g : is_good rows x.state ≡ false) where
  not-good-left : (c : SharedCall) → shared_called rows c x ≡ x
  unfolding fed host_refusal keyed key_refusal posted_to post_refusal posted_as post_as_refusal reported report_refusal first_refusal
  not-good-left (host bytes reply) = rw (shared_called, g) (go (is_sized rows x.chars x.attrs))
    where
      go : (s : Bool) → (cond (eqb (cond (not s) 1 2) 0) (fed_on rows bytes 0 0 x reply) (hosted (cond (not s) 1 2) 0 0 x reply)).world ≡ x
      go true = refl
      go false = refl
  not-good-left (key code reply) = rw (shared_called, g) (go (is_sized rows x.chars x.attrs))
    where
      go : (s : Bool) → (cond (eqb (cond (not s) 1 2) 0) (key_done rows x reply code) (record { number = cond (not s) 1 2; written = 0; world = x; reply = reply })).world ≡ x
      go true = refl
      go false = refl
  not-good-left (post field text) = rw (shared_called, g) (go (is_sized rows x.chars x.attrs) _)
    where
      go : (s : Bool) (v : World) → cond (eqb (cond (not s) 1 2) 0) v x ≡ x
      go true v = refl
      go false v = refl
  not-good-left report = rw (shared_called, g)
  not-good-left (post_as owners reader field text) = rw (shared_called, g) (go (is_sized rows x.chars x.attrs && is_table owners) _)
    where
      go : (s : Bool) (v : World) → cond (eqb (cond (not s) 1 2) 0) v x ≡ x
      go true v = refl
      go false v = refl
  not-good-left (read_back owners reader field out) = refl

-- ---- two runs
module _ (rows : ℕ) (owners : List ℕ) (hidden : ℕ) where
  -- what is left of two that are alike by Rel, which no call that is seen breaks, and no other notices
  module _ (Rel : World → World → Type 0)
      (follows : (c : SharedCall) (x y : World) → seen hidden c ≡ true → Calm rows owners c x → Rel x y → (heard rows c x ≡ heard rows c y) × Rel (shared_called rows c x) (shared_called rows c y))
      (hides : (c : SharedCall) (x y : World) → seen hidden c ≡ false → Calm rows owners c x → Rel x y → Rel (shared_called rows c x) y)
      (join : (x y z : World) → Rel x z → Rel y z → AlikeBut rows owners hidden x y)
    where
      two : (w : World) → Rel w w → (es es' : List SharedCall) → filtered (seen hidden) es ≡ filtered (seen hidden) es'
          → Throughout (shared_called rows) (Calm rows owners) es w → Throughout (shared_called rows) (Calm rows owners) es' w → Undisturbed rows owners hidden es es' w
      two w r es es' same t t' =
          let a = unwind (shared_called rows) (heard rows) (seen hidden) Rel (Calm rows owners) follows hides es w w t r in
          let b : Same (shared_called rows) (heard rows) (seen hidden) Rel es' (filtered (seen hidden) es) w w =
          rw same (unwind (shared_called rows) (heard rows) (seen hidden) Rel (Calm rows owners) follows hides es' w w t' r) in
          record {
            same_heard = a.1 ∙ sym b.1;
            ends = join (run (shared_called rows) es w) (run (shared_called rows) es' w) (run (shared_called rows) (filtered (seen hidden) es) w) a.0 b.0;
          }

  -- a memory of another size
  record Unsized (x y : World) : Type 0 where
    unsized : is_sized rows x.chars x.attrs ≡ false
    chars-same : x.chars ≡ y.chars
    attrs-same : x.attrs ≡ y.attrs
    state_same : unset x.state ≡ unset y.state

  also : {x y : World} → Unsized x y → is_sized rows y.chars y.attrs ≡ false
  also r = sym (ap₂ (is_sized rows) r.chars-same r.attrs-same) ∙ r.unsized

  unsized-hides : (c : SharedCall) (x y : World) → Unsized x y → Unsized (shared_called rows c x) y
  unsized-hides c x y r =
      let l = one_left rows x r.unsized c in
      record {
        unsized = ap₂ (is_sized rows) l.0 l.1 ∙ r.unsized;
        chars-same = l.0 ∙ r.chars-same;
        attrs-same = l.1 ∙ r.attrs-same;
        state_same = l.2 ∙ r.state_same;
      }

  back-too : (x y : World) → Unsized x y → Unsized y x
  back-too x y r = record { unsized = also r; chars-same = sym r.chars-same; attrs-same = sym r.attrs-same; state_same = sym r.state_same }

  unsized-follows : (c : SharedCall) (x y : World) → seen hidden c ≡ true → Calm rows owners c x → Unsized x y → (heard rows c x ≡ heard rows c y) × Unsized (shared_called rows c x) (shared_called rows c y)
  unsized-follows c x y v calm r =
      let n : ¬ (c ≡ report) = λ q. false≢true (sym (ap (seen hidden) q) ∙ v) in (
        one_heard rows x r.unsized c n ∙ sym (one_heard rows y (also r) c n),
        back-too (shared_called rows c y) (shared_called rows c x) (unsized-hides c y (shared_called rows c x) (back-too (shared_called rows c x) y (unsized-hides c x y r))),
      )

  unsized-join : (x y z : World) → Unsized x z → Unsized y z → AlikeBut rows owners hidden x y
  unsized-join x y z r s =
      record {
        state_same = let e = r.state_same ∙ sym s.state_same in λ j. flagged (e j) y.state.changes;
        marks_same = ap marks (r.attrs-same ∙ sym s.attrs-same);
        cells_same = λ cell l h. ap₂ (λ (xs ys : List ℕ). (get_or xs cell 0, get_or ys cell 0)) (r.chars-same ∙ sym s.chars-same) (r.attrs-same ∙ sym s.attrs-same);
      }

  apart-unsized : (w : World) → is_sized rows w.chars w.attrs ≡ false → (es es' : List SharedCall) → filtered (seen hidden) es ≡ filtered (seen hidden) es'
      → Throughout (shared_called rows) (Calm rows owners) es w → Throughout (shared_called rows) (Calm rows owners) es' w → Undisturbed rows owners hidden es es' w
  apart-unsized w e =
      two Unsized unsized-follows (λ c x y v calm r. unsized-hides c x y r) unsized-join w
      (record { unsized = e; chars-same = refl; attrs-same = refl; state_same = refl })

  -- a state that is not good
  module _ (w : World) (g : is_good rows w.state ≡ false) where
    abbrev Still : World → World → Type 0
    Still x y = (x ≡ w) × (y ≡ w)

    still : (c : SharedCall) (x : World) → x ≡ w → shared_called rows c x ≡ w
    still c x e = ap (shared_called rows c) e ∙ not-good-left rows w g c

    apart-not-good : (es es' : List SharedCall) → filtered (seen hidden) es ≡ filtered (seen hidden) es'
        → Throughout (shared_called rows) (Calm rows owners) es w → Throughout (shared_called rows) (Calm rows owners) es' w → Undisturbed rows owners hidden es es' w
    apart-not-good =
        two Still (λ c x y v calm r. (ap (heard rows c) (r.0 ∙ sym r.1), (still c x r.0, still c y r.1))) (λ c x y v calm r. (still c x r.0, r.1))
        (λ x y z r s. subst (AlikeBut rows owners hidden x) (r.0 ∙ sym s.0) (record { state_same = refl; marks_same = refl; cells_same = λ cell l h. refl })) w (refl, refl)

-- ---- from any memory and state
pub apart-any : (rows : ℕ) → rows ≤ 96 → (owners : List ℕ) (hidden : ℕ) (w : World) (es es' : List SharedCall) → filtered (seen hidden) es ≡ filtered (seen hidden) es'
    → Throughout (shared_called rows) (Calm rows owners) es w → Throughout (shared_called rows) (Calm rows owners) es' w → Undisturbed rows owners hidden es es' w
apart-any rows few owners hidden w es es' same t t' = go (is_sized rows w.chars w.attrs) (is_good rows w.state) refl refl
  where
    go : (s g : Bool) → is_sized rows w.chars w.attrs ≡ s → is_good rows w.state ≡ g → Undisturbed rows owners hidden es es' w
    go true true p q = apart-sound rows owners hidden w (sound-in few p q) es es' same t t'
    go true false p q = apart-not-good rows owners hidden w q es es' same t t'
    go false g p q = apart-unsized rows owners hidden w p es es' same t t'
