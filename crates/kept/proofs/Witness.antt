-- Runs that the mixing promise covers, their outcomes, and runs that differ where one of its conditions does not hold: what they rest on over `rows` rows, and then all
-- computed, on memories of 96 and of 48 rows. Assumes nothing.
use mathlib.Core.Path.{◌≡◌, refl, ap, ◌∙◌}
use mathlib.Core.Bool.{true, false}
use mathlib.Core.List.{List, [], ◌∷◌}
use Prim.Native.Nat.{ℕ, ◌≤◌}
use native.Mathlib.Omega.{arith}
use lib.ListN.{get_or}
use lib.Dec.{eqb}
use borrow.Author.Tests.{eqb-false}
use Rattle.changes.specs.Sets.{rows_of}
use Rattle.cursor.specs.declared.Cursor.{Cursor}
use Rattle.terminal.specs.State.{World, Sound}
use Rattle.terminal.proofs.Good.{fresh-sound}
use Rattle.key.specs.Keys.{keyed}
use Rattle.post.specs.Posts.{posted_to}
use Rattle.streams.proofs.Kept.{fed-sound}
use Rattle.report.proofs.Kept.{report-sound}
use Rattle.mixing.specs.Event.{key, post, run, answers, keys_of}
use Rattle.mixing.specs.Mix.{Mixed, done, a_key, a_post, here, later}
use Rattle.mixing.proofs.Mixes.{mixed-posts}
use Rattle.cases.specs.Cases.{reported_on}
use Rattle.cases.proofs.Rules.{rules}
use Rattle.promises.specs.Mixing.{Key, handled, answered, Reach}
use Rattle.promises.specs.Form.{Events, Posts, shown, numbers, p0, p2, posting, form, reported_form, locked_form, awaited, bare, set_from, struck, keys_first, posts_first, posts, between, tag, Mixes, Covered, RowsCovered, Differ, Clash, FormCovered, LockedCovered, PendingCovered, BareCovered, ChangesCovered, ReachNeeded, EnterBars, PostsKeepOrder, OrderShows}
use Rattle.kept.proofs.Sparing.{every, spares, keep_apart, apart_by}
use Rattle.promises.proofs.Mixing.{mixes_agree}

-- what these computations look into
unfoldable pub machine : ℕ
unfolding rules reported_on form reported_form locked_form awaited bare set_from
machine = 0

-- where the runs start
module _ {rows : ℕ} (some : 24 ≤ rows) (few : rows ≤ 96) where
  pub form-sound : Sound rows (form rows)
  unfolding form
  form-sound = fed-sound (fresh-sound some few) _ _

  reported-sound : Sound rows (reported_form rows)
  unfolding reported_form reported_on
  reported-sound = report-sound form-sound

  locked-sound : Sound rows (locked_form rows)
  unfolding locked_form
  locked-sound = fed-sound form-sound _ _

  awaited-sound : Sound rows (awaited rows)
  unfolding awaited
  awaited-sound = fed-sound form-sound _ _

  bare-sound : Sound rows (bare rows)
  unfolding bare
  bare-sound = fed-sound (fresh-sound some few) _ _

-- keys first and posts first are mixes
posts-mix : (ps : Posts) → Mixed [] ps (keys_first [] ps)
posts-mix [] = done
posts-mix (p ∷ ps) = a_post here (posts-mix ps)

keys-first : (ks : List Key) (ps : Posts) → Mixed ks ps (keys_first ks ps)
keys-first [] ps = posts-mix ps
keys-first (k ∷ ks) ps = a_key (keys-first ks ps)

posts-first : (ks : List Key) (ps : Posts) → Mixed ks ps (posts_first ks ps)
posts-first [] [] = done
posts-first (k ∷ ks) [] = a_key (posts-first ks [])
posts-first ks (p ∷ ps) = a_post here (posts-first ks ps)

-- ---- runs that are covered
-- the numbers of a run, with each event looked into once
unfoldable tally : ℕ → Events → World → List ℕ
tally rows [] w = []
tally rows (key k ∷ es) w =
    let r = keyed rows w k.reply k.code in
    r.number ∷ tally rows es r.world
tally rows (post field text ∷ es) w =
    let r = posted_to rows w field text in
    r.number ∷ tally rows es r.world

tally-is : (rows : ℕ) (es : Events) (w : World) → numbers (answers (handled rows) (answered rows) (λ e. true) es w) ≡ tally rows es w
unfolding tally
tally-is rows [] w = refl
tally-is rows (key k ∷ es) w = ap (λ (l : List ℕ). (keyed rows w k.reply k.code).number ∷ l) (tally-is rows es (handled rows (key k) w))
tally-is rows (post field text ∷ es) w = ap (λ (l : List ℕ). (posted_to rows w field text).number ∷ l) (tally-is rows es (handled rows (post field text) w))

-- a run is covered where its tests pass
cover : {rows : ℕ} {w : World} {ks : List Key} {ps : Posts} {es es' : Events} {end : List (List ℕ)} {ns : List ℕ} → Mixes rows w ks ps es es'
    → keep_apart rows ps ks w ≡ true → shown (run (handled rows) es' w) ≡ end → tally rows es' w ≡ ns → Covered rows w ks ps es es' end ns
cover {rows} {w} {ks} {ps} {es} {es'} m a ends numbered =
    let apart = apart_by rows ps ks w a in
    record {
      mixes = m;
      apart = apart;
      agree = mixes_agree rows w m.sound m.on ks ps apart es es' m.one_mixes m.other_mixes;
      ends = ends;
      numbered = tally-is rows es' w ∙ numbered;
    }

between-mixes : Mixed (keys_of between) posts between
between-mixes =
    a_post (later (eqb-false 1 2 refl) here) (a_key (a_post here (a_key (a_key (a_post (later (eqb-false 1 9 refl) here) (a_key (a_key (a_key
    (a_post here (a_key (a_key (a_key (a_key (a_key (a_key (a_key (a_key (a_post here (a_key (a_key (a_key (a_key (a_key (a_key (a_key (a_key (a_key (a_key
    (a_post here (a_key (a_key (a_key done))))))))))))))))))))))))))))))))

-- keys first and posts first, from a sound world with format mode on
both_ways : {rows : ℕ} {w : World} → Sound rows w → w.state.format ≡ true → (ks : List Key) (ps : Posts) → Mixes rows w ks ps (keys_first ks ps) (posts_first ks ps)
both_ways s on ks ps = record { sound = s; on = on; one_mixes = keys-first ks ps; other_mixes = posts-first ks ps }

-- keys first, and posts between the keys
between-ways : {rows : ℕ} {w : World} → Sound rows w → w.state.format ≡ true → Mixes rows w (keys_of between) posts (keys_first (keys_of between) posts) between
between-ways s on = record { sound = s; on = on; one_mixes = keys-first (keys_of between) posts; other_mixes = between-mixes }

-- the same of the rows that are set
cover-rows : {rows : ℕ} {ks : List Key} {ps : Posts} {set : List ℕ} → Sound rows (reported_form rows) → (reported_form rows).state.format ≡ true
    → keep_apart rows ps ks (reported_form rows) ≡ true → set_from 0 (rows_of rows (reported_form rows).state.changes) ≡ []
    → set_from 0 (rows_of rows (run (handled rows) (posts_first ks ps) (reported_form rows)).state.changes) ≡ set → RowsCovered rows ks ps set
cover-rows {rows} {ks} {ps} s on a none after =
    let m = both_ways s on ks ps in
    let apart = apart_by rows ps ks (reported_form rows) a in
    record {
      mixes = m;
      apart = apart;
      agree = mixes_agree rows (reported_form rows) s on ks ps apart (keys_first ks ps) (posts_first ks ps) m.one_mixes m.other_mixes;
      none_before = none;
      set_after = after;
    }

-- ---- what the conditions are for
-- what two runs leave differs where a number in it does
pub differ-by : {A : Type 0} (f : A → ℕ) {x y : A} → eqb (f x) (f y) ≡ false → ¬ (x ≡ y)
differ-by f {x} {y} t e = eqb-false (f x) (f y) t (ap f e)

-- the character of a cell
pub cell-differs : (k : ℕ) {xs ys : List ℕ} → eqb (get_or xs k 0) (get_or ys k 0) ≡ false → ¬ (xs ≡ ys)
cell-differs k = differ-by (λ (l : List ℕ). get_or l k 0)

clash : {rows : ℕ} {A : Type 0} {part : World → A} → Sound rows (form rows) → (form rows).state.format ≡ true → (k : Key) → eqb k.code 273 ≡ false → Reach k (form rows) tag.field
    → Differ rows (form rows) part (keys_first (k ∷ []) (tag ∷ [])) (posts_first (k ∷ []) (tag ∷ [])) → Clash rows k part
clash s on k n r d = record { mixes = both_ways s on (k ∷ []) (tag ∷ []); not_enter = eqb-false k.code 273 n; reaches = r; differ = d }

keep-order : {rows : ℕ} → Differ {A = List ℕ} rows (form rows) (λ w. w.chars) (posting p0 ∷ posting p2 ∷ []) (posting p2 ∷ posting p0 ∷ []) → PostsKeepOrder rows
keep-order d =
    record {
      mix = a_post here (a_post here done);
      no_mix = λ m. eqb-false 52 49 refl (ap (λ (l : List (List ℕ)). get_or (get_or l 0 []) 0 0) (mixed-posts 1 m));
      differ = d;
    }

-- ---- on 96 rows
starts-96 : Sound 96 (form 96)
starts-96 = form-sound (omega arith) (omega arith)

pub form-covered-96 : FormCovered 96
unfolding machine every spares keep_apart tally
form-covered-96 = cover (between-ways starts-96 refl) refl refl refl

pub locked-covered-96 : LockedCovered 96
unfolding machine every spares keep_apart tally
locked-covered-96 = cover (both_ways (locked-sound (omega arith) (omega arith)) refl _ _) refl refl refl

pub pending-covered-96 : PendingCovered 96
unfolding machine every spares keep_apart tally
pending-covered-96 = cover (both_ways (awaited-sound (omega arith) (omega arith)) refl _ _) refl refl refl

pub bare-covered-96 : BareCovered 96
unfolding machine every spares keep_apart tally
bare-covered-96 = cover (both_ways (bare-sound (omega arith) (omega arith)) refl _ _) refl refl refl

pub changes-covered-96 : ChangesCovered 96
unfolding machine every spares keep_apart
changes-covered-96 = cover-rows (reported-sound (omega arith) (omega arith)) refl refl refl refl

pub reach-needed-96 : ReachNeeded 96
unfolding machine
reach-needed-96 =
    record {
      home_down = clash starts-96 refl (struck 261) refl (0, refl) (differ-by (λ (c : Cursor). c.row) refl);
      text = clash starts-96 refl (struck 65) refl (0, refl, refl) (cell-differs 0 refl);
      clear_display = clash starts-96 refl (struck 264) refl (0, omega arith, refl) (cell-differs 0 refl);
      clear_line = clash starts-96 refl (struck 265) refl refl (cell-differs 0 refl);
      delete = clash starts-96 refl (struck 267) refl refl (cell-differs 0 refl);
    }

pub enter-bars-96 : EnterBars 96
unfolding machine
enter-bars-96 = cell-differs 0 refl

pub posts-keep-order-96 : PostsKeepOrder 96
unfolding machine
posts-keep-order-96 = keep-order (cell-differs 80 refl)

pub order-shows-96 : OrderShows 96
unfolding machine
order-shows-96 = cell-differs 1 refl

-- ---- on 48 rows
starts-48 : Sound 48 (form 48)
starts-48 = form-sound (omega arith) (omega arith)

pub form-covered-48 : FormCovered 48
unfolding machine every spares keep_apart tally
form-covered-48 = cover (between-ways starts-48 refl) refl refl refl

pub locked-covered-48 : LockedCovered 48
unfolding machine every spares keep_apart tally
locked-covered-48 = cover (both_ways (locked-sound (omega arith) (omega arith)) refl _ _) refl refl refl

pub pending-covered-48 : PendingCovered 48
unfolding machine every spares keep_apart tally
pending-covered-48 = cover (both_ways (awaited-sound (omega arith) (omega arith)) refl _ _) refl refl refl

pub bare-covered-48 : BareCovered 48
unfolding machine every spares keep_apart tally
bare-covered-48 = cover (both_ways (bare-sound (omega arith) (omega arith)) refl _ _) refl refl refl

pub changes-covered-48 : ChangesCovered 48
unfolding machine every spares keep_apart
changes-covered-48 = cover-rows (reported-sound (omega arith) (omega arith)) refl refl refl refl

pub reach-needed-48 : ReachNeeded 48
unfolding machine
reach-needed-48 =
    record {
      home_down = clash starts-48 refl (struck 261) refl (0, refl) (differ-by (λ (c : Cursor). c.row) refl);
      text = clash starts-48 refl (struck 65) refl (0, refl, refl) (cell-differs 0 refl);
      clear_display = clash starts-48 refl (struck 264) refl (0, omega arith, refl) (cell-differs 0 refl);
      clear_line = clash starts-48 refl (struck 265) refl refl (cell-differs 0 refl);
      delete = clash starts-48 refl (struck 267) refl refl (cell-differs 0 refl);
    }

pub enter-bars-48 : EnterBars 48
unfolding machine
enter-bars-48 = cell-differs 0 refl

pub posts-keep-order-48 : PostsKeepOrder 48
unfolding machine
posts-keep-order-48 = keep-order (cell-differs 80 refl)

pub order-shows-48 : OrderShows 48
unfolding machine
order-shows-48 = cell-differs 1 refl
