-- Runs of two readers that their promises cover, and runs that differ where one of the conditions does not hold, computed on memories of 96 and of 48 rows. Assumes nothing.
use mathlib.Core.Path.{◌≡◌, refl, sym, ap, ◌∙◌}
use mathlib.Core.Bool.{Bool, true, false, ◌&&◌, and-eq-true_iff}
use mathlib.Core.List.{List, [], ◌∷◌, map}
use Prim.Native.Nat.{ℕ, ◌≤◌}
use native.Mathlib.Omega.{arith}
use lib.ListN.{get_or, replicate}
use lib.Dec.{eqb}
use borrow.Author.Tests.{eqb-false}
use Rattle.terminal.specs.State.{World}
use Rattle.readers.specs.Owners.{is_table, owns, post_as_refusal, posted_as, text_in_field, read_refusal, read_back_of}
use Rattle.mixing.specs.Event.{run, answers, filtered, Throughout}
use Rattle.mixing.specs.Mix.{done, a_key, a_post, here, later}
use Rattle.promises.specs.Form.{form, shown, numbers, struck}
use Rattle.promises.specs.SharedCalls.{SharedCall, host, key, post_as, shared_called, SharedTold, by_host, by_key, by_post, by_report, by_reading, SharedOnIn}
use Rattle.promises.specs.Owners.{common, heard_of, NoHomeDown, Under, Calm, TakenWhole, not_host, handled_under, answered_under}
use Rattle.promises.specs.Shared.{owners, reads, busy, quiet, busy_end, quiet_end, both_hear, SharedBy, ReadersCovered, in_two, in_one, CutsCovered, with_post, transfer, block, RepliesTell, Disturbed, DownAsked, then_typed, typed_as, HomeDownDisturbs, OffAsked, row_gone, read_as, FormatOffDisturbs, TableAsked, TableDisturbs, tags, key_first, tags_first, TagsCovered}
use Rattle.promises.proofs.Owned.{reader_mixes_agree}
use Rattle.promises.proofs.Undisturbed.{readers_undisturbed}
use Rattle.kept.proofs.Sparing.{every, spares, keep_apart, apart_by_step}
use Rattle.kept.proofs.Outcome.{held, same_bytes, Outcome, outcome, outcome-told, outcome-heard, outcome-end, all-on, all-free, all_under}
use Rattle.kept.proofs.Witness.{machine, form-sound, differ-by}

-- what these computations look into
unfoldable readers : ℕ
unfolding machine is_table owns post_as_refusal posted_as text_in_field read_refusal read_back_of held same_bytes outcome
readers = 0

-- ---- what is asked of each call
each_both : (rows : ℕ) (P Q R : SharedCall → World → Type 0) → ((c : SharedCall) (w : World) → P c w → Q c w → R c w) → (es : List SharedCall) (w : World)
    → Throughout (shared_called rows) P es w → Throughout (shared_called rows) Q es w → Throughout (shared_called rows) R es w
each_both rows P Q R join [] w p q = tt
each_both rows P Q R join (c ∷ es) w p q = (join c w p.0 q.0, each_both rows P Q R join es (shared_called rows c w) p.1 q.1)

module _ (rows : ℕ) (es : List SharedCall) (w : World) where
  abbrev o : Outcome
  o = outcome rows owners es w

  down-asked : o.on && o.under ≡ true → Throughout (shared_called rows) (DownAsked rows) es w
  down-asked t =
      let a = (and-eq-true_iff o.on o.under).0 t in
      each_both rows (SharedOnIn rows) (λ c v. Under owners c) (DownAsked rows) (λ c v p q. (p, q)) es w (all-on rows owners es w a.0) (all_under rows owners es w a.1)

  off-asked : o.free && o.under ≡ true → Throughout (shared_called rows) (OffAsked rows) es w
  off-asked t =
      let a = (and-eq-true_iff o.free o.under).0 t in
      each_both rows (NoHomeDown rows) (λ c v. Under owners c) (OffAsked rows) (λ c v p q. (p, q)) es w (all-free rows owners es w a.0) (all_under rows owners es w a.1)

  table-asked : o.on && o.free ≡ true → Throughout (shared_called rows) (TableAsked rows) es w
  table-asked t =
      let a = (and-eq-true_iff o.on o.free).0 t in
      each_both rows (SharedOnIn rows) (NoHomeDown rows) (TableAsked rows) (λ c v p q. (p, q)) es w (all-on rows owners es w a.0) (all-free rows owners es w a.1)

  -- all of it
  all-calm : o.on && (o.free && o.under) ≡ true → Throughout (shared_called rows) (Calm rows owners) es w
  all-calm t =
      let a = (and-eq-true_iff o.on (o.free && o.under)).0 t in
      each_both rows (SharedOnIn rows) (OffAsked rows) (Calm rows owners) (λ c v p q. record { on = p; no_home_down = q.0; under = q.1 }) es w (all-on rows owners es w a.0) (off-asked a.1)

-- ---- two runs, each computed once: whether of both all is asked, what is told, or heard, and how they end
pub record Shows : Type 0 where
  pub asked : Bool
  pub one : List SharedTold
  pub other : List SharedTold

abbrev shows : List SharedTold → List SharedTold → Shows
shows ts ts' = record { asked = true; one = ts; other = ts' }

abbrev shown_by : (Outcome → Bool) → (SharedTold → SharedTold) → Outcome → Outcome → Shows
shown_by asks hears o p = record { asked = asks o && asks p; one = map hears o.told; other = map hears p.told }

unfoldable showing : (Outcome → Bool) → (SharedTold → SharedTold) → ℕ → List SharedCall → List SharedCall → World → Shows
showing asks hears rows es es' w = shown_by asks hears (outcome rows owners es w) (outcome rows owners es' w)

-- with the ends
pub record Ends : Type 0 where
  pub shows-all : Shows
  pub one_end : List (List ℕ)
  pub other-end : List (List ℕ)

abbrev asks_all : Outcome → Bool
asks_all o = o.on && (o.free && o.under)

unfoldable ending : ℕ → List SharedCall → List SharedCall → World → Ends
ending rows es es' w =
    let o = outcome rows owners es w in
    let p = outcome rows owners es' w in
    record { shows-all = shown_by asks_all heard_of o p; one_end = shown o.end; other-end = shown p.end }

module _ (rows : ℕ) (asks : Outcome → Bool) (hears : SharedTold → SharedTold) (es es' : List SharedCall) {ts ts' : List SharedTold} (e : showing asks hears rows es es' (form rows) ≡ shows ts ts') where
  both-asked : (asks (outcome rows owners es (form rows)) ≡ true) × (asks (outcome rows owners es' (form rows)) ≡ true)
  unfolding showing
  both-asked = (and-eq-true_iff (asks (outcome rows owners es (form rows))) (asks (outcome rows owners es' (form rows)))).0 (ap (λ (x : Shows). x.asked) e)

  both_told : (map hears (outcome rows owners es (form rows)).told ≡ ts) × (map hears (outcome rows owners es' (form rows)).told ≡ ts')
  unfolding showing
  both_told = (ap (λ (x : Shows). x.one) e, ap (λ (x : Shows). x.other) e)

-- a run that is covered
share : (rows : ℕ) (es es' : List SharedCall) (end end' : List (List ℕ)) (ts : List SharedTold) → rows ≤ 96 → common 2 es ≡ common 2 es'
    → ending rows es es' (form rows) ≡ record { shows-all = shows ts ts; one_end = end; other-end = end' } → SharedBy rows es es' end end' ts
unfolding ending showing
share rows es es' end end' ts few same e =
    let s : showing asks_all heard_of rows es es' (form rows) ≡ shows ts ts = ap (λ (x : Ends). x.shows-all) e in
    let a = both-asked rows asks_all heard_of es es' s in
    let k = all-calm rows es (form rows) a.0 in
    let k' = all-calm rows es' (form rows) a.1 in
    record {
      same_common = same;
      one_calm = k;
      other_calm = k';
      undisturbed = readers_undisturbed rows few owners 2 (form rows) es es' same k k';
      one_ends = ap shown (outcome-end rows owners es (form rows)) ∙ ap (λ (x : Ends). x.one_end) e;
      other_ends = ap shown (outcome-end rows owners es' (form rows)) ∙ ap (λ (x : Ends). x.other-end) e;
      heard_is = outcome-heard rows owners es (form rows) ∙ (both_told rows asks_all heard_of es es' s).0;
    }

-- the same host bytes, cut and in one call
cut : (rows : ℕ) → Throughout (shared_called rows) (TakenWhole rows) in_two (form rows) → Throughout (shared_called rows) (TakenWhole rows) in_one (form rows)
    → showing asks_all heard_of rows in_two in_one (form rows)
    ≡ shows (by_host 0 4 0 [] ∷ by_host 0 3 0 [] ∷ by_key 0 0 [] ∷ by_reading 0 6 (65 ∷ replicate 5 32) ∷ []) (by_host 0 7 0 [] ∷ by_key 0 0 [] ∷ by_reading 0 6 (65 ∷ replicate 5 32) ∷ [])
    → CutsCovered rows
cut rows t t' e =
    let a = both-asked rows asks_all heard_of in_two in_one e in
    let h = both_told rows asks_all heard_of in_two in_one e in
    record {
      same_common = refl;
      one_calm = all-calm rows in_two (form rows) a.0;
      other_calm = all-calm rows in_one (form rows) a.1;
      one_whole = t;
      other_whole = t';
      one_heard = ap (filtered not_host) (outcome-heard rows owners in_two (form rows) ∙ h.0);
      other_heard = ap (filtered not_host) (outcome-heard rows owners in_one (form rows) ∙ h.1);
    }

-- a host's reply
abbrev whole : SharedTold → SharedTold
whole t = t

map_whole : (l : List SharedTold) → map whole l ≡ l
map_whole [] = refl
map_whole (t ∷ l) = ap (λ (m : List SharedTold). t ∷ m) (map_whole l)

tell : (rows : ℕ)
    → showing asks_all whole rows (with_post transfer) transfer (form rows) ≡ shows (by_host 0 3 31 (block (49 ∷ 55 ∷ replicate 4 32)) ∷ []) (by_host 0 3 31 (block (replicate 6 32)) ∷ [])
    → RepliesTell rows
tell rows e =
    let a = both-asked rows asks_all whole (with_post transfer) transfer e in
    let t = both_told rows asks_all whole (with_post transfer) transfer e in
    record {
      same_common = refl;
      one_calm = all-calm rows (with_post transfer) (form rows) a.0;
      other_calm = all-calm rows transfer (form rows) a.1;
      one_told = outcome-told rows owners (with_post transfer) (form rows) ∙ sym (map_whole _) ∙ t.0;
      other_told = outcome-told rows owners transfer (form rows) ∙ sym (map_whole _) ∙ t.1;
    }

-- runs that are disturbed: where the first byte read back differs, what is heard does
unfoldable first_read : SharedTold → ℕ
first_read (by_host number taken written reply) = 0
first_read (by_key number written reply) = 0
first_read (by_post number) = 0
first_read (by_report number count first) = 0
first_read (by_reading number written out) = get_or out 0 0

module _ (rows : ℕ) (asks : Outcome → Bool) (Asked : SharedCall → World → Type 0)
    (carry : (es : List SharedCall) → asks (outcome rows owners es (form rows)) ≡ true → Throughout (shared_called rows) Asked es (form rows))
  where
    disturb : (es es' : List SharedCall) (ts ts' : List SharedTold) → common 2 es ≡ common 2 es' → (k : ℕ)
        → eqb (first_read (get_or ts k (by_post 0))) (first_read (get_or ts' k (by_post 0))) ≡ false → showing asks heard_of rows es es' (form rows) ≡ shows ts ts' → Disturbed rows Asked es es' ts ts'
    disturb es es' ts ts' same k d e =
        let a = both-asked rows asks heard_of es es' e in
        let t = both_told rows asks heard_of es es' e in
        record {
          same_common = same;
          one_asked = carry es a.0;
          other_asked = carry es' a.1;
          one_heard = outcome-heard rows owners es (form rows) ∙ t.0;
          other_heard = outcome-heard rows owners es' (form rows) ∙ t.1;
          differ = differ-by (λ (l : List SharedTold). first_read (get_or l k (by_post 0))) d;
        }

-- home down
abbrev asks_down : Outcome → Bool
asks_down o = o.on && o.under

down : (rows : ℕ) (c : SharedCall) (t : SharedTold) → common 2 (with_post (then_typed c)) ≡ common 2 (then_typed c)
    → showing asks_down heard_of rows (with_post (then_typed c)) (then_typed c) (form rows) ≡ shows (typed_as t 32) (typed_as t 65)
    → Disturbed rows (DownAsked rows) (with_post (then_typed c)) (then_typed c) (typed_as t 32) (typed_as t 65)
unfolding first_read
down rows c t same e = disturb rows asks_down (DownAsked rows) (λ es a. down-asked rows es (form rows) a) (with_post (then_typed c)) (then_typed c) (typed_as t 32) (typed_as t 65) same 2 refl e

-- format mode off
abbrev asks_off : Outcome → Bool
asks_off o = o.free && o.under

off : (rows : ℕ) → showing asks_off heard_of rows (with_post row_gone) row_gone (form rows) ≡ shows (read_as (49 ∷ 55 ∷ replicate 4 32)) (read_as (replicate 6 32)) → FormatOffDisturbs rows
unfolding first_read
off rows e = disturb rows asks_off (OffAsked rows) (λ es a. off-asked rows es (form rows) a) (with_post row_gone) row_gone (read_as (49 ∷ 55 ∷ replicate 4 32)) (read_as (replicate 6 32)) refl 1 refl e

-- another owner table
abbrev asks_table : Outcome → Bool
asks_table o = o.on && o.free

tabled : (rows : ℕ)
    → showing asks_table heard_of rows (post_as (replicate 256 2) 2 0 (90 ∷ []) ∷ reads 1 0 4 ∷ []) (reads 1 0 4 ∷ []) (form rows)
    ≡ shows (by_reading 0 4 (90 ∷ 32 ∷ 32 ∷ 32 ∷ []) ∷ []) (by_reading 0 4 (32 ∷ 32 ∷ 32 ∷ 32 ∷ []) ∷ []) → TableDisturbs rows
unfolding first_read
tabled rows e =
    disturb rows asks_table (TableAsked rows) (λ es a. table-asked rows es (form rows) a) (post_as (replicate 256 2) 2 0 (90 ∷ []) ∷ reads 1 0 4 ∷ []) (reads 1 0 4 ∷ [])
    (by_reading 0 4 (90 ∷ 32 ∷ 32 ∷ 32 ∷ []) ∷ []) (by_reading 0 4 (32 ∷ 32 ∷ 32 ∷ 32 ∷ []) ∷ []) refl 0 refl e

-- two tags and a key in two orders
mix : {rows : ℕ} → 24 ≤ rows → rows ≤ 96 → (form rows).state.format ≡ true → keep_apart rows tags (struck 65 ∷ []) (form rows) ≡ true
    → shown (run (handled_under rows owners) tags_first (form rows))
    ≡ (65 ∷ 32 ∷ 32 ∷ 32 ∷ []) ∷ (49 ∷ 55 ∷ 32 ∷ 32 ∷ 32 ∷ 32 ∷ []) ∷ (84 ∷ 65 ∷ 71 ∷ 32 ∷ 32 ∷ 32 ∷ []) ∷ (32 ∷ 32 ∷ 32 ∷ []) ∷ (32 ∷ 32 ∷ 32 ∷ [])
    ∷ (35 ∷ 33 ∷ 35 ∷ []) ∷ (0 ∷ 1 ∷ 0 ∷ []) ∷ []
    → numbers (answers (handled_under rows owners) (answered_under rows owners) (λ e. true) tags_first (form rows)) ≡ 0 ∷ 0 ∷ 13 ∷ 0 ∷ [] → TagsCovered rows
mix {rows} some few on k ends numbered =
    let m = a_key (a_post here (a_post here (a_post here done))) in
    let m' = a_post (later (eqb-false 2 1 refl) here) (a_post here (a_post here (a_key done))) in
    let a = apart_by_step (handled_under rows owners) rows (λ k v. refl) tags (struck 65 ∷ []) (form rows) k in
    record {
      one_mixes = m;
      other_mixes = m';
      apart = a;
      agree = reader_mixes_agree rows owners (form rows) (form-sound some few) on (struck 65 ∷ []) tags a key_first tags_first m m';
      ends = ends;
      numbered = numbered;
    }

-- ---- on 96 rows
pub readers-covered-96 : ReadersCovered 96
unfolding readers ending
readers-covered-96 = share 96 busy quiet busy_end quiet_end both_hear (omega arith) refl refl

pub cuts-covered-96 : CutsCovered 96
unfolding readers showing
cuts-covered-96 = cut 96 (refl, (tt, (refl, (tt, (tt, tt))))) (refl, (tt, (tt, tt))) refl

pub tags-covered-96 : TagsCovered 96
unfolding readers every spares keep_apart
tags-covered-96 = mix (omega arith) (omega arith) refl refl refl refl

pub replies-tell-96 : RepliesTell 96
unfolding readers showing
replies-tell-96 = tell 96 refl

down-by-key-96 : showing asks_down heard_of 96 (with_post (then_typed (key 261 []))) (then_typed (key 261 [])) (form 96) ≡ shows (typed_as (by_key 0 0 []) 32) (typed_as (by_key 0 0 []) 65)
unfolding readers showing
down-by-key-96 = refl

down-by-host-96 :
    showing asks_down heard_of 96 (with_post (then_typed (host (27 ∷ 70 ∷ []) []))) (then_typed (host (27 ∷ 70 ∷ []) [])) (form 96) ≡ shows (typed_as (by_host 0 2 0 []) 32) (typed_as (by_host 0 2 0 []) 65)
unfolding readers showing
down-by-host-96 = refl

pub home-down-disturbs-96 : HomeDownDisturbs 96
home-down-disturbs-96 =
    record {
      key_struck = down 96 (key 261 []) (by_key 0 0 []) refl down-by-key-96;
      host_sent = down 96 (host (27 ∷ 70 ∷ []) []) (by_host 0 2 0 []) refl down-by-host-96;
    }

pub format-off-disturbs-96 : FormatOffDisturbs 96
unfolding readers showing
format-off-disturbs-96 = off 96 refl

pub table-disturbs-96 : TableDisturbs 96
unfolding readers showing
table-disturbs-96 = tabled 96 refl

-- ---- on 48 rows
pub readers-covered-48 : ReadersCovered 48
unfolding readers ending
readers-covered-48 = share 48 busy quiet busy_end quiet_end both_hear (omega arith) refl refl

pub cuts-covered-48 : CutsCovered 48
unfolding readers showing
cuts-covered-48 = cut 48 (refl, (tt, (refl, (tt, (tt, tt))))) (refl, (tt, (tt, tt))) refl

pub tags-covered-48 : TagsCovered 48
unfolding readers every spares keep_apart
tags-covered-48 = mix (omega arith) (omega arith) refl refl refl refl

pub replies-tell-48 : RepliesTell 48
unfolding readers showing
replies-tell-48 = tell 48 refl

down-by-key-48 : showing asks_down heard_of 48 (with_post (then_typed (key 261 []))) (then_typed (key 261 [])) (form 48) ≡ shows (typed_as (by_key 0 0 []) 32) (typed_as (by_key 0 0 []) 65)
unfolding readers showing
down-by-key-48 = refl

down-by-host-48 :
    showing asks_down heard_of 48 (with_post (then_typed (host (27 ∷ 70 ∷ []) []))) (then_typed (host (27 ∷ 70 ∷ []) [])) (form 48) ≡ shows (typed_as (by_host 0 2 0 []) 32) (typed_as (by_host 0 2 0 []) 65)
unfolding readers showing
down-by-host-48 = refl

pub home-down-disturbs-48 : HomeDownDisturbs 48
home-down-disturbs-48 =
    record {
      key_struck = down 48 (key 261 []) (by_key 0 0 []) refl down-by-key-48;
      host_sent = down 48 (host (27 ∷ 70 ∷ []) []) (by_host 0 2 0 []) refl down-by-host-48;
    }

pub format-off-disturbs-48 : FormatOffDisturbs 48
unfolding readers showing
format-off-disturbs-48 = off 48 refl

pub table-disturbs-48 : TableDisturbs 48
unfolding readers showing
table-disturbs-48 = tabled 48 refl
