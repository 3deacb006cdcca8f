-- A run in which each stream is taken whole leaves what it leaves byte by byte; so one reader does not disturb the other however the host's bytes are cut. Assumes nothing.
use Prim.Native.Nat.{ℕ, ◌≤◌}
use mathlib.Core.Path.{◌≡◌, refl, sym, ap, ◌∙◌, subst}
use mathlib.Core.Logic.{inl, inr}
use mathlib.Core.Bool.{Bool, true, false, cond}
use mathlib.Core.List.{List, [], ◌∷◌, ◌++◌, map}
use native.Mathlib.Omega.{arith}
use lib.ListN.{take}
use lib.Seq.{take-length}
use lib.Dec.{eqb}
use borrow.Author.Tests.{eqb-true, eqb-false}
use Rattle.terminal.specs.State.{World, Sound}
use Rattle.streams.specs.Streams.{Hosted, stepped, host_refusal, fed}
use Rattle.streams.specs.Protected.{StaysOn}
use Rattle.streams.proofs.Kept.{stepped-sound, refused-by, unrefused}
use Rattle.streams.proofs.Longest.{fed-takes, fed-number}
use Rattle.records.specs.Records.{emptied}
use Rattle.records.proofs.Whole.{emptied-long}
use Rattle.mixing.specs.Event.{run, answers, filtered, Throughout}
use Rattle.promises.specs.SharedCalls.{SharedCall, host, key, post, report, post_as, read_back, shared_called, SharedTold}
use Rattle.promises.specs.Owners.{seen, heard, NoneDown, Calm, by_bytes, all_by_bytes, TakenWhole, not_host, CutsUndisturbed}
use Rattle.promises.proofs.Refusals.{host_refusals}
use Rattle.promises.proofs.Records.{fed-all}
use Rattle.promises.proofs.Recovery.{run-append}
use Rattle.promises.proofs.Following.{on-now}
use Rattle.promises.proofs.Undisturbed.{readers_undisturbed}

module _ (rows : ℕ) (few : rows ≤ 96) where
  -- ---- one host byte in a call of its own
  abbrev one : ℕ → SharedCall
  one b = host (b ∷ []) (emptied rows)

  module _ {w : World} (s : Sound rows w) (b : ℕ) where
    one_number : (fed rows w (b ∷ []) (emptied rows)).number ≡ 0
    one_number = elim (fed-number s (b ∷ []) (emptied rows)) [
      | inl z ↦ z
      | inr z ↦ absurd (omega (arith, fed-takes s (b ∷ []) (emptied rows) (emptied-long rows) z, ((host_refusals rows w (b ∷ []) (emptied rows)).short_stops z).0))
    ]

    one-taken : (fed rows w (b ∷ []) (emptied rows)).taken ≡ 1
    one-taken = (host_refusals rows w (b ∷ []) (emptied rows)).done_takes one_number

    one_left : shared_called rows (one b) w ≡ stepped rows b w
    one_left = (fed-all s (b ∷ []) (emptied rows) one_number).1

  -- ---- the bytes of a stream
  ones-left : (bytes : List ℕ) (w : World) → Sound rows w → run (shared_called rows) (map one bytes) w ≡ run (stepped rows) bytes w
  ones-left [] w s = refl
  ones-left (b ∷ bytes) w s = ap (run (shared_called rows) (map one bytes)) (one_left s b) ∙ ones-left bytes (stepped rows b w) (stepped-sound s b)

  ones-heard : (hidden : ℕ) (bytes : List ℕ) (es : List SharedCall) (w : World)
      → filtered not_host (answers (shared_called rows) (heard rows) (seen hidden) (map one bytes ++ es) w)
      ≡ filtered not_host (answers (shared_called rows) (heard rows) (seen hidden) es (run (shared_called rows) (map one bytes) w))
  ones-heard hidden [] es w = refl
  ones-heard hidden (b ∷ bytes) es w = ones-heard hidden bytes es (shared_called rows (one b) w)

  ones-calm : (owners bytes : List ℕ) (w : World) → Sound rows w → StaysOn rows bytes w → NoneDown rows bytes w → Throughout (shared_called rows) (Calm rows owners) (map one bytes) w
  ones-calm owners [] w s on none = tt
  ones-calm owners (b ∷ bytes) w s on none = (
    record {
      on = subst (λ (n : ℕ). StaysOn rows (take n (b ∷ [])) w) (sym (one-taken s b)) (on.0, on-now rows bytes (stepped rows b w) on.1);
      no_home_down = subst (λ (n : ℕ). NoneDown rows (take n (b ∷ [])) w) (sym (one-taken s b)) (none.0, tt);
      under = tt;
    },
    rw (one_left s b) (ones-calm owners bytes (stepped rows b w) (stepped-sound s b) on.1 none.1),
  )

  -- ---- a stream that is taken whole
  module _ (bytes reply : List ℕ) (w : World) (z : (fed rows w bytes reply).number ≡ 0) where
    whole-sound : Sound rows w
    whole-sound = by (eqb (host_refusal rows w) 0) refl
      where
        by : (t : Bool) → eqb (host_refusal rows w) 0 ≡ t → Sound rows w
        by true t = unrefused rows w few (eqb-true _ _ t)
        by false t =
            let n = eqb-false _ _ t in
            absurd (n (ap (λ (h : Hosted). h.number) (refused-by rows w bytes reply refl n) ∙ z))

    whole-left : run (shared_called rows) (map one bytes) w ≡ (fed rows w bytes reply).world
    whole-left = ones-left bytes w whole-sound ∙ sym (fed-all whole-sound bytes reply z).1

    whole-taken : take (fed rows w bytes reply).taken bytes ≡ bytes
    whole-taken = ap (λ (n : ℕ). take n bytes) ((host_refusals rows w bytes reply).done_takes z) ∙ take-length bytes

  -- ---- a call, byte by byte: what it leaves, what is asked of it, and what is heard
  part_left : (c : SharedCall) (w : World) → TakenWhole rows c w → run (shared_called rows) (by_bytes rows c) w ≡ shared_called rows c w
  part_left (host bytes reply) w z = whole-left bytes reply w z
  part_left (key code reply) w z = refl
  part_left (post field text) w z = refl
  part_left report w z = refl
  part_left (post_as owners reader field text) w z = refl
  part_left (read_back owners reader field out) w z = refl

  part-calm : (owners : List ℕ) (c : SharedCall) (w : World) → TakenWhole rows c w → Calm rows owners c w → Throughout (shared_called rows) (Calm rows owners) (by_bytes rows c) w
  part-calm owners (host bytes reply) w z h =
      ones-calm owners bytes w (whole-sound bytes reply w z) (subst (λ (l : List ℕ). StaysOn rows l w) (whole-taken bytes reply w z) h.on)
      (subst (λ (l : List ℕ). NoneDown rows l w) (whole-taken bytes reply w z) h.no_home_down)
  part-calm owners (key code reply) w z h = (h, tt)
  part-calm owners (post field text) w z h = (h, tt)
  part-calm owners report w z h = (h, tt)
  part-calm owners (post_as table reader field text) w z h = (h, tt)
  part-calm owners (read_back table reader field out) w z h = (h, tt)

  part-heard : (hidden : ℕ) (c : SharedCall) (es : List SharedCall) (w : World) → TakenWhole rows c w
      → filtered not_host (answers (shared_called rows) (heard rows) (seen hidden) (by_bytes rows c ++ es) w)
      ≡ filtered not_host (answers (shared_called rows) (heard rows) (seen hidden) (c ∷ es) w)
  part-heard hidden (host bytes reply) es w z =
      ones-heard hidden bytes es w ∙ ap (λ (v : World). filtered not_host (answers (shared_called rows) (heard rows) (seen hidden) es v)) (whole-left bytes reply w z)
  part-heard hidden (key code reply) es w z = refl
  part-heard hidden (post field text) es w z = refl
  part-heard hidden report es w z = refl
  part-heard hidden (post_as owners reader field text) es w z = refl
  part-heard hidden (read_back owners reader field out) es w z = refl

  -- ---- a run, byte by byte
  both-parts : (P : SharedCall → World → Type 0) (es fs : List SharedCall) (w : World) → Throughout (shared_called rows) P es w → Throughout (shared_called rows) P fs (run (shared_called rows) es w)
      → Throughout (shared_called rows) P (es ++ fs) w
  both-parts P [] fs w t u = u
  both-parts P (e ∷ es) fs w t u = (t.0, both-parts P es fs (shared_called rows e w) t.1 u)

  all_left : (es : List SharedCall) (w : World) → Throughout (shared_called rows) (TakenWhole rows) es w → run (shared_called rows) (all_by_bytes rows es) w ≡ run (shared_called rows) es w
  all_left [] w t = refl
  all_left (c ∷ es) w t =
      run-append (shared_called rows) (by_bytes rows c) (all_by_bytes rows es) w ∙ ap (run (shared_called rows) (all_by_bytes rows es)) (part_left c w t.0) ∙ all_left es (shared_called rows c w) t.1

  all-calm : (owners : List ℕ) (es : List SharedCall) (w : World) → Throughout (shared_called rows) (TakenWhole rows) es w → Throughout (shared_called rows) (Calm rows owners) es w
      → Throughout (shared_called rows) (Calm rows owners) (all_by_bytes rows es) w
  all-calm owners [] w t h = tt
  all-calm owners (c ∷ es) w t h =
      both-parts (Calm rows owners) (by_bytes rows c) (all_by_bytes rows es) w (part-calm owners c w t.0 h.0)
      (rw (part_left c w t.0) (all-calm owners es (shared_called rows c w) t.1 h.1))

  all-heard : (hidden : ℕ) (es : List SharedCall) (w : World) → Throughout (shared_called rows) (TakenWhole rows) es w
      → filtered not_host (answers (shared_called rows) (heard rows) (seen hidden) (all_by_bytes rows es) w) ≡ filtered not_host (answers (shared_called rows) (heard rows) (seen hidden) es w)
  all-heard hidden [] w t = refl
  all-heard hidden (c ∷ es) w t = part-heard hidden c (all_by_bytes rows es) w t.0 ∙ go (seen hidden c) (all-heard hidden es (shared_called rows c w) t.1)
    where
      v : World
      v = shared_called rows c w

      go : (b : Bool)
          → filtered not_host (answers (shared_called rows) (heard rows) (seen hidden) (all_by_bytes rows es) v) ≡ filtered not_host (answers (shared_called rows) (heard rows) (seen hidden) es v)
          → filtered not_host (cond b (heard rows c w ∷ answers (shared_called rows) (heard rows) (seen hidden) (all_by_bytes rows es) v) (answers (shared_called rows) (heard rows) (seen hidden) (all_by_bytes rows es) v))
          ≡ filtered not_host (cond b (heard rows c w ∷ answers (shared_called rows) (heard rows) (seen hidden) es v) (answers (shared_called rows) (heard rows) (seen hidden) es v))
      go true h = ap (λ (l : List SharedTold). cond (not_host (heard rows c w)) (heard rows c w ∷ l) l) h
      go false h = h

  pub cuts_undisturbed : CutsUndisturbed rows
  cuts_undisturbed owners hidden w es es' same h h' t t' =
      let u = readers_undisturbed rows few owners hidden w (all_by_bytes rows es) (all_by_bytes rows es') same (all-calm owners es w t h) (all-calm owners es' w t' h') in (
        sym (all-heard hidden es w t) ∙ ap (filtered not_host) u.same_heard ∙ all-heard hidden es' w t',
        rw (← all_left es w t, ← all_left es' w t') u.ends,
      )
