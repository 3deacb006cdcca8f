-- What is promised of calls, of those of two readers too: the calls of `Calls` by what is proved of them, a reader's post as the post that names no reader, a reading back by what it reads.
-- Assumes nothing.
use Prim.Native.Nat.{ℕ, ◌≤◌, ◌<◌}
use mathlib.Core.Path.{◌≡◌, refl, sym, ap, ap₂, ◌∙◌, subst}
use mathlib.Core.Logic.{◌⊎◌, ◌↔◌, inl, inr}
use mathlib.Core.List.{List, [], ◌∷◌, ◌++◌}
use lib.Dec.{eqb}
use Rattle.std.specs.Prelude.{Option, Some, None}
use Rattle.cells.proofs.Choices.{choose-as}
use Rattle.cells.proofs.Patch.{eq-or}
use Rattle.fields.specs.Fields.{marks, nth_field}
use Rattle.reading.specs.declared.Number.{Number}
use Rattle.terminal.specs.State.{World, barred, Good, Sound}
use Rattle.terminal.specs.Protected.{Protects}
use Rattle.terminal.specs.Refusals.{first_refusal}
use Rattle.terminal.proofs.Good.{in-sound}
use Rattle.terminal.proofs.Protected.{protects-same, protects-then}
use Rattle.key.specs.Keys.{keyed}
use Rattle.post.specs.Posts.{Posted, posted_to}
use Rattle.post.proofs.Kept.{post-good}
use Rattle.post.proofs.Protected.{posted-protects}
use Rattle.readers.specs.Owners.{post_as_refusal, posted_as, text_in_field, read_refusal, Read, read_back_of}
use Rattle.readers.proofs.Kept.{as-left, as-done, as-refused, as_by, as-sound}
use Rattle.streams.specs.Streams.{Hosted, fed}
use Rattle.mixing.specs.Event.{run}
use Rattle.promises.specs.Calls as Calls
use Rattle.promises.specs.Calls.{Told}
use Rattle.promises.specs.Changes.{IsSet, RowDiffers}
use Rattle.promises.specs.Noise.{Misread}
use Rattle.promises.specs.SharedCalls.{SharedCall, host, key, post, report, post_as, read_back, shared_called, SharedTold, by_host, by_key, by_post, by_report, by_reading, shared_told, SharedGoodStays, SharedOnIn, SharedProtectedStay, SharedCallRows, shared_all_told, shared_bytes_of_call, SharedCallsUnread, SharedCallsRecover}
use Rattle.promises.proofs.Refusals.{good-shown, called-good}
use Rattle.promises.proofs.Protected.{called-protects}
use Rattle.promises.proofs.Changes.{both, none, unchanged, host-rows, key-rows, post-rows}
use Rattle.promises.proofs.Recovery.{misread, by-misread, are-misread, run-append, called-sound, esc-fed, reposted, post-unread, one-unread}

-- ---- sound worlds, good states
pub shared-sound : {rows : ℕ} (c : SharedCall) {w : World} → Sound rows w → Sound rows (shared_called rows c w)
shared-sound (host bytes reply) s = called-sound (Calls.host bytes reply) s
shared-sound (key code reply) s = called-sound (Calls.key code reply) s
shared-sound (post field text) s = called-sound (Calls.post field text) s
shared-sound report s = called-sound Calls.report s
shared-sound (post_as owners reader field text) s = as-sound s owners reader field text
shared-sound (read_back owners reader field out) s = s

module _ (rows : ℕ) (few : rows ≤ 96) where
  shared-good : (c : SharedCall) (w : World) → Good rows w.state → Good rows (shared_called rows c w).state
  shared-good (host bytes reply) w g = called-good rows few (Calls.host bytes reply) w g
  shared-good (key code reply) w g = called-good rows few (Calls.key code reply) w g
  shared-good (post field text) w g = called-good rows few (Calls.post field text) w g
  shared-good report w g = called-good rows few Calls.report w g
  shared-good (post_as owners reader field text) w g = as_by rows w owners reader field text (λ v. Good rows v.state) (post-good rows w field text g) g
  shared-good (read_back owners reader field out) w g = g

  pub shared_good_stays : SharedGoodStays rows
  shared_good_stays [] w g = good-shown g
  shared_good_stays (c ∷ calls) w g = shared_good_stays calls (shared_called rows c w) (shared-good c w g)

  -- ---- protected cells stay
  shared-protects : (c : SharedCall) (w : World) → SharedOnIn rows c w → Protects w (shared_called rows c w)
  shared-protects (host bytes reply) w on = called-protects rows few (Calls.host bytes reply) w on
  shared-protects (key code reply) w on = called-protects rows few (Calls.key code reply) w on
  shared-protects (post field text) w on = called-protects rows few (Calls.post field text) w on
  shared-protects report w on = called-protects rows few Calls.report w on
  shared-protects (post_as owners reader field text) w on = as_by rows w owners reader field text (Protects w) (posted-protects rows w field text few) (protects-same refl refl)
  shared-protects (read_back owners reader field out) w on = protects-same refl refl

  pub shared_protected_stay : SharedProtectedStay rows
  shared_protected_stay [] w on = protects-same refl refl
  shared_protected_stay (c ∷ calls) w on = protects-then (shared-protects c w on.0) (shared_protected_stay calls (shared_called rows c w) on.1)

  -- ---- the rows that are set
  reader-rows : (w : World) (owners : List ℕ) (reader field : ℕ) (text : List ℕ) (r : ℕ) → r < rows
      → IsSet rows (posted_as rows w owners reader field text).world.state r ↔ IsSet rows w.state r ⊎ RowDiffers w (posted_as rows w owners reader field text).world r
  reader-rows w owners reader field text r l = elim (eq-or (posted_as rows w owners reader field text).number 0) [
    | inl z ↦ subst (λ (p : Posted). IsSet rows p.world.state r ↔ IsSet rows w.state r ⊎ RowDiffers w p.world r) (sym (as-done rows w owners reader field text z)) (post-rows rows few w field text r l)
    | inr z ↦ unchanged rows few w (posted_as rows w owners reader field text).world r (as-refused rows w owners reader field text z)
  ]

  pub shared_call_rows : SharedCallRows rows
  shared_call_rows [] w r q l = none (λ x. x)
  shared_call_rows (host bytes reply ∷ calls) w r q l = both (host-rows rows few w bytes reply r l) (shared_call_rows calls (fed rows w bytes reply).world r q l)
  shared_call_rows (key code reply ∷ calls) w r q l = both (key-rows rows few w reply code r l) (shared_call_rows calls (keyed rows w reply code).world r q l)
  shared_call_rows (post field text ∷ calls) w r q l = both (post-rows rows few w field text r l) (shared_call_rows calls (posted_to rows w field text).world r q l)
  shared_call_rows (report ∷ calls) w r q l = absurd q
  shared_call_rows (post_as owners reader field text ∷ calls) w r q l =
      both (reader-rows w owners reader field text r l) (shared_call_rows calls (posted_as rows w owners reader field text).world r q l)
  shared_call_rows (read_back owners reader field out ∷ calls) w r q l = both (none (λ x. x)) (shared_call_rows calls w r q l)

-- ---- calls without a host byte do not look at the reading state
module _ (rows : ℕ) (w : World) (reading : ℕ) (number : Number) (s : Sound rows w) (t : Sound rows (misread w reading number)) where
  abbrev other : World
  other = misread w reading number

  abbrev again : Posted → Posted
  again = reposted rows w reading number s t

  -- a reader's post, and what it reads back
  reader-refusal : (owners : List ℕ) (reader field : ℕ) (text : List ℕ) → post_as_refusal rows other owners reader field text ≡ post_as_refusal rows w owners reader field text
  unfolding post_as_refusal first_refusal barred
  reader-refusal owners reader field text = rw ((in-sound s).1, (in-sound t).1)

  reader-unread : (owners : List ℕ) (reader field : ℕ) (text : List ℕ) → posted_as rows other owners reader field text ≡ again (posted_as rows w owners reader field text)
  reader-unread owners reader field text =
      as-left rows other owners reader field text
      ∙ rw (reader-refusal owners reader field text)
      (ap (λ (v : World). record { number = post_as_refusal rows w owners reader field text; world = v })
      (choose-as (λ (v : World). misread v reading number) (eqb (post_as_refusal rows w owners reader field text) 0) {y = w} (ap (λ (p : Posted). p.world) (post-unread rows w reading number s t field text)) refl))
      ∙ ap again (sym (as-left rows w owners reader field text))

  text-unread : (f : Option ℕ) → text_in_field other f ≡ text_in_field w f
  unfolding text_in_field
  text-unread (Some k) = refl
  text-unread None = refl

  reading-unread : (owners : List ℕ) (reader field : ℕ) (out : List ℕ) → read_back_of rows other owners reader field out ≡ read_back_of rows w owners reader field out
  unfolding read_back_of read_refusal first_refusal
  reading-unread owners reader field out = rw ((in-sound s).1, (in-sound t).1, text-unread (nth_field (marks w.attrs) field))

-- the answer of a call of `Calls`, as these calls answer it
abbrev as_told : Told → SharedTold
as_told (Calls.by_host number taken written reply) = by_host number taken written reply
as_told (Calls.by_key number written reply) = by_key number written reply
as_told (Calls.by_post number) = by_post number
as_told (Calls.by_report number count first) = by_report number count first

-- one call: what it leaves, and what it answers
one-shared : (rows : ℕ) (c : SharedCall) (w : World) (reading : ℕ) (number : Number) → Sound rows w → Sound rows (misread w reading number) → shared_bytes_of_call c ≡ []
    → (shared_called rows c (misread w reading number) ≡ misread (shared_called rows c w) reading number) × (shared_told rows c (misread w reading number) ≡ shared_told rows c w)
one-shared rows (host bytes reply) w reading number s t q = let u = one-unread rows (Calls.host bytes reply) w reading number s t q in (u.0, ap as_told u.1)
one-shared rows (key code reply) w reading number s t q = let u = one-unread rows (Calls.key code reply) w reading number s t q in (u.0, ap as_told u.1)
one-shared rows (post field text) w reading number s t q = let u = one-unread rows (Calls.post field text) w reading number s t q in (u.0, ap as_told u.1)
one-shared rows report w reading number s t q = let u = one-unread rows Calls.report w reading number s t q in (u.0, ap as_told u.1)
one-shared rows (post_as owners reader field text) w reading number s t q =
    let u = reader-unread rows w reading number s t owners reader field text in
    (ap (λ (p : Posted). p.world) u, ap (λ (p : Posted). by_post p.number) u)
one-shared rows (read_back owners reader field out) w reading number s t q =
    (refl, ap (λ (b : Read). by_reading b.number b.written b.out) (reading-unread rows w reading number s t owners reader field out))

shared-unread : {rows : ℕ} (c : SharedCall) {w v : World} → Misread rows w v → shared_bytes_of_call c ≡ []
    → Misread rows (shared_called rows c w) (shared_called rows c v) × (shared_told rows c v ≡ shared_told rows c w)
shared-unread {rows} c {w} m q =
    by-misread (λ (v : World). Misread rows (shared_called rows c w) (shared_called rows c v) × (shared_told rows c v ≡ shared_told rows c w)) m
    (λ reading number t.
    let u = one-shared rows c w reading number m.sound t q in
    (are-misread (shared-sound c m.sound) (shared-sound c t) reading number u.0, u.1))

pub shared_calls_unread : (rows : ℕ) → SharedCallsUnread rows
shared_calls_unread rows [] w v m q = (m, refl)
shared_calls_unread rows (c ∷ calls) w v m q =
    let u = shared-unread c m q.0 in
    let i = shared_calls_unread rows calls (shared_called rows c w) (shared_called rows c v) u.0 q.1 in
    (i.0, ap₂ (λ (a : SharedTold) (l : List SharedTold). a ∷ l) u.1 i.1)

-- ---- an ESC
shared-told-append : (rows : ℕ) (cs ds : List SharedCall) (w : World)
    → shared_all_told rows (cs ++ ds) w ≡ shared_all_told rows cs w ++ shared_all_told rows ds (run (shared_called rows) cs w)
shared-told-append rows [] ds w = refl
shared-told-append rows (c ∷ cs) ds w = ap (λ (l : List SharedTold). shared_told rows c w ∷ l) (shared-told-append rows cs ds (shared_called rows c w))

pub shared_calls_recover : (rows : ℕ) → SharedCallsRecover rows
shared_calls_recover rows before later esc bytes reply w v m q e =
    let rest = host (esc ∷ bytes) reply ∷ later in
    let i = shared_calls_unread rows before w v m q in
    let f = esc-fed esc e i.0 bytes reply in (
      run-append (shared_called rows) before rest v ∙ ap (λ (h : Hosted). run (shared_called rows) later h.world) f ∙ sym (run-append (shared_called rows) before rest w),
      shared-told-append rows before rest v
          ∙ ap₂ (λ (a b : List SharedTold). a ++ b) i.1 (ap (λ (h : Hosted). by_host h.number h.taken h.written h.reply ∷ shared_all_told rows later h.world) f)
          ∙ sym (shared-told-append rows before rest w),
    )
