-- The promises of the rows that changed: after a byte, a call, calls and records, of a fresh terminal, and of a report. Assumes nothing.
use Prim.Native.Nat.{ℕ, zero, suc, ◌+◌, ◌*◌, ◌≤◌, ◌<◌}
use mathlib.Core.Path.{◌≡◌, refl, sym, ap, ◌∙◌, subst}
use mathlib.Core.Logic.{◌⊎◌, inl, inr, ◌↔◌}
use mathlib.Core.Bool.{Bool, true, false}
use mathlib.Core.List.{List, [], ◌∷◌}
use native.Mathlib.Omega.{arith}
use lib.ListN.{length, take, drop, get_or, replicate, length-replicate, get_or-replicate}
use lib.Dec.{eqb}
use Rattle.cells.proofs.Patch.{eq-or}
use Rattle.cells.proofs.Search.{not-both}
use Rattle.changes.specs.Sets.{rows_of, set_of, first_true}
use Rattle.changes.proofs.Sets.{rows-set, length-rows}
use Rattle.reading.specs.Action as Action
use Rattle.reading.specs.Reading.{action_of, settled}
use Rattle.reading.proofs.Rules.{either}
use Rattle.terminal.specs.State.{World, fresh_world, Sound}
use Rattle.terminal.specs.Acts.{acted}
use Rattle.terminal.specs.Refusals.{first_refusal}
use Rattle.terminal.specs.Fresh.{fresh_refusal, freshened}
use Rattle.terminal.proofs.Good.{in-good, sound-in}
use Rattle.key.specs.Keys.{keyed}
use Rattle.key.proofs.Kept.{key-ready, key-sound, key-number, key-refused}
use Rattle.post.specs.Posts.{posted_to}
use Rattle.post.proofs.Kept.{post-ready, post-sound, post-refused}
use Rattle.streams.specs.Streams.{action_for, stepped_by, stepped, Hosted, fed_on, fed}
use Rattle.streams.proofs.Kept.{stepped-sound, fed_by}
use Rattle.streams.proofs.Steps.{stepped_on, fed_on-is}
use Rattle.report.specs.Reports.{report_refusal, reported}
use Rattle.records.specs.Records.{kind_of, number_of, data_of, form_refusal, Part, host_part, key_part, post_part, record_part, Ran, emptied, ran_from, record_ran}
use Rattle.sessions.specs.Session.{next, went}
use Rattle.promises.specs.Calls.{host, key, post, report}
use Rattle.promises.specs.Changes.{IsSet, cell_at, RowDiffers, BytesChange, ByteRows, ResetRows, CallRows, SessionRows, FreshRows, ReportRows}
use Rattle.promises.proofs.Rows.{row-notes, key-notes, post-notes, step-notes}

-- ---- one change after another, and none
module _ {A B C X Y : Type 0} where
  pub both : A ↔ B ⊎ X → C ↔ A ⊎ Y → C ↔ B ⊎ (X ⊎ Y)
  both h k = (
    λ c. elim (k.0 c) [ inl a ↦ elim (h.0 a) [ inl b ↦ inl b | inr x ↦ inr (inl x) ] | inr y ↦ inr (inr y) ],
    λ o. k.1 (elim o [ inl b ↦ inl (h.1 (inl b)) | inr z ↦ elim z [ inl x ↦ inl (h.1 (inr x)) | inr y ↦ inr y ] ]),
  )

pub none : {A X : Type 0} → ¬ X → A ↔ A ⊎ X
none n = (inl, λ o. elim o [ inl a ↦ a | inr x ↦ absurd (n x) ])

module _ (rows : ℕ) where
  -- ---- host bytes
  pub byte_rows : ByteRows rows
  byte_rows w byte r s l = row-notes rows w (stepped rows byte w) s (stepped-sound s byte) (step-notes rows w byte) r l

  -- byte E after ESC leaves blanks with attributes 0
  reset-is : (w : World) → w.state.reading ≡ 1 → stepped rows 69 w ≡ stepped_by rows Action.hard_reset 69 w
  unfolding stepped action_for action_of settled
  reset-is w e = ap (λ (s : ℕ). stepped_by rows (settled (action_of s 69) w.state.number) 69 w) e

  reset-cell : (w : World) → w.state.reading ≡ 1 → (i : ℕ) → i < rows * 80 → cell_at (stepped rows 69 w) i ≡ (32, 0)
  unfolding stepped_by acted fresh_world
  reset-cell w e i l =
      ap (λ (v : World). cell_at v i) (reset-is w e) ∙ (λ j. (get_or-replicate (rows * 80) i 32 0 l j, get_or-replicate (rows * 80) i 0 0 l j))

  pub reset_rows : ResetRows rows
  reset_rows w r s e l =
      let b = byte_rows w 69 r s l in
      let cell : (c : ℕ) → c < 80 → cell_at (stepped rows 69 w) (r * 80 + c) ≡ (32, 0) = λ c h. reset-cell w e (r * 80 + c) (omega (arith, h, l)) in (
        λ h. elim (b.0 h) [ inl a ↦ inl a | inr d ↦ inr (d.0, d.1, λ q. d.2 (q ∙ sym (cell d.0 d.1))) ],
        λ o. b.1 (elim o [ inl a ↦ inl a | inr d ↦ inr (d.0, d.1, λ q. d.2 (q ∙ cell d.0 d.1)) ]),
      )

  bytes-rows : (bytes : List ℕ) (w : World) (r : ℕ) → Sound rows w → r < rows
      → IsSet rows (stepped_on rows bytes w).state r ↔ IsSet rows w.state r ⊎ BytesChange rows bytes w r
  unfolding stepped_on
  bytes-rows [] w r s l = none (λ x. x)
  bytes-rows (b ∷ bytes) w r s l = both (byte_rows w b r s l) (bytes-rows bytes (stepped rows b w) r (stepped-sound s b) l)

  module _ (few : rows ≤ 96) where
    -- ---- calls
    -- where nothing changes, no row does
    pub unchanged : (w v : World) (r : ℕ) → v ≡ w → IsSet rows v.state r ↔ IsSet rows w.state r ⊎ RowDiffers w v r
    unchanged w v r e = subst (λ (u : World). IsSet rows u.state r ↔ IsSet rows w.state r ⊎ RowDiffers w u r) (sym e) (none (λ d. d.2 refl))

    pub host-rows : (w : World) (bytes reply : List ℕ) (r : ℕ) → r < rows
        → IsSet rows (fed rows w bytes reply).world.state r ↔ IsSet rows w.state r ⊎ BytesChange rows (take (fed rows w bytes reply).taken bytes) w r
    host-rows w bytes reply r l =
        fed_by (λ (h : Hosted). IsSet rows h.world.state r ↔ IsSet rows w.state r ⊎ BytesChange rows (take h.taken bytes) w r) rows w bytes reply
        (λ s g.
        subst (λ (v : World). IsSet rows v.state r ↔ IsSet rows w.state r ⊎ BytesChange rows (take (fed_on rows bytes 0 0 w reply).taken bytes) w r)
        (sym (fed_on-is rows bytes w reply).world_is)
        (bytes-rows (take (fed_on rows bytes 0 0 w reply).taken bytes) w r (sound-in few s g) l))
        (λ n o. none (λ x. x))

    pub key-rows : (w : World) (reply : List ℕ) (code r : ℕ) → r < rows
        → IsSet rows (keyed rows w reply code).world.state r ↔ IsSet rows w.state r ⊎ RowDiffers w (keyed rows w reply code).world r
    key-rows w reply code r l = elim (eq-or (keyed rows w reply code).number 0) [
      | inl z ↦ (
          let s = (key-ready rows w code (length reply) few (sym (key-number rows w reply code) ∙ z)).sound in
          row-notes rows w (keyed rows w reply code).world s (key-sound s reply code) (key-notes rows w reply code) r l)
      | inr z ↦ unchanged w (keyed rows w reply code).world r (key-refused rows w reply code z).same-world
    ]

    pub post-rows : (w : World) (field : ℕ) (text : List ℕ) (r : ℕ) → r < rows
        → IsSet rows (posted_to rows w field text).world.state r ↔ IsSet rows w.state r ⊎ RowDiffers w (posted_to rows w field text).world r
    post-rows w field text r l = elim (eq-or (posted_to rows w field text).number 0) [
      | inl z ↦ (
          let s = (post-ready rows w field text few z).sound in
          row-notes rows w (posted_to rows w field text).world s (post-sound s text field) (post-notes rows w field text) r l)
      | inr z ↦ unchanged w (posted_to rows w field text).world r (post-refused rows w field text z)
    ]

    pub call_rows : CallRows rows
    call_rows [] w r q l = none (λ x. x)
    call_rows (host bytes reply ∷ calls) w r q l = both (host-rows w bytes reply r l) (call_rows calls (fed rows w bytes reply).world r q l)
    call_rows (key code reply ∷ calls) w r q l = both (key-rows w reply code r l) (call_rows calls (keyed rows w reply code).world r q l)
    call_rows (post field text ∷ calls) w r q l = both (post-rows w field text r l) (call_rows calls (posted_to rows w field text).world r q l)
    call_rows (report ∷ calls) w r q l = absurd q

    -- ---- records: each part is a call, or nothing
    module _ (r : ℕ) (l : r < rows) where
      part-grows : (w : World) (bytes : List ℕ) (at : ℕ) (reply : List ℕ) → IsSet rows w.state r → IsSet rows (record_part rows w bytes at reply).world.state r
      unfolding record_part host_part key_part post_part
      part-grows w bytes at reply h =
          let P : Part → Type 0 = λ p. IsSet rows p.world.state r in
          either P (eqb (form_refusal bytes) 0)
          (either P (eqb (kind_of bytes) 72) ((host-rows w (drop at (data_of bytes)) reply r l).1 (inl h))
          (either P (eqb (kind_of bytes) 75) ((key-rows w reply (number_of bytes) r l).1 (inl h)) ((post-rows w (number_of bytes) (data_of bytes) r l).1 (inl h))))
          h

      from-grows : (calls : ℕ) (w : World) (bytes : List ℕ) (at sum : ℕ) → IsSet rows w.state r → IsSet rows (ran_from rows calls w bytes at sum).world.state r
      unfolding ran_from
      from-grows zero w bytes at sum h = h
      from-grows (suc calls) w bytes at sum h =
          let p = record_part rows w bytes at (emptied rows) in
          let g = part-grows w bytes at (emptied rows) h in
          either (λ (x : Ran). IsSet rows x.world.state r) (eqb p.number 7) (from-grows calls p.world bytes p.at (sum + p.written) g) g

      went-grows : (records : List (List ℕ)) (number : ℕ) (w : World) → IsSet rows w.state r → IsSet rows (went rows number w records).world.state r
      unfolding went record_ran
      went-grows [] number w h = h
      went-grows (bytes ∷ records) number w h = went-grows records (next number) (record_ran rows w bytes).world (from-grows 81 w bytes 0 0 h)

    pub session_rows : SessionRows rows
    session_rows number w records r l h = went-grows r l records number w h

  -- ---- a fresh terminal
  pub fresh_rows : FreshRows rows
  unfolding freshened fresh_world
  fresh_rows chars attrs r l =
      let all : get_or (rows_of rows (set_of (replicate rows true))) r false ≡ true =
      ap (λ (m : List Bool). get_or m r false) (rows-set (replicate rows true) (length-replicate rows true)) ∙ get_or-replicate rows r true false l in
      either (λ (w : World). IsSet rows w.state r) (eqb (fresh_refusal rows chars attrs) 0) all all

-- ---- the first row that is set, or the length
first-upto : (m : List Bool) → first_true m ≤ length m
unfolding first_true
first-upto [] = omega arith
first-upto (true ∷ m) = omega arith
first-upto (false ∷ m) = omega (arith, first-upto m)

first-is : (m : List Bool) → first_true m < length m → get_or m (first_true m) false ≡ true
unfolding first_true
first-is [] h = absurd (omega arith)
first-is (true ∷ m) h = refl
first-is (false ∷ m) h = first-is m (omega arith)

before-first : (m : List Bool) (r : ℕ) → r < first_true m → get_or m r false ≡ false
unfolding first_true
before-first [] r h = absurd (omega arith)
before-first (true ∷ m) r h = absurd (omega arith)
before-first (false ∷ m) zero h = refl
before-first (false ∷ m) (suc r) h = before-first m r (omega arith)

-- ---- a report
pub report_rows : (rows : ℕ) → ReportRows rows
unfolding reported report_refusal first_refusal
report_rows rows t g =
    let m = rows_of rows t.changes in
    let n = length-rows rows t.changes in
    let none = replicate rows false in
    rw (in-good g)
    (record {
      counts = refl;
      first_in = omega (arith, first-upto m, n);
      first_set = λ h. first-is m (omega (arith, h, n));
      none_before = λ r h s. not-both s (before-first m r (omega (arith, h)));
      cleared = λ r l s.
          not-both s (ap (λ (k : List Bool). get_or k r false) (rows-set none (length-replicate rows false)) ∙ get_or-replicate rows r false false l);
      else_stays = refl;
    })
