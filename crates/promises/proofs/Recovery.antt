-- Reading recovers at an ESC, and calls that bring no host byte do not look at the reading state. Assumes nothing.
use Prim.Native.Nat.{ℕ, ◌%◌, ◌≤◌}
use mathlib.Core.Path.{◌≡◌, refl, sym, ap, ap₂, ◌∙◌, subst}
use mathlib.Core.Bool.{Bool, true, false, cond, ◌&&◌}
use mathlib.Core.List.{List, [], ◌∷◌, ◌++◌}
use native.Mathlib.Omega.{arith}
use lib.ListN.{length, set}
use lib.Dec.{eqb}
use borrow.Author.Tests.{le-leb, eqb-true, eqb-false}
use Rattle.std.specs.Prelude.{Option, Some, None}
use Rattle.cells.specs.Range.{within}
use Rattle.cells.proofs.Choices.{choose-as}
use Rattle.fields.specs.Fields.{marks, nth_field}
use Rattle.reading.specs.declared.Number.{Number}
use Rattle.reading.specs.Action as Action
use Rattle.reading.specs.Reading.{action_of, settled}
use Rattle.reading.proofs.Rules.{either, byte-modulo, esc-first, esc-settled, esc-clears}
use Rattle.terminal.specs.declared.Terminal.{Terminal}
use Rattle.terminal.specs.State.{World, stated, reread, barred, Sound}
use Rattle.terminal.specs.Acts.{switched, tabbed_by, back_tabbed_by, steered, stamps, acted}
use Rattle.terminal.specs.Noted.{differing_rows, noted}
use Rattle.terminal.specs.Refusals.{first_refusal}
use Rattle.terminal.proofs.Good.{in-sound}
use Rattle.key.specs.Keys.{key_action, enter, key_refusal, Keyed, key_done, keyed}
use Rattle.key.proofs.Kept.{key-sound}
use Rattle.post.specs.Posts.{Posted, post_refusal, posted_at, posted_to}
use Rattle.post.proofs.Kept.{post-sound}
use Rattle.report.specs.declared.ReportAnswer.{ReportAnswer}
use Rattle.report.specs.Reports.{report_refusal, reported}
use Rattle.report.proofs.Kept.{report-sound}
use Rattle.streams.specs.Streams.{action_for, read_on, stepped_by, stepped, reply_to, answer_to, Hosted, hosted, delivered, fed_on, fed}
use Rattle.streams.proofs.Kept.{sound-by, fed-sound}
use Rattle.streams.proofs.Streams.{fed_on-none}
use Rattle.streams.proofs.Rooms.{fed-room}
use Rattle.streams.proofs.Steps.{fed-on}
use Rattle.records.specs.Records.{kind_of, number_of, data_of, form_refusal, Ran, ran, emptied, record_ran}
use Rattle.records.proofs.Answered.{record-sound}
use Rattle.sessions.specs.Session.{next, went}
use Rattle.mixing.specs.Event.{run}
use Rattle.promises.specs.Numbers.{sent}
use Rattle.promises.specs.Calls.{Call, host, key, post, report, called, Told, by_host, by_key, by_post, by_report, told}
use Rattle.promises.specs.Noise.{Misread, IsEsc, EscRecovers, all_told, bytes_of_call, CallsUnread, CallsRecover, bytes_of_record, SessionsRecover}
use Rattle.promises.proofs.Records.{host-done, ran-other, ran-key, ran-post}

-- ---- w with another reading state and another number
abbrev pub misread : World → ℕ → Number → World
misread w reading number = stated w (reread w.state reading number)

-- what holds of each such one that is sound, holds of the other of two that differ in no more
pub by-misread : (P : World → Type 0) {rows : ℕ} {w v : World} → Misread rows w v → ((reading : ℕ) (number : Number) → Sound rows (misread w reading number) → P (misread w reading number)) → P v
by-misread P {rows} {w} {v} m h = subst P (sym m.else_same) (h v.state.reading v.state.number (sound-by (sym m.else_same) m.other_sound))

-- two that differ in no more
pub are-misread : {rows : ℕ} {w v : World} → Sound rows w → Sound rows v → (reading : ℕ) (number : Number) → v ≡ misread w reading number → Misread rows w v
are-misread {rows} {w} s t reading number e =
    record { sound = s; other_sound = t; else_same = e ∙ sym (ap (λ (u : World). misread w u.state.reading u.state.number) e) }

-- ---- calls in turn
pub run-append : {E X : Type 0} (step : E → X → X) (es fs : List E) (x : X) → run step (es ++ fs) x ≡ run step fs (run step es x)
run-append step [] fs x = refl
run-append step (e ∷ es) fs x = run-append step es fs (step e x)

told-append : (rows : ℕ) (cs ds : List Call) (w : World) → all_told rows (cs ++ ds) w ≡ all_told rows cs w ++ all_told rows ds (run (called rows) cs w)
told-append rows [] ds w = refl
told-append rows (c ∷ cs) ds w = ap (λ (l : List Told). told rows c w ∷ l) (told-append rows cs ds (called rows c w))

pub called-sound : {rows : ℕ} (c : Call) {w : World} → Sound rows w → Sound rows (called rows c w)
called-sound (host bytes reply) s = fed-sound s bytes reply
called-sound (key code reply) s = key-sound s reply code
called-sound (post field text) s = post-sound s text field
called-sound report s = report-sound s

-- ---- an ESC
module _ (esc : ℕ) (e : IsEsc esc) where
  esc-asks : (t : Terminal) → action_for t esc ≡ Action.esc
  unfolding action_for
  esc-asks t =
      ap (λ (a : ℕ). settled a t.number) (sym (byte-modulo t.reading esc) ∙ ap (action_of t.reading) e ∙ esc-first t.reading) ∙ esc-settled t.number

  esc-sends : (w : World) → answer_to esc w ≡ []
  unfolding answer_to reply_to
  esc-sends w = ap (λ (a : ℕ). reply_to a w) (esc-asks w.state)

  module _ (rows : ℕ) (w : World) (reading : ℕ) (number : Number) where
    esc-steps : stepped_by rows Action.esc esc (misread w reading number) ≡ stepped_by rows Action.esc esc w
    unfolding stepped_by acted steered switched stamps read_on differing_rows
    esc-steps = rw (esc-clears (esc % 128) number, esc-clears (esc % 128) w.state.number)

    esc-stepped : stepped rows esc (misread w reading number) ≡ stepped rows esc w
    unfolding stepped
    esc-stepped =
        ap (λ (a : ℕ). stepped_by rows a esc (misread w reading number)) (esc-asks (misread w reading number).state)
        ∙ esc-steps
        ∙ sym (ap (λ (a : ℕ). stepped_by rows a esc w) (esc-asks w.state))

  pub esc-fed : {rows : ℕ} {w v : World} → Misread rows w v → (bytes reply : List ℕ) → fed rows v (esc ∷ bytes) reply ≡ fed rows w (esc ∷ bytes) reply
  unfolding fed_on
  esc-fed {rows} {w} m bytes reply =
      by-misread (λ (v : World). fed rows v (esc ∷ bytes) reply ≡ fed rows w (esc ∷ bytes) reply) m
      (λ reading number t.
      rw (fed-on t (esc ∷ bytes) reply, fed-on m.sound (esc ∷ bytes) reply, esc-sends (misread w reading number), esc-sends w, esc-stepped rows w reading number, le-leb 0 (length reply) (omega arith)))

pub esc_recovers : (rows : ℕ) → EscRecovers rows
esc_recovers rows w v m esc bytes e = (esc-fed esc e m bytes, λ reply other l. fed-room rows v (esc ∷ bytes) other reply l ∙ ap delivered (esc-fed esc e m bytes reply))

-- ---- calls without a host byte: an empty stream, a key, a post, a report
none-fed : {rows : ℕ} {w : World} → Sound rows w → (reply : List ℕ) → fed rows w [] reply ≡ hosted 0 0 0 w reply
none-fed {rows} {w} s reply = fed-on s [] reply ∙ fed_on-none rows 0 0 w reply

module _ (rows : ℕ) (w : World) (reading : ℕ) (number : Number) (s : Sound rows w) (t : Sound rows (misread w reading number)) where
  abbrev other : World
  other = misread w reading number

  -- a key
  key-acted : (code v : ℕ) → acted rows (key_action code w.state.insert) v other ≡ misread (acted rows (key_action code w.state.insert) v w) reading number
  unfolding key_action acted steered switched stamps tabbed_by back_tabbed_by
  key-acted code v =
      let P : ℕ → Type 0 = λ a. acted rows a v other ≡ misread (acted rows a v w) reading number in
      either P (within 32 126 code) refl
      (either P (eqb code 256) refl
      (either P (eqb code 257) refl
      (either P (eqb code 258) refl
      (either P (eqb code 259) refl
      (either P (eqb code 260) refl
      (either P (eqb code 261) refl
      (either P (eqb code 262) refl
      (either P (eqb code 263) refl
      (either P (eqb code 264) refl
      (either P (eqb code 265) refl
      (either P (eqb code 266) (either P w.state.insert refl refl)
      (either P (eqb code 267) refl
      (either P (eqb code 268) refl
      (either P (eqb code 269) refl
      (either P (eqb code 270) refl
      (either P (eqb code 271) refl
      (either P (eqb code 272) refl
      (either P (eqb code 273) refl refl))))))))))))))))))

  abbrev rekeyed : Keyed → Keyed
  rekeyed k = record { number = k.number; written = k.written; world = misread k.world reading number; reply = k.reply }

  key-refusal : (code room : ℕ) → key_refusal rows other code room ≡ key_refusal rows w code room
  unfolding key_refusal first_refusal barred
  key-refusal code room = rw ((in-sound s).1, (in-sound t).1)

  key-done : (reply : List ℕ) (code : ℕ) → key_done rows other reply code ≡ rekeyed (key_done rows w reply code)
  unfolding key_done differing_rows
  key-done reply code =
      let a = ap (noted rows other) (key-acted code (code % 256)) in
      choose-as rekeyed (eqb code enter) (ap (λ (v : World). record { number = 0; written = 1; world = v; reply = set reply 0 18 }) a) (ap (λ (v : World). record { number = 0; written = 0; world = v; reply = reply }) a)

  key-unread : (reply : List ℕ) (code : ℕ) → keyed rows other reply code ≡ rekeyed (keyed rows w reply code)
  unfolding keyed
  key-unread reply code =
      rw (key-refusal code (length reply)) (choose-as rekeyed (eqb (key_refusal rows w code (length reply)) 0) (key-done reply code) refl)

  -- a post
  abbrev pub reposted : Posted → Posted
  reposted p = record { number = p.number; world = misread p.world reading number }

  post-refusal : (field : ℕ) (text : List ℕ) → post_refusal rows other field text ≡ post_refusal rows w field text
  unfolding post_refusal first_refusal barred
  post-refusal field text = rw ((in-sound s).1, (in-sound t).1)

  post-at : (text : List ℕ) (f : Option ℕ) → posted_at other text f ≡ misread (posted_at w text f) reading number
  unfolding posted_at
  post-at text (Some k) = refl
  post-at text None = refl

  pub post-unread : (field : ℕ) (text : List ℕ) → posted_to rows other field text ≡ reposted (posted_to rows w field text)
  unfolding posted_to differing_rows
  post-unread field text =
      rw (post-refusal field text)
      (ap (λ (v : World). record { number = post_refusal rows w field text; world = v })
      (choose-as (λ (v : World). misread v reading number) (eqb (post_refusal rows w field text) 0) {y = w} (ap (noted rows other) (post-at text (nth_field (marks w.attrs) field))) refl))

  -- a report
  abbrev rereported : ReportAnswer → ReportAnswer
  rereported r = record { number = r.number; count = r.count; first = r.first; state = reread r.state reading number }

  report-unread : reported rows other.state ≡ rereported (reported rows w.state)
  unfolding reported report_refusal first_refusal
  report-unread = rw ((in-sound s).1, (in-sound t).1)

-- one call: what it leaves, and what it answers
pub one-unread : (rows : ℕ) (c : Call) (w : World) (reading : ℕ) (number : Number) → Sound rows w → Sound rows (misread w reading number) → bytes_of_call c ≡ []
    → (called rows c (misread w reading number) ≡ misread (called rows c w) reading number) × (told rows c (misread w reading number) ≡ told rows c w)
one-unread rows (host [] reply) w reading number s t q =
    let answer : Hosted → Told = λ h. by_host h.number h.taken h.written h.reply in (
      ap (λ (h : Hosted). h.world) (none-fed t reply) ∙ sym (ap (λ (h : Hosted). misread h.world reading number) (none-fed s reply)),
      ap answer (none-fed t reply) ∙ sym (ap answer (none-fed s reply)),
    )
one-unread rows (host (b ∷ bytes) reply) w reading number s t q = absurd (omega (arith, ap (λ (l : List ℕ). length l) q))
one-unread rows (key code reply) w reading number s t q =
    let u = key-unread rows w reading number s t reply code in
    (ap (λ (k : Keyed). k.world) u, ap (λ (k : Keyed). by_key k.number k.written k.reply) u)
one-unread rows (post field text) w reading number s t q =
    let u = post-unread rows w reading number s t field text in
    (ap (λ (p : Posted). p.world) u, ap (λ (p : Posted). by_post p.number) u)
one-unread rows report w reading number s t q =
    let u = report-unread rows w reading number s t in
    (ap (λ (r : ReportAnswer). stated w r.state) u, ap (λ (r : ReportAnswer). by_report r.number r.count r.first) u)

call-unread : {rows : ℕ} (c : Call) {w v : World} → Misread rows w v → bytes_of_call c ≡ [] → Misread rows (called rows c w) (called rows c v) × (told rows c v ≡ told rows c w)
call-unread {rows} c {w} m q =
    by-misread (λ (v : World). Misread rows (called rows c w) (called rows c v) × (told rows c v ≡ told rows c w)) m
    (λ reading number t.
    let u = one-unread rows c w reading number m.sound t q in
    (are-misread (called-sound c m.sound) (called-sound c t) reading number u.0, u.1))

pub calls_unread : (rows : ℕ) → CallsUnread rows
calls_unread rows [] w v m q = (m, refl)
calls_unread rows (c ∷ calls) w v m q =
    let u = call-unread c m q.0 in
    let i = calls_unread rows calls (called rows c w) (called rows c v) u.0 q.1 in
    (i.0, ap₂ (λ (a : Told) (l : List Told). a ∷ l) u.1 i.1)

pub calls_recover : (rows : ℕ) → CallsRecover rows
calls_recover rows before later esc bytes reply w v m q e =
    let rest = host (esc ∷ bytes) reply ∷ later in
    let i = calls_unread rows before w v m q in
    let f = esc-fed esc e i.0 bytes reply in (
      run-append (called rows) before rest v ∙ ap (λ (h : Hosted). run (called rows) later h.world) f ∙ sym (run-append (called rows) before rest w),
      told-append rows before rest v
          ∙ ap₂ (λ (a b : List Told). a ++ b) i.1 (ap (λ (h : Hosted). by_host h.number h.taken h.written h.reply ∷ all_told rows later h.world) f)
          ∙ sym (told-append rows before rest w),
    )

-- ---- session records
module _ (rows : ℕ) (some : 24 ≤ rows) (w : World) (reading : ℕ) (number : Number) (s : Sound rows w) (t : Sound rows (misread w reading number)) (r : List ℕ) where
  abbrev reran : Ran → Ran
  reran x = ran x.answer x.replied (misread x.world reading number)

  -- what an H record does, by its bytes
  abbrev done : World → List ℕ → Ran
  done v bytes = ran 0 (sent rows bytes v) (run (stepped rows) bytes v)

  -- a record that brings no host byte
  ran-unread : bytes_of_record r ≡ [] → record_ran rows (misread w reading number) r ≡ reran (record_ran rows w r)
  ran-unread = by (eqb (form_refusal r) 0) (eqb (kind_of r) 72) (eqb (kind_of r) 75) refl refl refl
    where
      by : (a b c : Bool) → eqb (form_refusal r) 0 ≡ a → eqb (kind_of r) 72 ≡ b → eqb (kind_of r) 75 ≡ c → cond (a && b) (data_of r) [] ≡ []
          → record_ran rows (misread w reading number) r ≡ reran (record_ran rows w r)
      by false b c p q k n = let f = eqb-false _ _ p in sym (ran-other rows (misread w reading number) r f) ∙ ap reran (ran-other rows w r f)
      by true true c p q k n =
          let f = eqb-true _ _ p in
          let h = eqb-true _ _ q in
          host-done rows r f h (misread w reading number) t ∙ ap (done (misread w reading number)) n ∙ sym (ap reran (host-done rows r f h w s ∙ ap (done w) n))
      by true false true p q k n =
          let f = eqb-true _ _ p in
          let h = eqb-false _ _ q in
          sym (ran-key rows (misread w reading number) r f h some (eqb-true _ _ k))
          ∙ ap (λ (x : Keyed). ran x.number x.written x.world) (key-unread rows w reading number s t (emptied rows) (number_of r))
          ∙ ap reran (ran-key rows w r f h some (eqb-true _ _ k))
      by true false false p q k n =
          let f = eqb-true _ _ p in
          let h = eqb-false _ _ q in
          sym (ran-post rows (misread w reading number) r f h (eqb-false _ _ k))
          ∙ ap (λ (x : Posted). ran x.number 0 x.world) (post-unread rows w reading number s t (number_of r) (data_of r))
          ∙ ap reran (ran-post rows w r f h (eqb-false _ _ k))

  -- a record of which the first host byte is an ESC
  ran-recovers : (esc : ℕ) (bytes : List ℕ) → IsEsc esc → bytes_of_record r ≡ esc ∷ bytes → record_ran rows (misread w reading number) r ≡ record_ran rows w r
  ran-recovers esc bytes e = by (eqb (form_refusal r) 0) (eqb (kind_of r) 72) refl refl
    where
      same : done (misread w reading number) (esc ∷ bytes) ≡ done w (esc ∷ bytes)
      same = rw (esc-sends esc e (misread w reading number), esc-sends esc e w, esc-stepped esc e rows w reading number)

      by : (a b : Bool) → eqb (form_refusal r) 0 ≡ a → eqb (kind_of r) 72 ≡ b → cond (a && b) (data_of r) [] ≡ esc ∷ bytes
          → record_ran rows (misread w reading number) r ≡ record_ran rows w r
      by true true p q n =
          let f = eqb-true _ _ p in
          let h = eqb-true _ _ q in
          host-done rows r f h (misread w reading number) t ∙ ap (done (misread w reading number)) n ∙ same ∙ sym (host-done rows r f h w s ∙ ap (done w) n)
      by true false p q n = absurd (omega (arith, ap (λ (l : List ℕ). length l) n))
      by false b p q n = absurd (omega (arith, ap (λ (l : List ℕ). length l) n))

-- in records that have no host byte, and then one of which the first host byte is an ESC
pub sessions_recover : (rows : ℕ) → 24 ≤ rows → SessionsRecover rows
unfolding went
sessions_recover rows some [] later r esc bytes number w v m q n e =
    let same = by-misread (λ (u : World). record_ran rows u r ≡ record_ran rows w r) m (λ reading k t. ran-recovers rows some w reading k m.sound t r esc bytes e n) in
    ap (λ (x : Ran).
    let u = went rows (next number) x.world later in
    record { lines = record { number = number; answer = x.answer; replied = x.replied } ∷ u.lines; number = u.number; world = u.world }) same
sessions_recover rows some (b ∷ before) later r esc bytes number w v m q n e =
    let x = record_ran rows w b in
    let u = by-misread (λ (u : World). let y = record_ran rows u b in Misread rows x.world y.world × (y.answer ≡ x.answer) × (y.replied ≡ x.replied)) m
    (λ reading k t.
    let a = ran-unread rows some w reading k m.sound t b q.0 in (
      are-misread (record-sound m.sound b) (record-sound t b) reading k (ap (λ (y : Ran). y.world) a),
      ap (λ (y : Ran). y.answer) a,
      ap (λ (y : Ran). y.replied) a,
    )) in
    let i = sessions_recover rows some before later r esc bytes (next number) x.world (record_ran rows v b).world u.0 q.1 n e in
    cc (u.1, u.2, i)
