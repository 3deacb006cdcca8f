-- A record's numbers are given exactly as its table says; an H record does its bytes in turn and sends what they send; a refused record leaves all. Assumes nothing.
use Prim.Native.Nat.{ℕ, zero, suc, ◌+◌, ◌-◌, ◌*◌, ◌≤◌, ◌<◌}
use mathlib.Core.Path.{◌≡◌, refl, sym, ap, ◌∙◌, subst}
use mathlib.Core.Logic.{◌⊎◌, inl, inr, ⊎_elim}
use mathlib.Core.Bool.{Bool, true, false, cond}
use mathlib.Core.List.{List, [], ◌∷◌}
use native.Mathlib.Omega.{arith}
use lib.ListN.{length, drop, length-drop, length-replicate}
use lib.Seq.{drop-drop, drop-length}
use lib.Dec.{eqb, leb}
use borrow.Author.Tests.{eqb-true, eqb-false, leb-true}
use Rattle.cells.specs.Memory.{written}
use Rattle.cells.proofs.Search.{not-both}
use Rattle.cells.proofs.Choices.{choose-by}
use Rattle.terminal.specs.State.{World, is_good, is_sized, Sound}
use Rattle.terminal.proofs.Good.{in-good, in-sized, sound-in}
use Rattle.key.specs.Keys.{keyed}
use Rattle.key.proofs.Kept.{key-refused}
use Rattle.post.specs.Posts.{posted_to}
use Rattle.post.proofs.Kept.{post-refused}
use Rattle.streams.specs.Streams.{answer_to, stepped, Hosted, fed_on, fed}
use Rattle.streams.proofs.Streams.{fed_on-counts, step_fits}
use Rattle.streams.proofs.Kept.{fed-sound, fed-refused}
use Rattle.streams.proofs.Steps.{fed-on}
use Rattle.streams.proofs.Longest.{fed-takes, fed-number}
use Rattle.records.specs.Records.{kind_of, length_of, number_of, data_of, form_refusal, Part, part, host_part, key_part, post_part, record_part, Ran, ran, emptied, ran_from, record_ran}
use Rattle.records.proofs.Forms.{formed, form-not-7, data-part, data-short}
use Rattle.records.proofs.Running.{other-form, host-record, key-record, post-record, fed-within}
use Rattle.records.proofs.Whole.{emptied-long, turn, last}
use Rattle.records.proofs.Answered.{whole-once}
use Rattle.mixing.specs.Event.{run}
use Rattle.promises.specs.Numbers.{Entry, ◌for◌, WrongSize, NotGood, sent, key_table, post_table, host_table}
use Rattle.promises.specs.Sessions.{part_table, PartNumbers, record_table, RecordNumbers, HostRecords, RecordRefusals}
use Rattle.promises.proofs.Tables.{Chosen, none, here, later, applies, passes, numbers, differ, given}
use Rattle.promises.proofs.Numbers.{key-chosen, post-chosen, host-chosen, key_numbers, post_numbers}
use Rattle.promises.proofs.Forms.{formed-well, form-chosen}

-- ---- one call
by_kind : {k : ℕ} {ls ms ns : List Entry} (a b : Bool) → (a ≡ true → Chosen ls k) → (a ≡ false → b ≡ true → Chosen ms k) → (a ≡ false → b ≡ false → Chosen ns k)
    → Chosen (cond a ls (cond b ms ns)) k
by_kind true b p q r = p refl
by_kind false true p q r = q refl refl
by_kind false false p q r = r refl refl

module _ (rows : ℕ) (w : World) (r : List ℕ) (at : ℕ) (reply : List ℕ) where
  host-part : Chosen (host_table rows w (drop at (data_of r)) reply) (host_part rows w (data_of r) at reply).number
  unfolding host_part
  host-part = host-chosen rows w (drop at (data_of r)) reply

  key-part : Chosen (key_table rows w reply (number_of r)) (key_part rows w (number_of r) at reply).number
  unfolding key_part
  key-part = key-chosen rows w reply (number_of r)

  post-part : Chosen (post_table rows w (number_of r) (data_of r)) (post_part rows w (number_of r) (data_of r) at reply).number
  unfolding post_part
  post-part = post-chosen rows w (number_of r) (data_of r)

  part-chosen : Chosen (part_table rows w r at reply) (record_part rows w r at reply).number
  part-chosen =
      let n : Part → ℕ = λ p. p.number in
      form-chosen r (λ z. sym (ap n (other-form rows w r at reply refl z)))
      (λ f. by_kind (eqb (kind_of r) 72) (eqb (kind_of r) 75)
      (λ h. subst (Chosen (host_table rows w (drop at (data_of r)) reply)) (ap n (host-record rows w r at reply f (eqb-true _ _ h))) host-part)
      (λ h k. subst (Chosen (key_table rows w reply (number_of r))) (ap n (key-record rows w r at reply f (eqb-false _ _ h) (eqb-true _ _ k))) key-part)
      (λ h k. subst (Chosen (post_table rows w (number_of r) (data_of r))) (ap n (post-record rows w r at reply f (eqb-false _ _ h) (eqb-false _ _ k))) post-part))

  part-differ : (a b : Bool)
      → differ (0 ∷ 12 ∷ 11 ∷ numbers (cond a (host_table rows w (drop at (data_of r)) reply) (cond b (key_table rows w reply (number_of r)) (post_table rows w (number_of r) (data_of r))))) ≡ true
  part-differ true b = refl
  part-differ false true = refl
  part-differ false false = refl

pub part_numbers : (rows : ℕ) → PartNumbers rows
part_numbers rows w r at reply = given (part-chosen rows w r at reply) (part-differ rows w r at reply (eqb (kind_of r) 72) (eqb (kind_of r) 75))

-- ---- a stream, and then the bytes that it left, do what all bytes do and send what all bytes send
pub record Onward (rows : ℕ) (bytes : List ℕ) (taken before : ℕ) (w : World) (h : Hosted) : Type 0 where
  pub sent-on : h.written + sent rows (drop (h.taken - taken) bytes) h.world ≡ before + sent rows bytes w
  pub world-on : run (stepped rows) (drop (h.taken - taken) bytes) h.world ≡ run (stepped rows) bytes w

onward : (rows : ℕ) (bytes : List ℕ) (taken before : ℕ) (w : World) (reply : List ℕ) → before ≤ length reply → Onward rows bytes taken before w (fed_on rows bytes taken before w reply)
unfolding fed_on
onward rows [] taken before w reply l =
    let z : taken - taken ≡ 0 = omega arith in
    record { sent-on = rw z; world-on = rw z }
onward rows (b ∷ bs) taken before w reply l =
    let out = answer_to b w in
    choose-by (Onward rows (b ∷ bs) taken before w) (leb (before + length out) (length reply))
    (λ t.
    let m : before + length out ≤ length (written reply before out) = step_fits before b w reply (leb-true _ _ t) in
    let h = fed_on rows bs (taken + 1) (before + length out) (stepped rows b w) (written reply before out) in
    let c = fed_on-counts rows bs (taken + 1) (before + length out) (stepped rows b w) (written reply before out) m in
    let i = onward rows bs (taken + 1) (before + length out) (stepped rows b w) (written reply before out) m in
    let e : h.taken - taken ≡ suc (h.taken - (taken + 1)) = omega (arith, c.taken-from) in
    record { sent-on = rw e (omega (arith, i.sent-on)); world-on = rw e i.world-on })
    (λ t. let z : taken - taken ≡ 0 = omega arith in record { sent-on = rw z; world-on = rw z })

-- the same of a call
module _ {rows : ℕ} {w : World} (s : Sound rows w) (bytes reply : List ℕ) where
  abbrev call : Hosted
  call = fed rows w bytes reply

  fed-onward : (call.written + sent rows (drop call.taken bytes) call.world ≡ sent rows bytes w) × (run (stepped rows) (drop call.taken bytes) call.world ≡ run (stepped rows) bytes w)
  fed-onward =
      rw (fed-on s bytes reply)
      (let o = onward rows bytes 0 0 w reply (omega arith) in
      let z : (fed_on rows bytes 0 0 w reply).taken - 0 ≡ (fed_on rows bytes 0 0 w reply).taken = omega arith in
      let n : 0 + sent rows bytes w ≡ sent rows bytes w = omega arith in
      ((rw z at o.sent-on) ∙ n, rw z at o.world-on))

  fed-done : call.number ≡ 0 → call.taken ≡ length bytes
  fed-done = rw (fed-on s bytes reply) (λ e. omega (arith, (fed_on-counts rows bytes 0 0 w reply (omega arith)).all-taken e))

  -- one that is taken whole
  pub fed-all : call.number ≡ 0 → (call.written ≡ sent rows bytes w) × (call.world ≡ run (stepped rows) bytes w)
  fed-all z =
      let d : drop call.taken bytes ≡ [] = ap (λ (n : ℕ). drop n bytes) (fed-done z) ∙ drop-length bytes in
      let e : call.written + 0 ≡ sent rows bytes w = rw d at fed-onward.0 in
      (omega arith, rw d at fed-onward.1)

-- ---- the calls of an H record
ended : {n m : ℕ} {a b : ℕ} {u v : World} → n ≡ m → a ≡ b → u ≡ v → ran n a u ≡ ran m b v
ended p q e = cc

module _ (rows : ℕ) (r : List ℕ) (f : form_refusal r ≡ 0) (k : kind_of r ≡ 72) where
  abbrev bytes : List ℕ
  bytes = data_of r

  host-call : (w : World) (at : ℕ) → let h = fed rows w (drop at bytes) (emptied rows) in part h.number (at + h.taken) h.written h.world h.reply ≡ record_part rows w r at (emptied rows)
  unfolding host_part
  host-call w at = host-record rows w r at (emptied rows) f k

  abbrev AllDone : ℕ → World → ℕ → ℕ → Type 0
  AllDone calls w at sum = ran_from rows calls w r at sum ≡ ran 0 (sum + sent rows (drop at bytes) w) (run (stepped rows) (drop at bytes) w)

  call-done : (calls : ℕ) (w : World) (at sum : ℕ) → Sound rows w → length bytes - at < suc calls
      → (let h = fed rows w (drop at bytes) (emptied rows) in length bytes - (at + h.taken) < calls → AllDone calls h.world (at + h.taken) (sum + h.written))
      → AllDone (suc calls) w at sum
  call-done calls w at sum s l more = by (fed-number s rest (emptied rows))
    where
      rest : List ℕ
      rest = drop at bytes

      h : Hosted
      h = fed rows w rest (emptied rows)

      o : (h.written + sent rows (drop h.taken rest) h.world ≡ sent rows rest w) × (run (stepped rows) (drop h.taken rest) h.world ≡ run (stepped rows) rest w)
      o = fed-onward s rest (emptied rows)

      by : (h.number ≡ 0) ⊎ (h.number ≡ 7) → AllDone (suc calls) w at sum
      by (inl z) =
          let a = fed-all s rest (emptied rows) z in
          let n : sum + h.written ≡ sum + sent rows rest w = omega (arith, a.0) in
          sym (last rows w r at sum (emptied rows) (emptied-long rows) (host-call w at) calls (λ q. omega arith)) ∙ ended z n a.1
      by (inr z) =
          let t = fed-takes s rest (emptied rows) (emptied-long rows) z in
          let i = more (omega (arith, length-drop at bytes, (fed-within rows w rest (emptied rows)).taken_in)) in
          let d : drop (at + h.taken) bytes ≡ drop h.taken rest = sym (drop-drop h.taken at bytes) in
          let j : ran_from rows calls h.world r (at + h.taken) (sum + h.written) ≡ ran 0 (sum + h.written + sent rows (drop h.taken rest) h.world) (run (stepped rows) (drop h.taken rest) h.world) = rw d at i in
          let n : sum + h.written + sent rows (drop h.taken rest) h.world ≡ sum + sent rows rest w = omega (arith, o.0) in
          sym (turn rows w r at sum (emptied rows) (emptied-long rows) (host-call w at) calls z) ∙ j ∙ ended refl n o.1

  from-done : (calls : ℕ) (w : World) (at sum : ℕ) → Sound rows w → length bytes - at < calls → AllDone calls w at sum
  from-done zero w at sum s l = absurd (omega arith)
  from-done (suc calls) w at sum s l =
      let h = fed rows w (drop at bytes) (emptied rows) in
      call-done calls w at sum s l (from-done calls h.world (at + h.taken) (sum + h.written) (fed-sound s (drop at bytes) (emptied rows)))

  pub host-done : (w : World) → Sound rows w → record_ran rows w r ≡ ran 0 (sent rows bytes w) (run (stepped rows) bytes w)
  unfolding record_ran
  host-done w s =
      let l : length bytes ≤ 80 = rw (data-part r (4 + length_of r) refl) at (data-short r (4 + length_of r) refl (formed r f).size_in) in
      let n : 0 + sent rows bytes w ≡ sent rows bytes w = omega arith in
      from-done 81 w 0 0 s (omega arith) ∙ ended refl n refl

-- ---- the other records: one call is enough
module _ (rows : ℕ) (w : World) (r : List ℕ) where
  pub ran-other : ¬ (form_refusal r ≡ 0) → ran (form_refusal r) 0 w ≡ record_ran rows w r
  ran-other n = whole-once rows w r (other-form rows w r 0 (emptied rows) refl n) (form-not-7 r)

  module _ (f : form_refusal r ≡ 0) where
    -- an H record that is refused
    ran-refused : kind_of r ≡ 72 → (n : ℕ) → (n ≡ 1) ⊎ (n ≡ 2) → (fed rows w (data_of r) (emptied rows)).number ≡ n → ran n 0 w ≡ record_ran rows w r
    ran-refused k n o e =
        let h = fed rows w (data_of r) (emptied rows) in
        let u = fed-refused rows w (data_of r) (emptied rows) (⊎_elim (λ p. inl (e ∙ p)) (λ p. inr (e ∙ p)) o) in
        sym (ended e u.none_written u.same-world) ∙ whole-once rows w r (host-call rows r f k w 0) (λ q. ⊎_elim (λ p. omega arith) (λ p. omega arith) o)

    module _ (h : ¬ (kind_of r ≡ 72)) where
      pub ran-key : 24 ≤ rows → kind_of r ≡ 75 → let k = keyed rows w (emptied rows) (number_of r) in ran k.number k.written k.world ≡ record_ran rows w r
      unfolding key_part
      ran-key l k =
          whole-once rows w r (key-record rows w r 0 (emptied rows) f h k)
          (λ q. let g = (key_numbers rows w (emptied rows) (number_of r) 7).0 q in omega (arith, g.1.1.1.1.1.1.1, length-replicate {A = ℕ} (rows * 160) 0))

      pub ran-post : ¬ (kind_of r ≡ 75) → let p = posted_to rows w (number_of r) (data_of r) in ran p.number 0 p.world ≡ record_ran rows w r
      unfolding post_part
      ran-post k =
          whole-once rows w r (post-record rows w r 0 (emptied rows) f h k)
          (λ q. let g = (post_numbers rows w (number_of r) (data_of r) 7).0 q in omega (arith, g.1.1.1.1.1.1.1))

-- ---- what a host stream's first tests leave: 1, 2, or a sound world
sound-of : (rows : ℕ) (w : World) → rows ≤ 96 → ¬ WrongSize rows w.chars w.attrs → ¬ NotGood rows w.state → Sound rows w
sound-of rows w few size good = sound-in few sized fine
  where
    same : (n m : ℕ) → ¬ ¬ (n ≡ m) → n ≡ m
    same n m h = by (eqb n m) refl
      where
        by : (t : Bool) → eqb n m ≡ t → n ≡ m
        by true e = eqb-true n m e
        by false e = absurd (h (eqb-false n m e))

    sized : is_sized rows w.chars w.attrs ≡ true
    sized = in-sized rows w.chars w.attrs (same _ _ (λ n. size (inl n))) (same _ _ (λ n. size (inr n)))

    fine : is_good rows w.state ≡ true
    fine = or (is_good rows w.state) refl
      where
        or : (t : Bool) → is_good rows w.state ≡ t → t ≡ true
        or true e = refl
        or false e = absurd (good (λ g. not-both (in-good g) e))

data Began (rows : ℕ) (w : World) (bytes reply : List ℕ) : Type 0 where
  wrong : WrongSize rows w.chars w.attrs → (fed rows w bytes reply).number ≡ 1 → Began rows w bytes reply
  bad : ¬ WrongSize rows w.chars w.attrs → NotGood rows w.state → (fed rows w bytes reply).number ≡ 2 → Began rows w bytes reply
  ready : ¬ WrongSize rows w.chars w.attrs → ¬ NotGood rows w.state → Sound rows w → Began rows w bytes reply

began : (rows : ℕ) → rows ≤ 96 → (w : World) (bytes reply : List ℕ) → Began rows w bytes reply
began rows few w bytes reply = by (host-chosen rows w bytes reply)
  where
    by : Chosen (host_table rows w bytes reply) (fed rows w bytes reply).number → Began rows w bytes reply
    by (here c e) = wrong c e
    by (later n (here c e)) = bad n c e
    by (later n (later m rest)) = ready n m (sound-of rows w few n m)

-- ---- the numbers of a whole record
module _ (rows : ℕ) (some : 24 ≤ rows) (few : rows ≤ 96) (w : World) (r : List ℕ) where
  host-given : form_refusal r ≡ 0 → kind_of r ≡ 72 → Chosen ((1 for WrongSize rows w.chars w.attrs) ∷ (2 for NotGood rows w.state) ∷ []) (record_ran rows w r).answer
  host-given f k = by (began rows few w (data_of r) (emptied rows))
    where
      by : Began rows w (data_of r) (emptied rows) → Chosen ((1 for WrongSize rows w.chars w.attrs) ∷ (2 for NotGood rows w.state) ∷ []) (record_ran rows w r).answer
      by (wrong c e) = applies c (sym (ap (λ (x : Ran). x.answer) (ran-refused rows w r f k 1 (inl refl) e)))
      by (bad n c e) = passes n (applies c (sym (ap (λ (x : Ran). x.answer) (ran-refused rows w r f k 2 (inr refl) e))))
      by (ready n m s) = passes n (passes m (subst (Chosen []) (sym (ap (λ (x : Ran). x.answer) (host-done rows r f k w s))) none))

  record-chosen : Chosen (record_table rows w r) (record_ran rows w r).answer
  record-chosen =
      let a : Ran → ℕ = λ x. x.answer in
      form-chosen r (λ z. sym (ap a (ran-other rows w r z)))
      (λ f. by_kind (eqb (kind_of r) 72) (eqb (kind_of r) 75)
      (λ h. host-given f (eqb-true _ _ h))
      (λ h k. subst (Chosen (key_table rows w (emptied rows) (number_of r))) (ap a (ran-key rows w r f (eqb-false _ _ h) some (eqb-true _ _ k))) (key-chosen rows w (emptied rows) (number_of r)))
      (λ h k. subst (Chosen (post_table rows w (number_of r) (data_of r))) (ap a (ran-post rows w r f (eqb-false _ _ h) (eqb-false _ _ k))) (post-chosen rows w (number_of r) (data_of r))))

  record-differ : (a b : Bool)
      → differ (0 ∷ 12 ∷ 11 ∷ numbers (cond a ((1 for WrongSize rows w.chars w.attrs) ∷ (2 for NotGood rows w.state) ∷ []) (cond b (key_table rows w (emptied rows) (number_of r)) (post_table rows w (number_of r) (data_of r))))) ≡ true
  record-differ true b = refl
  record-differ false true = refl
  record-differ false false = refl

  -- ---- a refused record leaves all
  record-left : ¬ ((record_ran rows w r).answer ≡ 0) → ((record_ran rows w r).world ≡ w) × ((record_ran rows w r).replied ≡ 0)
  record-left = by (eqb (form_refusal r) 0) refl
    where
      L : Ran → Type 0
      L x = ¬ (x.answer ≡ 0) → (x.world ≡ w) × (x.replied ≡ 0)

      host-left : form_refusal r ≡ 0 → kind_of r ≡ 72 → Began rows w (data_of r) (emptied rows) → L (record_ran rows w r)
      host-left f k (wrong c e) = subst L (ran-refused rows w r f k 1 (inl refl) e) (λ _. (refl, refl))
      host-left f k (bad n c e) = subst L (ran-refused rows w r f k 2 (inr refl) e) (λ _. (refl, refl))
      host-left f k (ready n m s) = subst L (sym (host-done rows r f k w s)) (λ z. absurd (z refl))

      other-left : form_refusal r ≡ 0 → (a b : Bool) → eqb (kind_of r) 72 ≡ a → eqb (kind_of r) 75 ≡ b → L (record_ran rows w r)
      other-left f true b h k = host-left f (eqb-true _ _ h) (began rows few w (data_of r) (emptied rows))
      other-left f false true h k =
          subst L (ran-key rows w r f (eqb-false _ _ h) some (eqb-true _ _ k))
          (λ z. let u = key-refused rows w (emptied rows) (number_of r) z in (u.same-world, u.none_written))
      other-left f false false h k = subst L (ran-post rows w r f (eqb-false _ _ h) (eqb-false _ _ k)) (λ z. (post-refused rows w (number_of r) (data_of r) z, refl))

      by : (t : Bool) → eqb (form_refusal r) 0 ≡ t → L (record_ran rows w r)
      by true t = other-left (eqb-true _ _ t) (eqb (kind_of r) 72) (eqb (kind_of r) 75) refl refl
      by false t = subst L (ran-other rows w r (eqb-false _ _ t)) (λ _. (refl, refl))

-- ---- the promises
module _ (rows : ℕ) (some : 24 ≤ rows) (few : rows ≤ 96) where
  pub record_numbers : RecordNumbers rows
  record_numbers w r = given (record-chosen rows some few w r) (record-differ rows some few w r (eqb (kind_of r) 72) (eqb (kind_of r) 75))

  pub record_refusals : RecordRefusals rows
  record_refusals w r = record-left rows some few w r

  pub host_records : HostRecords rows
  host_records w r g c a f k = host-done rows r (formed-well r f) k w (sound-in few (in-sized rows w.chars w.attrs c a) (in-good g))
