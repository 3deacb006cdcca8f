-- A stream cut anywhere leaves what the whole leaves, and calls that go on after 7 with other reply buffers send what the whole sends. Assumes nothing.
use Prim.Native.Nat.{ℕ, ◌+◌, ◌≤◌, ◌<◌}
use mathlib.Core.Path.{◌≡◌, refl, sym, ap, ap₂, ◌∙◌, subst}
use mathlib.Core.Logic.{◌⊎◌, inl, inr, ⊎_elim}
use mathlib.Core.Bool.{Bool, true, false, cond}
use mathlib.Core.List.{List, [], ◌∷◌, ◌++◌}
use native.Mathlib.Omega.{arith}
use lib.ListN.{length, take, drop, length-append, take-append-drop}
use lib.Seq.{length-take-le}
use lib.Dec.{eqb}
use borrow.Author.Tests.{eqb-true, eqb-false}
use Rattle.cells.specs.Memory.{written}
use Rattle.cells.proofs.Splice.{take-written}
use Rattle.cells.proofs.Choices.{choose-by}
use Rattle.terminal.specs.State.{World, Sound}
use Rattle.terminal.proofs.Good.{sound-in}
use Rattle.streams.specs.Streams.{Hosted, hosted, delivered, fed_on, host_refusal, fed}
use Rattle.streams.proofs.Streams.{then_fed, fed_on-append, fed_on-behind, fed_on-counts}
use Rattle.streams.proofs.Kept.{fed_on-sound, fed_by, refused-by, unrefused, fed-sound}
use Rattle.streams.proofs.Steps.{stepped_on, answers_to, stepped-append, answers-append, fed_on-done, Taken, fed_on-is, fed-on}
use Rattle.records.specs.Records.{data_of, ran}
use Rattle.promises.specs.Noise.{remaining, joined, fed_after, CutsAgree, CutsStop, whole, fed_in_turn, PartsAgree, gone_on, CallsGoOn, RecordsGoOn}
use Rattle.promises.proofs.Refusals.{host_refusals}
use Rattle.promises.proofs.Forms.{formed-well}
use Rattle.promises.proofs.Records.{fed-all, host-done}

-- ---- a stream cut in two
-- what the parts leave: the first alone where it does not answer 0
abbrev in_two : Hosted → Hosted → Hosted
in_two f g = cond (eqb f.number 0) (joined f g) f

fed_on-cut : (rows : ℕ) (first second : List ℕ) (w : World) (reply : List ℕ)
    → let f = fed_on rows first 0 0 w reply in fed_on rows (first ++ second) 0 0 w reply ≡ in_two f (fed_on rows second 0 0 f.world (remaining f))
unfolding then_fed
fed_on-cut rows first second w reply =
    let f = fed_on rows first 0 0 w reply in
    let c = fed_on-counts rows first 0 0 w reply (omega arith) in
    let out = take f.written f.reply in
    let left = remaining f in
    let long : length out ≡ f.written = length-take-le f.written f.reply (omega (arith, c.sent-upto, c.reply-long)) in
    let p : f.taken ≡ f.taken + 0 = omega arith in
    let q : f.written ≡ length out + 0 = omega arith in
    let r : f.reply ≡ out ++ left = sym (take-append-drop f.written f.reply) in
    let e : fed_on rows second f.taken f.written f.world f.reply ≡ fed_on rows second (f.taken + 0) (length out + 0) f.world (out ++ left) = cc (p, q, r) in
    let g = fed_on rows second 0 0 f.world left in
    fed_on-append rows first second 0 0 w reply
    ∙ ap (λ (h : Hosted). cond (eqb f.number 0) h f)
    (e ∙ fed_on-behind rows out f.taken second 0 0 f.world left ∙ ap (λ (k : ℕ). hosted g.number (f.taken + g.taken) (k + g.written) g.world (out ++ g.reply)) long)

module _ (rows : ℕ) (few : rows ≤ 96) where
  fed-cut : (w : World) (first second reply : List ℕ) → let f = fed rows w first reply in fed rows w (first ++ second) reply ≡ in_two f (fed_after rows f second)
  fed-cut w first second reply = by (eqb (host_refusal rows w) 0) refl
    where
      by : (t : Bool) → eqb (host_refusal rows w) 0 ≡ t → let f = fed rows w first reply in fed rows w (first ++ second) reply ≡ in_two f (fed_after rows f second)
      by true t =
          let s = unrefused rows w few (eqb-true _ _ t) in
          let f = fed_on rows first 0 0 w reply in
          rw (fed-on s (first ++ second) reply, fed-on s first reply)
          (fed_on-cut rows first second w reply ∙ ap (in_two f) (sym (fed-on (fed_on-sound s first 0 0 reply) second (remaining f))))
      by false t =
          let n = eqb-false _ _ t in
          rw (← refused-by rows w (first ++ second) reply refl n, ← refused-by rows w first reply refl n, t)

  pub cuts_agree : CutsAgree rows
  cuts_agree w first second reply =
      let f = fed rows w first reply in
      let g = fed_after rows f second in
      let P : Hosted → Type 0 = λ h. h.number ≡ 0 → (f.number ≡ 0) × (g.number ≡ 0) × (joined f g ≡ h) in
      subst P (sym (fed-cut w first second reply)) (choose-by P (eqb f.number 0) (λ t z. (eqb-true _ _ t, z, refl)) (λ t z. absurd (eqb-false _ _ t z)))

  pub cuts_stop : CutsStop rows
  cuts_stop w first second reply =
      let f = fed rows w first reply in
      let g = fed_after rows f second in
      let P : Hosted → Type 0 = λ h.
      h.number ≡ 7 → ((h.taken < length first) × (f ≡ h)) ⊎ ((f.number ≡ 0) × (g.number ≡ 7) × (h.taken ≡ length first + g.taken) × (joined f g ≡ h)) in
      let k = host_refusals rows w first reply in
      subst P (sym (fed-cut w first second reply))
      (choose-by P (eqb f.number 0)
      (λ t z. let e = eqb-true _ _ t in inr (e, z, omega (arith, k.done_takes e), refl)) (λ t z. inl ((k.short_stops z).0, refl)))

  -- ---- any number of parts
  pub parts_agree : PartsAgree rows
  unfolding whole fed_in_turn
  parts_agree w part [] reply = (refl, λ z. z)
  parts_agree w part (next ∷ parts) reply =
      let f = fed rows w part reply in
      let i = parts_agree f.world next parts (remaining f) in (
        ap (in_two f) i.0 ∙ sym (fed-cut w part (whole next parts) reply),
        λ z. let c = cuts_agree w part (whole next parts) reply z in (c.0, i.1 c.1),
      )

  -- ---- what a stream leaves and sends that is taken whole
  first-written : (reply out : List ℕ) → take (length out) (written reply 0 out) ≡ out
  first-written reply out = let e : length out ≡ 0 + length out = omega arith in ap (λ (n : ℕ). take n (written reply 0 out)) e ∙ take-written reply 0 out (omega arith)

  abbrev sent_whole : List ℕ → World → Hosted
  sent_whole bytes w = hosted 0 (length bytes) (length (answers_to rows bytes w)) (stepped_on rows bytes w) (answers_to rows bytes w)

  sent-whole : {w : World} → Sound rows w → (bytes reply : List ℕ) → (fed rows w bytes reply).number ≡ 0 → delivered (fed rows w bytes reply) ≡ sent_whole bytes w
  sent-whole {w} s bytes reply =
      rw (fed-on s bytes reply)
      (λ z.
      let out = answers_to rows bytes w in
      let n : 0 + length bytes ≡ length bytes = omega arith in
      let m : 0 + length out ≡ length out = omega arith in
      ap delivered (fed_on-done rows bytes 0 0 w reply (omega arith) z) ∙ cc (n, m, first-written reply out))

  -- two parts of a stream, the first of which is taken
  two-whole : (xs ys : List ℕ) (w : World) (f : Hosted) → f.taken ≡ length xs → f.written ≡ length (answers_to rows xs w) → f.world ≡ stepped_on rows xs w
      → take f.written f.reply ≡ answers_to rows xs w → joined f (sent_whole ys f.world) ≡ sent_whole (xs ++ ys) w
  two-whole xs ys w f p q v r =
      let e = answers-append rows xs ys w in
      let n : f.taken + length ys ≡ length (xs ++ ys) = simp (p, length-append) in
      let m : length (answers_to rows xs w) + length (answers_to rows ys (stepped_on rows xs w)) ≡ length (answers_to rows (xs ++ ys) w) = rw e (sym (length-append (answers_to rows xs w) _)) in
      cc (n, m, q, v, r, e, stepped-append rows xs ys w)

  -- ---- calls that go on
  go_on : {w : World} → Sound rows w → (bytes reply : List ℕ) (others : List (List ℕ)) → (gone_on rows w bytes reply others).number ≡ 0 → gone_on rows w bytes reply others ≡ sent_whole bytes w
  unfolding gone_on
  go_on {w = w} s bytes reply [] = sent-whole s bytes reply
  go_on {w = w} s bytes reply (other ∷ others) =
      let f = fed rows w bytes reply in
      let xs = take f.taken bytes in
      let ys = drop f.taken bytes in
      choose-by (λ (h : Hosted). h.number ≡ 0 → h ≡ sent_whole bytes w) (eqb f.number 7)
      (λ _ z.
      let k = host_refusals rows w bytes reply in
      let t : Taken rows bytes w reply f = rw (fed-on s bytes reply) (fed_on-is rows bytes w reply) in
      let sent : take f.written f.reply ≡ answers_to rows xs w = rw (t.reply-is, t.written_is) (first-written reply (answers_to rows xs w)) in
      ap (joined f) (go_on {w = f.world} (fed-sound s bytes reply) ys other others z)
      ∙ two-whole xs ys w f (sym (length-take-le f.taken bytes k.taken_in)) t.written_is t.world_is sent
      ∙ ap (λ (l : List ℕ). sent_whole l w) (take-append-drop f.taken bytes))
      (λ _ z. sent-whole s bytes reply z)

  -- a stream that is taken was taken from a good state over memories of the right size
  taken-sound : (w : World) (bytes reply : List ℕ) → (fed rows w bytes reply).number ≡ 0 → Sound rows w
  taken-sound w bytes reply =
      fed_by (λ (h : Hosted). h.number ≡ 0 → Sound rows w) rows w bytes reply (λ s g _. sound-in few s g) (λ n o z. absurd (⊎_elim (λ p. omega arith) (λ p. omega arith) o))

  pub calls_go_on : CallsGoOn rows
  calls_go_on w bytes reply others roomy e z =
      let s = taken-sound w bytes roomy z in
      go_on s bytes reply others e ∙ sym (sent-whole s bytes roomy z)

  pub records_go_on : RecordsGoOn rows
  records_go_on w r roomy f k z =
      let s = taken-sound w (data_of r) roomy z in
      let a = fed-all s (data_of r) roomy z in
      host-done rows r (formed-well r f) k w s ∙ sym (ap₂ (ran 0) a.0 a.1)
