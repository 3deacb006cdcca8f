-- One reader's calls are hidden: whatever it posts, all other calls are answered alike, and the other reader reads the same text. Assumes nothing.
use mathlib.Core.Path.{◌≡◌, refl, sym, ap, ◌∙◌, subst}
use mathlib.Core.Bool.{Bool, true, false, cond, not, false≢true}
use mathlib.Core.List.{List, [], ◌∷◌}
use Prim.Native.Nat.{ℕ, ◌+◌, ◌-◌, ◌*◌, ◌≤◌, ◌<◌}
use native.Mathlib.Omega.{arith}
use lib.Dec.{eqb, ltb}
use lib.ListN.{length, get_or, set, take}
use lib.Seq.{slice, length-slice, get_or-take, get_or-drop, ext_get_or}
use borrow.Author.Tests.{eqb-true, eqb-false, ne_eqb, not-true, not-false}
use Rattle.std.specs.Prelude.{Option, Some, None, is_none}
use Rattle.cells.proofs.Choices.{choose-by}
use Rattle.fields.specs.Fields.{marks, field_number, field_end, nth_field}
use Rattle.fields.proofs.Marks.{length-marks}
use Rattle.fields.proofs.Fields.{end-inside}
use Rattle.fields.proofs.Numbers.{field-holds, holds-number, is_held}
use Rattle.fields.proofs.Starts.{nth-open}
use Rattle.reading.specs.Action as Action
use Rattle.replies.specs.Replies.{field_text}
use Rattle.terminal.specs.declared.Terminal.{Terminal}
use Rattle.terminal.specs.State.{World, stated, flagged, Sound}
use Rattle.terminal.specs.Refusals.{◌when◌, first_refusal}
use Rattle.terminal.proofs.Good.{in-sound}
use Rattle.key.specs.Keys.{Keyed, key_action, key_done, keyed, enter}
use Rattle.streams.specs.Streams.{Hosted, fed, fed_on}
use Rattle.streams.specs.Protected.{StaysOn}
use Rattle.streams.proofs.Steps.{fed-on}
use Rattle.report.specs.declared.ReportAnswer.{ReportAnswer}
use Rattle.report.specs.Reports.{report_refusal, reported}
use Rattle.report.proofs.Kept.{report-sound}
use Rattle.readers.specs.Owners.{is_table, owns, posted_as, text_in_field, read_refusal, Read, read_with, read_back_of}
use Rattle.readers.proofs.Kept.{owner-is, as-ready, as-refused}
use Rattle.mixing.specs.Event.{run, filtered, Throughout}
use Rattle.mixing.proofs.Unseen.{steps-follow, post-follows, post-hides, undisturbed}
use Rattle.promises.specs.SharedCalls.{SharedCall, host, key, post, report, post_as, read_back, shared_called, SharedTold, by_host, by_key, by_post, by_reading}
use Rattle.promises.specs.Mixing.{Answer}
use Rattle.promises.specs.Owners.{seen, heard_of, heard, NoneDown, Calm, AlikeBut, Undisturbed}
use Rattle.promises.proofs.Machine.{Known, known, unset, Alive, sound, alive, key_reads, key_reach, Owned}
use Rattle.promises.proofs.Keys.{pressed, by, pressed-law}
use Rattle.promises.proofs.Owned.{as-owned, plain-law, by-law}
use Rattle.promises.proofs.Mixing.{refusal, refusal_is, does}
use Rattle.promises.proofs.Following.{on-now, Similar, Follows, noted-similar, acted-similar, SimilarStreams, fed-similar}
use Rattle.promises.proofs.SharedCalls.{shared-sound}

-- ---- reading back
-- two parts with the same bytes
slice-same : (f t : ℕ) (xs ys : List ℕ) → t ≤ length xs → t ≤ length ys → ((i : ℕ) → f ≤ i → i < t → get_or xs i 0 ≡ get_or ys i 0) → slice f t xs ≡ slice f t ys
slice-same f t xs ys l m h =
    ext_get_or 0 (slice f t xs) (slice f t ys) (length-slice f t xs l ∙ sym (length-slice f t ys m))
    (λ i k.
    let n : f + i < t = omega (arith, length-slice f t xs l, k) in
    get_or-drop f (take t xs) i 0 ∙ get_or-take t xs (f + i) 0 n ∙ h (f + i) (omega arith) n ∙ sym (get_or-drop f (take t ys) i 0 ∙ get_or-take t ys (f + i) 0 n))

module _ (rows : ℕ) (owners : List ℕ) (r field : ℕ) (out : List ℕ) where
  -- what is read back, by whether the reader owns the field, where the field starts and what stands in it
  abbrev back_with : Bool → Bool → Option ℕ → List ℕ → Read
  back_with table own found text =
      read_with (first_refusal ((1 when not table) ∷ (9 when is_none found) ∷ (13 when not own) ∷ (7 when ltb (length out) (length text)) ∷ [])) text out

  abbrev place : World → Option ℕ
  place x = nth_field (marks x.attrs) field

  back_is : (x : World) → Alive rows (known rows x) → read_back_of rows x owners r field out ≡ back_with (is_table owners) (owns owners r field) (place x) (text_in_field x (place x))
  unfolding read_back_of read_refusal first_refusal
  back_is x a = let s = in-sound (sound {x = x} a) in rw (s.0, s.1, a.on)

  -- to one who does not own the field the text does not matter
  unowned-back : (table : Bool) (f : Option ℕ) (p q : List ℕ) → back_with table false f p ≡ back_with table false f q
  unfolding first_refusal
  unowned-back true (Some k) p q = refl
  unowned-back true None p q = refl
  unowned-back false f p q = refl

  module _ (Hidden : ℕ → Type 0) (mine : owns owners r field ≡ true → ¬ Hidden field) (x y : World) (a : Alive rows (known rows x)) (b : Alive rows (known rows y))
      (e : Similar rows owners Hidden x y)
    where
      same-marks : marks x.attrs ≡ marks y.attrs
      same-marks = ap (λ (s : Known). s.marks) e.states

      same_text : owns owners r field ≡ true → (f : Option ℕ) → place x ≡ f → text_in_field x f ≡ text_in_field y f
      unfolding text_in_field field_text
      same_text o None p = refl
      same_text o (Some k) p =
          slice-same k (field_end (marks x.attrs) k) x.chars y.chars (omega (arith, inside, n, a.chars_long)) (omega (arith, inside, n, b.chars_long)) cell
          ∙ ap (λ (ms : List ℕ). slice k (field_end ms k) y.chars) same-marks
        where
          n : length (marks x.attrs) ≡ rows * 80
          n = length-marks x.attrs ∙ a.attrs_long

          inside : field_end (marks x.attrs) k ≤ length (marks x.attrs)
          inside = end-inside (marks x.attrs) rows k n (nth-open (marks x.attrs) field k p).inside

          cell : (i : ℕ) → k ≤ i → i < field_end (marks x.attrs) k → get_or x.chars i 0 ≡ get_or y.chars i 0
          cell i l m =
              let h = field-holds (marks x.attrs) field k i p l m in
              ap (λ (c : ℕ × ℕ). c.0)
              (e.cells i (omega (arith, inside, n)) (λ u. subst (λ (g : ℕ). ¬ Hidden g) (sym (holds-number (marks x.attrs) field i h)) (mine o)))

      same-with : (o : Bool) → owns owners r field ≡ o
          → back_with (is_table owners) o (place x) (text_in_field x (place x)) ≡ back_with (is_table owners) o (place y) (text_in_field y (place y))
      same-with true o =
          ap (back_with (is_table owners) true (place x)) (same_text o (place x) refl)
          ∙ ap (λ (ms : List ℕ). back_with (is_table owners) true (nth_field ms field) (text_in_field y (nth_field ms field))) same-marks
      same-with false o =
          unowned-back (is_table owners) (place x) (text_in_field x (place x)) (text_in_field y (place x))
          ∙ ap (λ (ms : List ℕ). back_with (is_table owners) false (nth_field ms field) (text_in_field y (nth_field ms field))) same-marks

      same_back : read_back_of rows x owners r field out ≡ read_back_of rows y owners r field out
      same_back = back_is x a ∙ same-with (owns owners r field) refl ∙ sym (back_is y b)

-- ---- keys
module _ (rows : ℕ) (owners : List ℕ) (Hidden : ℕ → Type 0) (code : ℕ) (reply : List ℕ) where
  pressed-similar : ¬ (code ≡ 261) → Follows rows owners Hidden (pressed rows code)
  unfolding key_action
  pressed-similar nh =
      by rows (λ c. ¬ (c ≡ 261) → Follows rows owners Hidden (pressed rows c)) code enter
      (λ n. acted-similar rows owners Hidden Action.ask_block 17 (eqb-false Action.ask_block Action.home_down refl))
      (λ ne n x y a b r.
      steps-follow (Owned rows owners) Hidden (λ z. Alive rows (known rows z)) (pressed rows code) (key_reads code) (key_reach code)
      (as-owned rows owners (λ z. Alive rows (known rows z)) (pressed rows code) (key_reads code) (key_reach code) (pressed-law rows code ne))
      (λ s g w. absurd (rw (ne_eqb code 261 n) at w)) x y a b r)
      nh

  -- what a key leaves, by its number
  abbrev key_of : ℕ → World → World → Keyed
  key_of n x v =
      record {
        number = n;
        written = cond (eqb n 0) (cond (eqb code enter) 1 0) 0;
        world = cond (eqb n 0) v x;
        reply = cond (eqb n 0) (cond (eqb code enter) (set reply 0 18) reply) reply;
      }

  key-is : (x : World) → Alive rows (known rows x) → keyed rows x reply code ≡ key_of (refusal rows code reply (known rows x)) x (does rows code reply x)
  unfolding keyed key_done
  key-is x a = rw (refusal_is rows code reply x a) (go (eqb n 0) refl (eqb code enter))
    where
      n : ℕ
      n = refusal rows code reply (known rows x)

      v : World
      v = does rows code reply x

      go : (b : Bool) → eqb n 0 ≡ b → (e : Bool)
          → ◌≡◌ {A = Keyed}
          (cond b (cond e (record { number = 0; written = 1; world = v; reply = set reply 0 18 }) (record { number = 0; written = 0; world = v; reply = reply }))
          (record { number = n; written = 0; world = x; reply = reply }))
          (record { number = n; written = cond b (cond e 1 0) 0; world = cond b v x; reply = cond b (cond e (set reply 0 18) reply) reply })
      go true t true = ap (λ (m : ℕ). record { number = m; written = 1; world = v; reply = set reply 0 18 }) (sym (eqb-true n 0 t))
      go true t false = ap (λ (m : ℕ). record { number = m; written = 0; world = v; reply = reply }) (sym (eqb-true n 0 t))
      go false t e = refl

  abbrev told_of : Keyed → SharedTold
  told_of k = by_key k.number k.written k.reply

  key-follows : ¬ (code ≡ 261) → (x y : World) → Alive rows (known rows x) → Alive rows (known rows y) → Similar rows owners Hidden x y
      → (told_of (keyed rows x reply code) ≡ told_of (keyed rows y reply code)) × Similar rows owners Hidden (keyed rows x reply code).world (keyed rows y reply code).world
  key-follows nh x y a b r = (
    ap told_of (key-is x a) ∙ ap (λ (s : Known). told_of (key_of (refusal rows code reply s) x x)) r.states ∙ sym (ap told_of (key-is y b)),
    rw (key-is x a, key-is y b)
        (subst
        (λ (s : Known).
        Similar rows owners Hidden (cond (goes (known rows x)) (does rows code reply x) x) (cond (goes s) (does rows code reply y) y))
        r.states (go (goes (known rows x)))),
  )
    where
      goes : Known → Bool
      goes s = eqb (refusal rows code reply s) 0

      go : (c : Bool) → Similar rows owners Hidden (cond c (does rows code reply x) x) (cond c (does rows code reply y) y)
      go true = noted-similar rows owners Hidden x y (pressed rows code x) (pressed rows code y) (pressed-similar nh x y a b r)
      go false = r

-- ---- a report clears rows, and leaves what is known
pub report-state : (rows : ℕ) (t : Terminal) → unset (reported rows t).state ≡ unset t
unfolding reported
report-state rows t = choose-by (λ (r : ReportAnswer). unset r.state ≡ unset t) (eqb (report_refusal rows t) 0) (λ _. refl) (λ _. refl)

report-known : {rows : ℕ} (x : World) → Sound rows x → known rows (stated x (reported rows x.state).state) ≡ known rows x
report-known {rows} x s =
    λ j.
    record {
      state = report-state rows x.state j;
      clean = ((report-sound s).good.changes_in ∙ sym s.good.changes_in) j;
      marks = marks x.attrs;
      chars = length x.chars;
      attrs = length x.attrs;
    }

-- ---- a run
module _ (rows : ℕ) (owners : List ℕ) (hidden : ℕ) where
  -- the fields of the hidden reader
  abbrev Theirs : ℕ → Type 0
  Theirs f = owns owners hidden f ≡ true

  abbrev ButTheirs : World → World → Type 0
  ButTheirs x y = Similar rows owners Theirs x y

  -- sound worlds alone are met
  Firm : SharedCall → World → Type 0
  Firm c w = Sound rows w × Calm rows owners c w

  firm-all : (es : List SharedCall) (w : World) → Sound rows w → Throughout (shared_called rows) (Calm rows owners) es w → Throughout (shared_called rows) Firm es w
  unfolding Firm
  firm-all [] w s t = tt
  firm-all (c ∷ es) w s t = ((s, t.0), firm-all es (shared_called rows c w) (shared-sound c s) t.1)

  alive-too : {x y : World} → ButTheirs x y → Alive rows (known rows x) → Alive rows (known rows y)
  alive-too r a = subst (Alive rows) r.states a

  -- a field that another reader owns is not hidden
  not-theirs : (r field : ℕ) → not (eqb r hidden) ≡ true → owns owners r field ≡ true → ¬ Theirs field
  not-theirs r field v o t = eqb-false r hidden (not-true (eqb r hidden) v) (sym (owner-is owners r field o) ∙ owner-is owners hidden field t)

  host-follows : (bytes reply : List ℕ) (x y : World) → Sound rows x → Calm rows owners (host bytes reply) x → ButTheirs x y
      → SimilarStreams rows owners Theirs (fed rows x bytes reply) (fed rows y bytes reply)
  host-follows bytes reply x y s calm r =
      let on : x.state.format ≡ true = on-now rows (take (fed rows x bytes reply).taken bytes) x calm.on in
      let u = sound {x = y} (alive-too r (alive s on)) in
      let z : (fed rows x bytes reply).taken ≡ (fed_on rows bytes 0 0 x reply).taken - 0 = ap (λ (h : Hosted). h.taken) (fed-on s bytes reply) ∙ omega arith in
      let c : StaysOn rows (take ((fed_on rows bytes 0 0 x reply).taken - 0) bytes) x × NoneDown rows (take ((fed_on rows bytes 0 0 x reply).taken - 0) bytes) x =
      subst (λ (n : ℕ). StaysOn rows (take n bytes) x × NoneDown rows (take n bytes) x) z (calm.on, calm.no_home_down) in
      rw (fed-on s bytes reply, fed-on u bytes reply) (fed-similar rows owners Theirs bytes 0 0 x y reply reply (omega arith) refl s u c r)

  -- what a call that is seen answers, and leaves, of two that are alike
  abbrev Followed : SharedCall → World → World → Type 0
  Followed c x y = (heard rows c x ≡ heard rows c y) × ButTheirs (shared_called rows c x) (shared_called rows c y)

  follows : (c : SharedCall) (x y : World) → seen hidden c ≡ true → Firm c x → ButTheirs x y → Followed c x y
  unfolding Firm
  follows (host bytes reply) x y v f r =
      let h = host-follows bytes reply x y f.0 f.1 r in
      ((λ j. by_host (h.numbers j) (h.takens j) (h.writtens j) []), h.worlds)
  follows (key code reply) x y v f r =
      let a = alive f.0 f.1.on in
      let h = key-follows rows owners Theirs code reply f.1.no_home_down x y a (alive-too r a) r in
      (ap heard_of h.0, h.1)
  follows (post field text) x y v f r =
      let h = post-follows (Owned rows owners) Theirs (plain-law rows owners field text) x y (alive f.0 f.1.on) r in
      (ap (λ (a : Answer). by_post a.number) h.0, h.1)
  follows report x y v f r = absurd (false≢true v)
  follows (post_as table k field text) x y v f r =
      let h = post-follows (Owned rows owners) Theirs (by-law rows owners field text k) x y (alive f.0 f.1.on) r in
      subst (λ (o : List ℕ). Followed (post_as o k field text) x y) (sym f.1.under) (ap (λ (a : Answer). by_post a.number) h.0, h.1)
  follows (read_back table k field out) x y v f r =
      let a = alive f.0 f.1.on in
      let h = same_back rows owners k field out Theirs (not-theirs k field v) x y a (alive-too r a) r in
      subst (λ (o : List ℕ). Followed (read_back o k field out) x y) (sym f.1.under) (ap (λ (b : Read). heard_of (by_reading b.number b.written b.out)) h, r)

  -- a post of the hidden reader
  posts-hide : (k field : ℕ) (text : List ℕ) (x y : World) → eqb k hidden ≡ true → Alive rows (known rows x) → ButTheirs x y → ButTheirs (posted_as rows x owners k field text).world y
  posts-hide k field text x y v a r = go (owns owners k field) refl
    where
      go : (b : Bool) → owns owners k field ≡ b → ButTheirs (posted_as rows x owners k field text).world y
      go true o =
          post-hides (Owned rows owners) Theirs (by-law rows owners field text k)
          (subst (λ (n : ℕ). owns owners n field ≡ true) (eqb-true k hidden v) o) x y a r
      go false o = rw (as-refused rows x owners k field text (λ z. false≢true (sym o ∙ (as-ready rows x owners k field text z).own))) r

  hides : (c : SharedCall) (x y : World) → seen hidden c ≡ false → Firm c x → ButTheirs x y → ButTheirs (shared_called rows c x) y
  unfolding Firm
  hides (host bytes reply) x y v f r = absurd (false≢true (sym v))
  hides (key code reply) x y v f r = absurd (false≢true (sym v))
  hides (post field text) x y v f r = absurd (false≢true (sym v))
  hides report x y v f r = record { states = report-known x f.0 ∙ r.states; cells = r.cells }
  hides (post_as table k field text) x y v f r =
      subst (λ (o : List ℕ). ButTheirs (posted_as rows x o k field text).world y) (sym f.1.under)
      (posts-hide k field text x y (not-false (eqb k hidden) v) (alive f.0 f.1.on) r)
  hides (read_back table k field out) x y v f r = r

  -- in the words of the promise
  as_said : (x y : World) → ButTheirs x y → AlikeBut rows owners hidden x y
  as_said x y r =
      record {
        state_same = λ j. flagged (r.states j).state y.state.changes;
        marks_same = ap (λ (s : Known). s.marks) r.states;
        cells_same = λ i l h.
            r.cells i l
            (λ o t. false≢true (sym (h (field_number (marks x.attrs) i) t) ∙ is_held (marks x.attrs) (field_number (marks x.attrs) i) i o refl));
      }

-- from a good state over memories of the right size
pub apart-sound : (rows : ℕ) (owners : List ℕ) (hidden : ℕ) (w : World) → Sound rows w → (es es' : List SharedCall) → filtered (seen hidden) es ≡ filtered (seen hidden) es'
    → Throughout (shared_called rows) (Calm rows owners) es w → Throughout (shared_called rows) (Calm rows owners) es' w → Undisturbed rows owners hidden es es' w
apart-sound rows owners hidden w s es es' e t t' =
    let h = undisturbed (Owned rows owners) (Theirs rows owners hidden) (shared_called rows) (heard rows) (seen hidden) (Firm rows owners hidden)
    (follows rows owners hidden) (hides rows owners hidden) w es es' e (firm-all rows owners hidden es w s t) (firm-all rows owners hidden es' w s t') in
    record { same_heard = h.0; ends = as_said rows owners hidden (run (shared_called rows) es w) (run (shared_called rows) es' w) h.1 }
