-- Each call answers a number exactly when its table gives it: the call's tests are those of the table, in its order. Assumes nothing.
use Prim.Native.Nat.{ℕ, zero, suc, ◌+◌, ◌-◌, ◌*◌, ◌≤◌, ◌<◌}
use mathlib.Core.Path.{◌≡◌, refl, sym, ap, ◌∙◌, subst}
use mathlib.Core.Logic.{◌⊎◌, inl, inr, ⊎_elim}
use mathlib.Core.Bool.{Bool, true, false, cond, ◌&&◌, ◌||◌, not, and-eq-true_iff}
use mathlib.Core.List.{List, [], ◌∷◌}
use native.Mathlib.Omega.{arith}
use lib.ListN.{length, take, get_or}
use lib.Dec.{eqb, leb, ltb}
use borrow.Author.Tests.{eqb-true, eqb-false, ne_eqb, leb-true, leb-false, le-leb, ltb-true, eq-eqb, lt-ltb, not-true}
use Rattle.std.specs.Prelude.{Option, Some, None, is_none}
use Rattle.cells.specs.Memory.{written}
use Rattle.cells.proofs.Search.{not-both}
use Rattle.cells.proofs.Splice.{length-written}
use Rattle.cursor.specs.Cursor.{cell_of}
use Rattle.cells.specs.Range.{within}
use Rattle.fields.specs.Fields.{marks, kind_at, field_end, nth_field, target, allowed}
use Rattle.reading.specs.Action as Action
use Rattle.cells.proofs.Choices.{choose-by}
use Rattle.terminal.specs.declared.Terminal.{Terminal}
use Rattle.terminal.specs.State.{World, is_good, is_sized, barred}
use Rattle.terminal.specs.Refusals.{Refusal, ◌when◌, first_refusal}
use Rattle.terminal.specs.Fresh.{fresh_refusal, freshened}
use Rattle.terminal.proofs.Good.{good-in, in-good, sized-in, in-sized}
use Rattle.key.specs.Keys.{key_action, enter, disallows, key_refusal, keyed}
use Rattle.key.proofs.Kept.{key-number}
use Rattle.post.specs.Posts.{fits, all_fit, is_too_long, misfits, post_refusal, posted_to}
use Rattle.replies.specs.Replies.{field_text}
use Rattle.readers.specs.Owners.{is_table, owns, post_as_refusal, posted_as, text_in_field, read_refusal, read_back_of}
use Rattle.readers.proofs.Readings.{read_number}
use Rattle.streams.specs.Streams.{answer_to, stepped, Hosted, hosted, fed_on, host_refusal, fed}
use Rattle.streams.proofs.Kept.{fed_on-number}
use Rattle.mixing.specs.Event.{run}
use Rattle.report.specs.Reports.{report_refusal, reported}
use Rattle.report.proofs.Kept.{report-number}
use Rattle.promises.specs.Numbers.{Entry, ◌for◌, WrongSize, NotGood, Text, Listed, NotListed, Barred, NoTarget, NotAllowed, NoRoom, NoField, TooLong, BadByte, WrongTable, Owner, NotOwner, ShortOfField, sent, ShortOfRoom, fresh_table, key_table, post_table, post_as_table, read_back_table, host_table, report_table, FreshNumbers, KeyNumbers, PostNumbers, PostAsNumbers, ReadBackNumbers, HostNumbers, ReportNumbers}
use Rattle.promises.proofs.Tables.{Chosen, none, applies, passes, Tested, untested, tested, tested-chosen, given}

-- a test that cannot be true is false
unless-true : {b : Bool} → ¬ (b ≡ true) → not b ≡ true
unless-true {b = true} h = absurd (h refl)
unless-true {b = false} h = refl

-- ---- 1: the sizes
module _ (rows : ℕ) (chars attrs : List ℕ) where
  wrong_size : is_sized rows chars attrs ≡ false → WrongSize rows chars attrs
  wrong_size e = by (eqb (length chars) (rows * 80)) refl
    where
      by : (t : Bool) → eqb (length chars) (rows * 80) ≡ t → WrongSize rows chars attrs
      by true p = inr (λ q. not-both (in-sized rows chars attrs (eqb-true _ _ p) q) e)
      by false p = inl (eqb-false _ _ p)

  right-size : is_sized rows chars attrs ≡ true → ¬ WrongSize rows chars attrs
  right-size e = let s = sized-in rows chars attrs e in ⊎_elim (λ p. p s.0) (λ p. p s.1)

-- ---- 2: the state
module _ (rows : ℕ) (t : Terminal) where
  not_good : is_good rows t ≡ false → NotGood rows t
  not_good e g = not-both (in-good g) e

  is-good : is_good rows t ≡ true → ¬ NotGood rows t
  is-good e n = n (good-in rows t e)

-- the test of the state, and those after it
good-or : (rows : ℕ) (t : Terminal) {rs : List Refusal} {ls : List Entry} → Tested rs ls → Tested ((2 when not (is_good rows t)) ∷ rs) ((2 for NotGood rows t) ∷ ls)
good-or rows t rest = tested (λ e. not_good rows t (not-true _ e)) (λ c. unless-true (λ e. is-good rows t e c)) rest

-- ---- 1 and 2, before the other tests
ready : (rows : ℕ) (w : World) {rs : List Refusal} {ls : List Entry} → Tested rs ls
    → Tested ((1 when not (is_sized rows w.chars w.attrs)) ∷ (2 when not (is_good rows w.state)) ∷ rs) ((1 for WrongSize rows w.chars w.attrs) ∷ (2 for NotGood rows w.state) ∷ ls)
ready rows w rest =
    tested (λ e. wrong_size rows w.chars w.attrs (not-true _ e)) (λ c. unless-true (λ e. right-size rows w.chars w.attrs e c))
    (good-or rows w.state rest)

-- ---- 3: text and listed codes
text_in : (code : ℕ) → within 32 126 code ≡ true → Text code
text_in code e = let a = (and-eq-true_iff (leb 32 code) (leb code 126)).0 e in (leb-true 32 code a.0, leb-true code 126 a.1)

in-text : (code : ℕ) → Text code → within 32 126 code ≡ true
in-text code t = rw (le-leb 32 code t.0, le-leb code 126 t.1)

not-text : (code : ℕ) → within 32 126 code ≡ false → ¬ Text code
not-text code e t = not-both (in-text code t) e

no_text : (code : ℕ) → ¬ Text code → within 32 126 code ≡ false
no_text code h = by (within 32 126 code) refl
  where
    by : (t : Bool) → within 32 126 code ≡ t → within 32 126 code ≡ false
    by true p = absurd (h (text_in code p))
    by false p = p

outside : (code : ℕ) → NotListed code → (n : ℕ) → within 256 273 n ≡ true → eqb code n ≡ false
outside code h n e =
    let a = (and-eq-true_iff (leb 256 n) (leb n 273)).0 e in
    ne_eqb code n (λ q. h (inr (omega (arith, leb-true 256 n a.0, leb-true n 273 a.1))))

unlisted : (code : ℕ) (insert : Bool) → NotListed code → key_action code insert ≡ Action.rest
unfolding key_action
unlisted code insert h = simp (no_text code (λ t. h (inl t)), outside code h)

-- n numbers from `lo` on pass a test: then each of them does
abbrev all : (ℕ → Bool) → ℕ → ℕ → Bool
all p lo zero = true
all p lo (suc n) = p lo && all p (lo + 1) n

each : (p : ℕ → Bool) (lo n k : ℕ) → all p lo n ≡ true → lo ≤ k → k < lo + n → p k ≡ true
each p lo zero k t l h = absurd (omega arith)
each p lo (suc n) k t l h = let a = (and-eq-true_iff (p lo) (all p (lo + 1) n)).0 t in by (eqb k lo) refl a.0 (each p (lo + 1) n k a.1)
  where
    by : (b : Bool) → eqb k lo ≡ b → p lo ≡ true → (lo + 1 ≤ k → k < lo + 1 + n → p k ≡ true) → p k ≡ true
    by true e q more = ap p (eqb-true k lo e) ∙ q
    by false e q more = let d = eqb-false k lo e in more (omega arith) (omega arith)

has-action : (insert : Bool) → all (λ (c : ℕ). not (eqb (key_action c insert) Action.rest)) 256 18 ≡ true
unfolding key_action
has-action true = refl
has-action false = refl

listed : (code : ℕ) (insert : Bool) → Listed code → eqb (key_action code insert) Action.rest ≡ false
unfolding key_action
listed code insert (inl t) = rw (in-text code t)
listed code insert (inr (lo, hi)) = not-true _ (each (λ (c : ℕ). not (eqb (key_action c insert) Action.rest)) 256 18 code (has-action insert) lo (omega arith))

-- ---- 4: host lock and the pending transfer
is-barred : (lock : Bool) (n : ℕ) → (lock || not (eqb n 0)) ≡ true → (lock ≡ true) ⊎ ¬ (n ≡ 0)
is-barred true n e = inl refl
is-barred false n e = inr (eqb-false n 0 (not-true (eqb n 0) e))

to-barred : (lock : Bool) (n : ℕ) → (lock ≡ true) ⊎ ¬ (n ≡ 0) → (lock || not (eqb n 0)) ≡ true
to-barred true n o = refl
to-barred false n (inl p) = absurd (not-both p refl)
to-barred false n (inr p) = ap not (ne_eqb n 0 p)

bar : (w : World) {rs : List Refusal} {ls : List Entry} → Tested rs ls → Tested ((4 when barred w.state) ∷ rs) ((4 for Barred w) ∷ ls)
unfolding barred
bar w = tested (is-barred w.state.lock w.state.pending) (to-barred w.state.lock w.state.pending)

-- ---- fresh
pub fresh-chosen : (rows : ℕ) (chars attrs : List ℕ) → Chosen (fresh_table rows chars attrs) (freshened rows chars attrs).number
unfolding freshened fresh_refusal
fresh-chosen rows chars attrs =
    tested-chosen (tested (λ e. wrong_size rows chars attrs (not-true _ e)) (λ c. unless-true (λ e. right-size rows chars attrs e c)) untested)

-- ---- a report
pub report-chosen : (rows : ℕ) (t : Terminal) → Chosen (report_table rows t) (reported rows t).number
unfolding report_refusal
report-chosen rows t = subst (Chosen (report_table rows t)) (sym (report-number rows t)) (tested-chosen (good-or rows t untested))

-- ---- a search that found nothing
nothing-in : (f : Option ℕ) → is_none f ≡ true → f ≡ None
nothing-in (Some k) e = absurd (not-both e refl)
nothing-in None e = refl

-- ---- keys: 5 and 6 by the target, then 7
module _ (w : World) (reply : List ℕ) (code : ℕ) where
  abbrev ms : List ℕ
  ms = marks w.attrs

  abbrev found : Option ℕ
  found = target ms (cell_of w.state.cursor)

  abbrev aims : Bool
  aims = within 32 126 code && w.state.format

  aims-in : aims ≡ true → Text code × (w.state.format ≡ true)
  aims-in e = let a = (and-eq-true_iff (within 32 126 code) w.state.format).0 e in (text_in code a.0, a.1)

  in-aims : Text code → w.state.format ≡ true → aims ≡ true
  in-aims t on = (and-eq-true_iff (within 32 126 code) w.state.format).1 (in-text code t, on)

  disallowed : (f : Option ℕ) → disallows ms code f ≡ true → (cell : ℕ) × (f ≡ Some cell) × (allowed (kind_at ms cell) code ≡ false)
  unfolding disallows
  disallowed (Some k) e = (k, refl, not-true _ e)
  disallowed None e = absurd (not-both e refl)

  to-disallowed : (cell : ℕ) → found ≡ Some cell → allowed (kind_at ms cell) code ≡ false → disallows ms code found ≡ true
  unfolding disallows
  to-disallowed cell e a = ap (disallows ms code) e ∙ ap not a

  no_target : aims && is_none found ≡ true → NoTarget w code
  no_target e = let a = (and-eq-true_iff aims (is_none found)).0 e in let b = aims-in a.0 in (b.0, b.1, nothing-in found a.1)

  not-allowed : aims && disallows ms code found ≡ true → NotAllowed w code
  not-allowed e = let a = (and-eq-true_iff aims (disallows ms code found)).0 e in let b = aims-in a.0 in (b.0, b.1, disallowed found a.1)

  no_room : eqb code enter && ltb (length reply) 1 ≡ true → NoRoom reply code
  no_room e = let a = (and-eq-true_iff (eqb code enter) (ltb (length reply) 1)).0 e in (eqb-true code enter a.0, ltb-true (length reply) 1 a.1)

  by_code :
      Tested ((5 when (aims && is_none found)) ∷ (6 when (aims && disallows ms code found)) ∷ (7 when (eqb code enter && ltb (length reply) 1)) ∷ [])
      ((5 for NoTarget w code) ∷ (6 for NotAllowed w code) ∷ (7 for NoRoom reply code) ∷ [])
  by_code =
      tested no_target (λ c. (and-eq-true_iff aims (is_none found)).1 (in-aims c.0 c.1, ap is_none c.2))
      (tested not-allowed (λ c. (and-eq-true_iff aims (disallows ms code found)).1 (in-aims c.0 c.1, to-disallowed c.2.0 c.2.1 c.2.2))
      (tested no_room (λ c. (and-eq-true_iff (eqb code enter) (ltb (length reply) 1)).1 (eq-eqb code enter c.0, lt-ltb (length reply) 1 c.1)) untested))

pub key-chosen : (rows : ℕ) (w : World) (reply : List ℕ) (code : ℕ) → Chosen (key_table rows w reply code) (keyed rows w reply code).number
unfolding key_refusal
key-chosen rows w reply code =
    subst (Chosen _) (sym (key-number rows w reply code))
    (tested-chosen
    (ready rows w
    (tested
    (λ e l. not-both e (listed code w.state.insert l)) (λ l. eq-eqb _ _ (unlisted code w.state.insert l))
    (bar w (by_code w reply code)))))

-- ---- posts: 6 by the bytes
abbrev Bad : ℕ → List ℕ → Type 0
Bad kind text = (i : ℕ) × (i < length text) × (¬ Text (get_or text i 0) ⊎ (allowed kind (get_or text i 0) ≡ false))

bad-byte : (kind : ℕ) (text : List ℕ) → all_fit kind text ≡ false → Bad kind text
unfolding all_fit fits
bad-byte kind [] e = absurd (not-both refl e)
bad-byte kind (b ∷ bs) e = by (within 32 126 b) (allowed kind b) refl refl (bad-byte kind bs) e
  where
    by : (t a : Bool) → within 32 126 b ≡ t → allowed kind b ≡ a → (all_fit kind bs ≡ false → Bad kind bs) → ((t && a) && all_fit kind bs) ≡ false → Bad kind (b ∷ bs)
    by true true p q more e = let (i, l, h) = more e in (suc i, omega arith, h)
    by true false p q more e = (0, omega arith, inr q)
    by false a p q more e = (0, omega arith, inl (not-text b p))

no-bad-byte : (kind : ℕ) (text : List ℕ) → all_fit kind text ≡ true → (i : ℕ) → i < length text → ¬ (¬ Text (get_or text i 0) ⊎ (allowed kind (get_or text i 0) ≡ false))
unfolding all_fit fits
no-bad-byte kind [] e i l h = omega arith
no-bad-byte kind (b ∷ bs) e zero l h =
    let a = (and-eq-true_iff (within 32 126 b && allowed kind b) (all_fit kind bs)).0 e in
    let c = (and-eq-true_iff (within 32 126 b) (allowed kind b)).0 a.0 in
    ⊎_elim (λ n. n (text_in b c.0)) (λ f. not-both c.1 f) h
no-bad-byte kind (b ∷ bs) e (suc i) l h =
    no-bad-byte kind bs ((and-eq-true_iff (within 32 126 b && allowed kind b) (all_fit kind bs)).0 e).1 i (omega arith) h

module _ (w : World) (field : ℕ) (text : List ℕ) where
  abbrev here-ms : List ℕ
  here-ms = marks w.attrs

  abbrev place : Option ℕ
  place = nth_field here-ms field

  too_long : (f : Option ℕ) → is_too_long here-ms text f ≡ true → (start : ℕ) × (f ≡ Some start) × (field_end here-ms start - start < length text)
  unfolding is_too_long
  too_long (Some k) e = (k, refl, ltb-true _ _ e)
  too_long None e = absurd (not-both e refl)

  to-long : (start : ℕ) → place ≡ Some start → field_end here-ms start - start < length text → is_too_long here-ms text place ≡ true
  unfolding is_too_long
  to-long k e l = ap (is_too_long here-ms text) e ∙ lt-ltb (field_end here-ms k - k) (length text) l

  misfit : (f : Option ℕ) → misfits here-ms text f ≡ true → (start : ℕ) × (f ≡ Some start) × Bad (kind_at here-ms start) text
  unfolding misfits
  misfit (Some k) e = (k, refl, bad-byte (kind_at here-ms k) text (not-true _ e))
  misfit None e = absurd (not-both e refl)

  to-misfit : (start : ℕ) → place ≡ Some start → Bad (kind_at here-ms start) text → misfits here-ms text place ≡ true
  unfolding misfits
  to-misfit k e b = ap (misfits here-ms text) e ∙ unless-true (λ a. no-bad-byte (kind_at here-ms k) text a b.0 b.1 b.2)

  by_field :
      Tested ((9 when is_none place) ∷ (10 when is_too_long here-ms text place) ∷ (6 when misfits here-ms text place) ∷ [])
      ((9 for NoField w field) ∷ (10 for TooLong w field text) ∷ (6 for BadByte w field text) ∷ [])
  by_field =
      tested (nothing-in place) (λ c. ap is_none c)
      (tested (too_long place) (λ c. to-long c.0 c.1 c.2)
      (tested (misfit place) (λ c. to-misfit c.0 c.1 c.2) untested))

pub post-chosen : (rows : ℕ) (w : World) (field : ℕ) (text : List ℕ) → Chosen (post_table rows w field text) (posted_to rows w field text).number
unfolding posted_to post_refusal first_refusal
post-chosen rows w field text =
    tested-chosen
    (ready rows w
    (bar w
    (tested (λ e. not-true w.state.format e) (λ c. ap not c) (by_field w field text))))

-- ---- readers: 1 by the table too, 13 by the owner, 7 by the field
module _ (rows : ℕ) (w : World) (owners : List ℕ) where
  wrong-table : (s t : Bool) → is_sized rows w.chars w.attrs ≡ s → is_table owners ≡ t → not (s && t) ≡ true → WrongTable rows w owners
  unfolding is_table
  wrong-table true true p q e = absurd (not-both e refl)
  wrong-table true false p q e = inr (eqb-false (length owners) 256 q)
  wrong-table false t p q e = inl (wrong_size rows w.chars w.attrs p)

  right-table : is_sized rows w.chars w.attrs && is_table owners ≡ true → ¬ WrongTable rows w owners
  unfolding is_table
  right-table e =
      let a = (and-eq-true_iff (is_sized rows w.chars w.attrs) (is_table owners)).0 e in
      ⊎_elim (right-size rows w.chars w.attrs a.0) (λ n. n (eqb-true (length owners) 256 a.1))

  table-or : {rs : List Refusal} {ls : List Entry} → Tested rs ls
      → Tested ((1 when not (is_sized rows w.chars w.attrs && is_table owners)) ∷ (2 when not (is_good rows w.state)) ∷ rs)
      ((1 for WrongTable rows w owners) ∷ (2 for NotGood rows w.state) ∷ ls)
  table-or rest =
      tested (wrong-table (is_sized rows w.chars w.attrs) (is_table owners) refl refl) (λ c. unless-true (λ e. right-table e c)) (good-or rows w.state rest)

module _ (owners : List ℕ) (reader field : ℕ) where
  owner-in : owns owners reader field ≡ true → Owner owners reader field
  unfolding owns
  owner-in e =
      let a = (and-eq-true_iff (eqb reader 1 || eqb reader 2) (ltb field 256 && eqb (get_or owners field 0) reader)).0 e in
      let b = (and-eq-true_iff (ltb field 256) (eqb (get_or owners field 0) reader)).0 a.1 in
      (by (eqb reader 1) refl a.0, ltb-true field 256 b.0, eqb-true (get_or owners field 0) reader b.1)
    where
      by : (b : Bool) → eqb reader 1 ≡ b → b || eqb reader 2 ≡ true → (reader ≡ 1) ⊎ (reader ≡ 2)
      by true p q = inl (eqb-true reader 1 p)
      by false p q = inr (eqb-true reader 2 q)

  in-owner : Owner owners reader field → owns owners reader field ≡ true
  unfolding owns
  in-owner (inl e, l, g) = rw (eq-eqb (get_or owners field 0) reader g, lt-ltb field 256 l, e)
  in-owner (inr e, l, g) = rw (eq-eqb (get_or owners field 0) reader g, lt-ltb field 256 l, e)

  owner-or : {rs : List Refusal} {ls : List Entry} → Tested rs ls → Tested ((13 when not (owns owners reader field)) ∷ rs) ((13 for NotOwner owners reader field) ∷ ls)
  owner-or rest = tested {C = NotOwner owners reader field} (λ e o. not-both (in-owner o) (not-true _ e)) (λ c. unless-true (λ e. c (owner-in e))) rest

pub post-as-chosen : (rows : ℕ) (w : World) (owners : List ℕ) (reader field : ℕ) (text : List ℕ)
    → Chosen (post_as_table rows w owners reader field text) (posted_as rows w owners reader field text).number
unfolding posted_as post_as_refusal
post-as-chosen rows w owners reader field text =
    tested-chosen
    (table-or rows w owners
    (bar w
    (tested (λ e. not-true w.state.format e) (λ c. ap not c)
    (tested (nothing-in (place w field text)) (λ c. ap is_none c)
    (owner-or owners reader field
    (tested (too_long w field text (place w field text)) (λ c. to-long w field text c.0 c.1 c.2)
    (tested (misfit w field text (place w field text)) (λ c. to-misfit w field text c.0 c.1 c.2) untested)))))))

module _ (w : World) (field : ℕ) (out : List ℕ) where
  short-of : (f : Option ℕ) → ltb (length out) (length (text_in_field w f)) ≡ true → (start : ℕ) × (f ≡ Some start) × (length out < length (field_text w.chars (marks w.attrs) start))
  unfolding text_in_field
  short-of (Some k) e = (k, refl, ltb-true _ _ e)
  short-of None e = absurd (omega (arith, ltb-true (length out) 0 e))

  to-short : ShortOfField w field out → ltb (length out) (length (text_in_field w (nth_field (marks w.attrs) field))) ≡ true
  unfolding text_in_field
  to-short (k, e, l) = ap (λ (f : Option ℕ). ltb (length out) (length (text_in_field w f))) e ∙ lt-ltb (length out) (length (field_text w.chars (marks w.attrs) k)) l

pub read-back-chosen : (rows : ℕ) (w : World) (owners : List ℕ) (reader field : ℕ) (out : List ℕ)
    → Chosen (read_back_table rows w owners reader field out) (read_back_of rows w owners reader field out).number
unfolding read_refusal
read-back-chosen rows w owners reader field out =
    rw (read_number rows w owners reader field out)
    (tested-chosen
    (table-or rows w owners
    (tested (λ e. not-true w.state.format e) (λ c. ap not c)
    (tested (nothing-in (nth_field (marks w.attrs) field)) (λ c. ap is_none c)
    (owner-or owners reader field
    (tested (short-of w field out (nth_field (marks w.attrs) field)) (to-short w field out) untested))))))

-- ---- streams: 7 by the replies, of which `at` bytes are written before
Over : ℕ → World → List ℕ → ℕ → ℕ → Type 0
Over rows w bytes at room =
    (i : ℕ) × (i < length bytes)
    × (room < at + (sent rows (take i bytes) w + length (answer_to (get_or bytes i 0) (run (stepped rows) (take i bytes) w))))

fed_on-over : (rows : ℕ) (bytes : List ℕ) (taken at : ℕ) (w : World) (reply : List ℕ) (room : ℕ) → length reply ≡ room → (fed_on rows bytes taken at w reply).number ≡ 7
    → Over rows w bytes at room
unfolding fed_on Over
fed_on-over rows [] taken at w reply room r = λ z. absurd (omega arith)
fed_on-over rows (b ∷ bs) taken at w reply room r =
    choose-by (λ (h : Hosted). h.number ≡ 7 → Over rows w (b ∷ bs) at room) (leb (at + length (answer_to b w)) (length reply))
    (λ t z.
    let long = length-written reply at (answer_to b w) (leb-true _ _ t) in
    let (i, l, o) = fed_on-over rows bs (taken + 1) (at + length (answer_to b w)) (stepped rows b w) (written reply at (answer_to b w)) room (long ∙ r) z in
    (suc i, omega arith, omega arith))
    (λ t _. (0, omega arith, omega (arith, leb-false (at + length (answer_to b w)) (length reply) t)))

fed_on-fits : (rows : ℕ) (bytes : List ℕ) (taken at : ℕ) (w : World) (reply : List ℕ) (room : ℕ) → length reply ≡ room → (fed_on rows bytes taken at w reply).number ≡ 0
    → ¬ Over rows w bytes at room
unfolding fed_on Over
fed_on-fits rows [] taken at w reply room r = λ z o. omega (arith, o.1)
fed_on-fits rows (b ∷ bs) taken at w reply room r =
    choose-by (λ (h : Hosted). h.number ≡ 0 → ¬ Over rows w (b ∷ bs) at room) (leb (at + length (answer_to b w)) (length reply))
    (λ t z o.
    let fit : at + length (answer_to b w) ≤ length reply = leb-true _ _ t in
    let long = length-written reply at (answer_to b w) fit in
    by fit (fed_on-fits rows bs (taken + 1) (at + length (answer_to b w)) (stepped rows b w) (written reply at (answer_to b w)) room (long ∙ r) z) o.0 o.1 o.2)
    (λ t z. absurd (omega arith))
  where
    by : at + length (answer_to b w) ≤ length reply → ¬ Over rows (stepped rows b w) bs (at + length (answer_to b w)) room → (i : ℕ) → i < length (b ∷ bs)
        → ¬ (room < at + (sent rows (take i (b ∷ bs)) w + length (answer_to (get_or (b ∷ bs) i 0) (run (stepped rows) (take i (b ∷ bs)) w))))
    by fit n zero l o = omega arith
    by fit n (suc i) l o = n (i, omega arith, omega arith)

pub host-chosen : (rows : ℕ) (w : World) (bytes reply : List ℕ) → Chosen (host_table rows w bytes reply) (fed rows w bytes reply).number
unfolding fed host_refusal first_refusal Over
host-chosen rows w bytes reply = go (is_sized rows w.chars w.attrs) (is_good rows w.state) refl refl
  where
    by : ((fed_on rows bytes 0 0 w reply).number ≡ 0) ⊎ ((fed_on rows bytes 0 0 w reply).number ≡ 7)
        → Chosen ((7 for ShortOfRoom rows w bytes reply) ∷ []) (fed_on rows bytes 0 0 w reply).number
    by (inl z) = passes (λ s. fed_on-fits rows bytes 0 0 w reply (length reply) refl z (s.0, s.1, omega (arith, s.2))) (subst (Chosen []) (sym z) none)
    by (inr z) = let o = fed_on-over rows bytes 0 0 w reply (length reply) refl z in applies (o.0, o.1, omega (arith, o.2)) z

    go : (s g : Bool) → is_sized rows w.chars w.attrs ≡ s → is_good rows w.state ≡ g
        → Chosen (host_table rows w bytes reply)
        (cond (eqb (cond (not s) 1 (cond (not g) 2 0)) 0) (fed_on rows bytes 0 0 w reply) (hosted (cond (not s) 1 (cond (not g) 2 0)) 0 0 w reply)).number
    go false g p q = applies (wrong_size rows w.chars w.attrs p) refl
    go true false p q = passes (right-size rows w.chars w.attrs p) (applies (not_good rows w.state q) refl)
    go true true p q = passes (right-size rows w.chars w.attrs p) (passes (is-good rows w.state q) (by (fed_on-number rows bytes 0 0 w reply)))

-- ---- the promise
module _ (rows : ℕ) where
  pub fresh_numbers : FreshNumbers rows
  fresh_numbers chars attrs = given (fresh-chosen rows chars attrs) refl

  pub key_numbers : KeyNumbers rows
  key_numbers w reply code = given (key-chosen rows w reply code) refl

  pub post_numbers : PostNumbers rows
  post_numbers w field text = given (post-chosen rows w field text) refl

  pub post_as_numbers : PostAsNumbers rows
  post_as_numbers w owners reader field text = given (post-as-chosen rows w owners reader field text) refl

  pub read_back_numbers : ReadBackNumbers rows
  read_back_numbers w owners reader field out = given (read-back-chosen rows w owners reader field out) refl

  pub host_numbers : HostNumbers rows
  host_numbers w bytes reply = given (host-chosen rows w bytes reply) refl

  pub report_numbers : ReportNumbers rows
  report_numbers t = given (report-chosen rows t) refl
