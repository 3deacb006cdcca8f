-- A reader's post: with an owner table it is the post by one who owns the field or does not; done, it is the post that names no reader; refused, it leaves all. Assumes nothing.
use Prim.Native.Nat.{ℕ}
use mathlib.Core.Path.{◌≡◌, refl, sym, ap, ◌∙◌}
use mathlib.Core.Bool.{Bool, true, false, cond, ◌&&◌, ◌||◌, not, and-true, and-false, and-eq-true_iff}
use mathlib.Core.List.{List}
use native.Mathlib.Omega.{arith}
use lib.ListN.{get_or}
use lib.Dec.{eqb, ltb}
use borrow.Author.Tests.{eqb-true, ne_eqb, not-false}
use Rattle.std.specs.Prelude.{is_none}
use Rattle.cells.proofs.Choices.{choose-by}
use Rattle.fields.specs.Fields.{marks, nth_field}
use Rattle.terminal.specs.State.{World, is_good, is_sized, barred, Sound}
use Rattle.terminal.specs.Refusals.{first_refusal}
use Rattle.terminal.proofs.Refusals.{passed}
use Rattle.post.specs.Posts.{post_refusal, posted_to}
use Rattle.post.specs.Field.{refusal_if, posted_if}
use Rattle.post.proofs.Kept.{post-sound}
use Rattle.readers.specs.Owners.{is_table, owns, post_as_refusal, posted_as}

-- the byte of a field that a reader owns is the reader's number
pub owner-is : (owners : List ℕ) (reader field : ℕ) → owns owners reader field ≡ true → get_or owners field 0 ≡ reader
unfolding owns
owner-is owners reader field t =
    let a = (and-eq-true_iff (eqb reader 1 || eqb reader 2) (ltb field 256 && eqb (get_or owners field 0) reader)).0 t in
    eqb-true (get_or owners field 0) reader ((and-eq-true_iff (ltb field 256) (eqb (get_or owners field 0) reader)).0 a.1).1

module _ (rows : ℕ) (w : World) (owners : List ℕ) (reader field : ℕ) (text : List ℕ) where
  -- ---- by the owner table
  pub untabled : is_table owners ≡ false → record { number = 1; world = w } ≡ posted_as rows w owners reader field text
  unfolding posted_as post_as_refusal first_refusal
  untabled t = rw (t, and-false (is_sized rows w.chars w.attrs))

  pub tabled : is_table owners ≡ true → posted_if rows w (owns owners reader field) field text ≡ posted_as rows w owners reader field text
  unfolding posted_as post_as_refusal posted_if refusal_if
  tabled t = rw (t, and-true (is_sized rows w.chars w.attrs))

  -- ---- a reader's post that is done: it has an owner table, the reader owns the field, and where it names no reader it is done too
  pub record AsReady : Type 0 where
    pub table : is_table owners ≡ true
    pub own : owns owners reader field ≡ true
    pub unrefused : post_refusal rows w field text ≡ 0

  pub as-ready : (posted_as rows w owners reader field text).number ≡ 0 → AsReady
  unfolding posted_as post_as_refusal post_refusal first_refusal
  as-ready e =
      let s = passed (not (is_sized rows w.chars w.attrs && is_table owners)) (λ n. omega arith) e in
      let g = passed (not (is_good rows w.state)) (λ n. omega arith) s.1 in
      let b = passed (barred w.state) (λ n. omega arith) g.1 in
      let f = passed (not w.state.format) (λ n. omega arith) b.1 in
      let n = passed (is_none (nth_field (marks w.attrs) field)) (λ n. omega arith) f.1 in
      let o = passed (not (owns owners reader field)) (λ n. omega arith) n.1 in
      let a = (and-eq-true_iff (is_sized rows w.chars w.attrs) (is_table owners)).0 (not-false _ s.0) in
      record { table = a.1; own = not-false _ o.0; unrefused = rw (a.0, g.0, b.0, f.0, n.0) o.1 }

  -- done, it is the post that names no reader
  pub as-done : (posted_as rows w owners reader field text).number ≡ 0 → posted_as rows w owners reader field text ≡ posted_to rows w field text
  unfolding posted_as posted_to
  as-done e = rw (e, (as-ready e).unrefused)

  pub as-refused : ((posted_as rows w owners reader field text).number ≡ 0 → ⊥) → (posted_as rows w owners reader field text).world ≡ w
  unfolding posted_as
  as-refused n = rw (ne_eqb (post_as_refusal rows w owners reader field text) 0 n)

  -- so it leaves what that post leaves, or all as it was, by its number
  pub as-left : posted_as rows w owners reader field text
      ≡ record { number = post_as_refusal rows w owners reader field text; world = cond (eqb (post_as_refusal rows w owners reader field text) 0) (posted_to rows w field text).world w }
  unfolding posted_as posted_to
  as-left = go (eqb n 0) refl
    where
      n : ℕ
      n = post_as_refusal rows w owners reader field text

      v : World
      v = (posted_to rows w field text).world

      go : (b : Bool) → eqb n 0 ≡ b → posted_as rows w owners reader field text ≡ record { number = n; world = cond b v w }
      go true t = let e = eqb-true n 0 t in as-done e ∙ ap (λ (m : ℕ). record { number = m; world = v }) ((as-ready e).unrefused ∙ sym e)
      go false t = rw t

  -- what holds of the world after a post that names no reader, and of the one before it, holds of the one after a reader's post
  pub as_by : (P : World → Type 0) → P (posted_to rows w field text).world → P w → P (posted_as rows w owners reader field text).world
  as_by P done left = rw as-left (choose-by P (eqb (post_as_refusal rows w owners reader field text) 0) (λ _. done) (λ _. left))

-- a sound world stays sound
pub as-sound : {rows : ℕ} {w : World} → Sound rows w → (owners : List ℕ) (reader field : ℕ) (text : List ℕ) → Sound rows (posted_as rows w owners reader field text).world
as-sound {rows} {w} s owners reader field text = as_by rows w owners reader field text (Sound rows) (post-sound s text field) s
