-- A post changes characters in the field that it names alone, so no protected cell. Assumes nothing.
use Prim.Native.Nat.{ℕ, ◌≤◌}
use mathlib.Core.Logic.{inl, inr}
use mathlib.Core.Path.{◌≡◌, refl}
use mathlib.Core.Bool.{true}
use mathlib.Core.List.{List}
use native.Mathlib.Omega.{arith}
use Rattle.cells.proofs.Patch.{eq-or}
use Rattle.cells.proofs.Splice.{length-posted}
use Rattle.cells.proofs.Frame.{posted-out}
use Rattle.fields.specs.Fields.{marks, field_end, holds}
use Rattle.fields.proofs.Fields.{field-ends}
use Rattle.fields.proofs.Starts.{nth-open}
use Rattle.fields.proofs.Numbers.{holds-unprotected, field-holds}
use Rattle.screen.proofs.Frame.{Only, Rest, only-chars, only_none, only-more, rest_out, end_fits}
use Rattle.terminal.specs.State.{World, page_of}
use Rattle.terminal.specs.Protected.{Protects}
use Rattle.terminal.proofs.Kept.{whole}
use Rattle.terminal.proofs.Protected.{only-protects}
use Rattle.post.specs.Posts.{posted_at, posted_to}
use Rattle.post.proofs.Kept.{done, PostReady, post-ready, post-refused}

-- the cells that field n holds
abbrev pub Held : World → ℕ → ℕ → Type 0
Held w n j = holds (marks w.attrs) n j ≡ true

module _ {rows : ℕ} {w : World} {n : ℕ} {text : List ℕ} (r : PostReady rows w n text) where
  done-only : Only (Held w n) (page_of w) (page_of (done rows w text r.start).world)
  unfolding done posted_at
  done-only =
      let ms = marks w.attrs in
      let k = r.start in
      let p = whole r.sound in
      let o = nth-open ms n k r.found in
      let order : k ≤ field_end ms k = omega (arith, (field-ends ms k).past) in
      let fits = end_fits p k o.is_open in
      only-more {P = Rest ms k} (λ j i. field-holds ms n k j r.found i.from i.upto)
      (only-chars
      (record {
        len = length-posted w.chars k (field_end ms k) text order fits r.short;
        cell = λ j out. posted-out w.chars k (field_end ms k) text order fits r.short j (rest_out ms k j out);
      })
      refl)

module _ (rows : ℕ) (w : World) (n : ℕ) (text : List ℕ) (few : rows ≤ 96) where
  -- what stands outside the field stays
  pub posted-only : Only (Held w n) (page_of w) (page_of (posted_to rows w n text).world)
  posted-only = elim (eq-or (posted_to rows w n text).number 0) [
    | inl z ↦ (
        let r = post-ready rows w n text few z in
        let e : posted_to rows w n text ≡ done rows w text r.start = r.leaves in
        rw e (done-only r))
    | inr z ↦ rw (post-refused rows w n text z) (only_none refl refl)
  ]

  -- so no protected cell changes
  pub posted-protects : Protects w (posted_to rows w n text).world
  posted-protects = only-protects w (posted_to rows w n text).world (only-more (holds-unprotected (marks w.attrs) n) posted-only)
