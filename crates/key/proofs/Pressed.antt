-- What a key leaves, from the cursor after it and the rows that it changes. Assumes nothing.
use Prim.Native.Nat.{ℕ, ◌%◌, ◌<◌}
use mathlib.Core.Path.{◌≡◌, refl, sym, ap, ap₂, ◌∙◌}
use mathlib.Core.Logic.{inl, inr}
use mathlib.Core.Bool.{Bool, true, false, cond, and-eq-true_iff}
use mathlib.Core.List.{List}
use native.Mathlib.Omega.{arith}
use lib.ListN.{replicate}
use lib.Dec.{leb, eqb}
use borrow.Author.Tests.{eq-eqb, ne_eqb, leb-true}
use Rattle.cells.specs.Range.{within}
use Rattle.cells.proofs.Patch.{eq-or}
use Rattle.cells.proofs.Search.{not-both}
use Rattle.changes.specs.declared.Changes.{Changes}
use Rattle.changes.specs.Sets.{set_of, either}
use Rattle.changes.specs.Differing.{differing_both}
use Rattle.changes.proofs.Differing.{true-or, differing_both-none}
use Rattle.cursor.specs.declared.Cursor.{Cursor}
use Rattle.screen.specs.Page.{Page, page}
use Rattle.terminal.specs.declared.Terminal.{Terminal}
use Rattle.terminal.specs.State.{World, world, stated, placed, flagged, Sound}
use Rattle.terminal.specs.Acts.{switched, steered, stamps, acted}
use Rattle.terminal.specs.Noted.{differing_rows, noted}
use Rattle.terminal.proofs.Noted.{noted-if}
use Rattle.reading.specs.Action as Action
use Rattle.reading.proofs.Rules.{either as cases}
use Rattle.key.specs.Keys.{key_action}
use Rattle.key.specs.Pressed.{pressed, edits}

-- ---- a text key's code is no other key's, and not 0
pub text-not : (k code : ℕ) → 126 < k → within 32 126 code ≡ true → eqb code k ≡ false
text-not k code h e = let l = leb-true code 126 ((and-eq-true_iff (leb 32 code) _).0 e).1 in ne_eqb code k (λ z. omega arith)

pub text-not-zero : (code : ℕ) → within 32 126 code ≡ true → code ≡ 0 → ⊥
text-not-zero code e z = let l = leb-true 32 code ((and-eq-true_iff (leb 32 code) _).0 e).0 in omega arith

-- ---- the state with the cursor that a move gives, and with the page that an edit gives
pub gone : (t : Terminal) (chars attrs : List ℕ) {c r : Cursor} → r ≡ c → world (placed t r) chars attrs ≡ world (placed t c) chars attrs
gone t chars attrs e = ap (λ (c : Cursor). world (placed t c) chars attrs) e

module _ (t : Terminal) where
  -- the page over the other parts of the state
  abbrev over : Page → World
  over p = world (placed t p.cursor) p.chars p.attrs

  pub edited : {u : Terminal} {chars attrs : List ℕ} {p : Page} → world u chars attrs ≡ over p → over (page u.cursor chars attrs) ≡ over p
  edited e = ap (λ (v : World). world (placed t v.state.cursor) v.chars v.attrs) e

  pub typed_at : {c : Cursor} {chars attrs : List ℕ} {p : Page} → page c chars attrs ≡ p → over (page c chars attrs) ≡ over p
  typed_at e = ap over e

-- ---- a code that is not listed does nothing
pub nothing-done : (rows : ℕ) (w : World) (code : ℕ) → eqb code 266 ≡ false → eqb code 273 ≡ false → key_action code w.state.insert ≡ Action.rest → world (pressed code w.state.cursor w.state) w.chars w.attrs ≡ acted rows (key_action code w.state.insert) (code % 256) w
unfolding pressed acted steered switched stamps
nothing-done rows w code f g e = rw (f, g, e)

-- ---- 266 changes insert mode over
pub insert-over : (rows v : ℕ) (w : World) → world (pressed 266 w.state.cursor w.state) w.chars w.attrs ≡ acted rows (key_action 266 w.state.insert) v w
unfolding pressed key_action acted steered switched stamps
insert-over rows v w = go w.state.insert refl
  where
    go : (b : Bool) → w.state.insert ≡ b → world (pressed 266 w.state.cursor w.state) w.chars w.attrs ≡ acted rows (key_action 266 w.state.insert) v w
    go true e = rw e
    go false e = rw e

-- ---- code 0 does nothing
unlisted-leaves : (rows : ℕ) (w : World) → acted rows (key_action 0 w.state.insert) (0 % 256) w ≡ w
unfolding key_action acted steered switched stamps
unlisted-leaves rows w = refl

-- ---- a key's rows joined to those of the state
abbrev struck : ℕ → ℕ → World → World
struck rows code w = acted rows (key_action code w.state.insert) (code % 256) w

pub pressed-left : (rows code : ℕ) (w : World) {u : World} {found joined : Changes} → ((code ≡ 0 → ⊥) → Sound rows w)
    → u ≡ struck rows code w → found ≡ set_of (differing_rows rows w (struck rows code w))
    → ((l m : List Bool) → w.state.changes ≡ set_of l → found ≡ set_of m → joined ≡ set_of (either l m))
    → ((n : ℕ) → found ≡ set_of (replicate n false) → joined ≡ w.state.changes)
    → stated u (flagged u.state joined) ≡ cond (eqb code 0) w (noted rows w (struck rows code w))
pressed-left rows code w {u} {found} s e f j k =
    let g : found ≡ set_of (differing_rows rows w u) = f ∙ ap (λ (x : World). set_of (differing_rows rows w x)) (sym e) in
    elim (eq-or code 0) [
      | inl z ↦ rw (eq-eqb code 0 z) (noted-if false w (struck rows code w) (λ h. absurd (not-both h refl)) (e ∙ ap (λ (c : ℕ). struck rows c w) z ∙ unlisted-leaves rows w) g j k)
      | inr z ↦ rw (ne_eqb code 0 z) (noted-if true w (struck rows code w) (λ _. (s z).good) e g j k)
    ]

-- ---- the keys that write, and those that leave the memory
pub edits-action : (code : ℕ) (insert : Bool) → (edits code ≡ Action.rest → ⊥) → edits code ≡ key_action code insert
unfolding edits key_action
edits-action code insert h = elim (true-or (within 32 126 code)) [
  | inl t ↦ rw t
  | inr f ↦ elim (eq-or code 264) [
    | inl z ↦ rw z
    | inr p ↦ elim (eq-or code 265) [
      | inl z ↦ rw z
      | inr q ↦ elim (eq-or code 267) [
        | inl z ↦ rw z
        | inr s ↦ absurd (h (rw (f, ne_eqb code 264 p, ne_eqb code 265 q, ne_eqb code 267 s)))
      ]
    ]
  ]
]

pub edits-not-zero : (code : ℕ) → (edits code ≡ Action.rest → ⊥) → code ≡ 0 → ⊥
unfolding edits
edits-not-zero code h z = h (rw z)

record Leaves (rows v : ℕ) (w : World) (a : ℕ) : Type 0 where
  chars_stay : (acted rows a v w).chars ≡ w.chars
  attrs_stay : (acted rows a v w).attrs ≡ w.attrs

module _ (rows code v : ℕ) (w : World) where
  leaves : (t d l x : Bool) → within 32 126 code ≡ t → eqb code 264 ≡ d → eqb code 265 ≡ l → eqb code 267 ≡ x
      → cond t Action.text (cond d Action.clear_display (cond l Action.clear_line (cond x Action.delete_char Action.rest))) ≡ Action.rest
      → Leaves rows v w (key_action code w.state.insert)
  unfolding key_action acted steered switched stamps
  leaves true d l x p q r s e = absurd (omega arith)
  leaves false true l x p q r s e = absurd (omega arith)
  leaves false false true x p q r s e = absurd (omega arith)
  leaves false false false true p q r s e = absurd (omega arith)
  leaves false false false false p q r s e =
      let P = Leaves rows v w in
      let still : (a : ℕ) → (acted rows a v w).chars ≡ w.chars → (acted rows a v w).attrs ≡ w.attrs → P a = λ a m n. record { chars_stay = m; attrs_stay = n } in
      rw (p, q, r, s)
      (cases P (eqb code 256) (still Action.up refl refl)
      (cases P (eqb code 257) (still Action.down refl refl)
      (cases P (eqb code 258) (still Action.right refl refl)
      (cases P (eqb code 259) (still Action.left refl refl)
      (cases P (eqb code 260) (still Action.home refl refl)
      (cases P (eqb code 261) (still Action.home_down refl refl)
      (cases P (eqb code 262) (still Action.tab refl refl)
      (cases P (eqb code 263) (still Action.back_tab refl refl)
      (cases P (eqb code 266)
      (cases P w.state.insert (still Action.insert_off refl refl) (still Action.insert_on refl refl))
      (cases P (eqb code 268) (still Action.column0 refl refl)
      (cases P (eqb code 269) (still Action.roll_up refl refl)
      (cases P (eqb code 270) (still Action.roll_down refl refl)
      (cases P (eqb code 271) (still Action.next_page refl refl)
      (cases P (eqb code 272) (still Action.prev_page refl refl)
      (cases P (eqb code 273) (still Action.ask_block refl refl) (still Action.rest refl refl))))))))))))))))

  pub leaves-rows : {found : Changes} → found ≡ set_of (replicate rows false) → edits code ≡ Action.rest
      → found ≡ set_of (differing_rows rows w (acted rows (key_action code w.state.insert) v w))
  unfolding differing_rows edits
  leaves-rows e o =
      let s = leaves (within 32 126 code) (eqb code 264) (eqb code 265) (eqb code 267) refl refl refl refl o in
      e ∙ ap set_of (sym (ap₂ (differing_both rows w.chars w.attrs) s.chars_stay s.attrs_stay ∙ differing_both-none rows w.chars w.attrs))
