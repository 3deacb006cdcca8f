-- Noting keeps a sound world sound; where the memory stays, the rows stay; a set of rows joined to the state's is noted. Assumes nothing.
use Prim.Native.Nat.{ℕ}
use mathlib.Core.Path.{◌≡◌, refl, sym, ap, ap₂, ◌∙◌}
use mathlib.Core.Bool.{Bool, true, false, cond}
use mathlib.Core.List.{List}
use lib.ListN.{length, replicate}
use Rattle.changes.specs.declared.Changes.{Changes}
use Rattle.changes.specs.Sets.{set_of, rows_of, either}
use Rattle.changes.specs.Differing.{differing_both}
use Rattle.changes.proofs.Sets.{set-rows, set-good, length-rows, length-either, either-none}
use Rattle.changes.proofs.Differing.{differing_both-none, length-differing_both}
use Rattle.terminal.specs.declared.Terminal.{Terminal}
use Rattle.terminal.specs.State.{World, stated, flagged, Good, Sound}
use Rattle.terminal.specs.Noted.{differing_rows, noted}

pub length-differing_rows : (rows : ℕ) (v w : World) → length (differing_rows rows v w) ≡ rows
unfolding differing_rows
length-differing_rows rows v w = length-differing_both rows v.chars v.attrs w.chars w.attrs

pub good-flagged : {rows : ℕ} {t : Terminal} → Good rows t → (l : List Bool) → length l ≡ rows → Good rows (flagged t (set_of l))
good-flagged g l e =
    record { place = g.place; pending_in = g.pending_in; reading_in = g.reading_in; number_in = g.number_in; changes_in = set-good l e }

-- the rows of one world and those in which it differs from another
pub noted-long : (rows : ℕ) (v w : World) → length (either (rows_of rows v.state.changes) (differing_rows rows v w)) ≡ rows
noted-long rows v w =
    length-either (rows_of rows v.state.changes) (differing_rows rows v w) (length-rows rows v.state.changes) (length-differing_rows rows v w)

pub noted-sound : {rows : ℕ} (v : World) {w : World} → Sound rows w → Sound rows (noted rows v w)
noted-sound {rows} v {w} s =
    record { few = s.few; chars_long = s.chars_long; attrs_long = s.attrs_long; good = good-flagged s.good _ (noted-long rows v w) }

-- where the memory stays, the rows stay
pub noted-none : {rows : ℕ} (v w : World) → Good rows v.state → w.chars ≡ v.chars → w.attrs ≡ v.attrs
    → noted rows v w ≡ stated w (flagged w.state v.state.changes)
unfolding differing_rows
noted-none {rows} v w g p q =
    let e = ap₂ (differing_both rows v.chars v.attrs) p q ∙ differing_both-none rows v.chars v.attrs in
    ap (λ (c : Changes). stated w (flagged w.state c))
    (ap (λ (l : List Bool). set_of (either (rows_of rows v.state.changes) l)) e
    ∙ ap set_of (either-none (rows_of rows v.state.changes) (length-rows rows v.state.changes))
    ∙ sym (set-rows rows v.state.changes g.changes_in))

-- the rows in which two worlds differ, joined to those of the first
pub noted-join : {rows : ℕ} (v : World) {u w : World} {found joined : Changes} → Good rows v.state → u ≡ w → found ≡ set_of (differing_rows rows v w)
    → ((l m : List Bool) → v.state.changes ≡ set_of l → found ≡ set_of m → joined ≡ set_of (either l m)) → stated u (flagged u.state joined) ≡ noted rows v w
noted-join {rows} v {u} {w} g e f j =
    ap₂ (λ (o : World) (c : Changes). stated o (flagged o.state c)) e
    (j (rows_of rows v.state.changes) (differing_rows rows v w) (set-rows rows v.state.changes g.changes_in) f)

-- the rows in which a world differs from itself are none
pub differing_rows-none : (rows : ℕ) (v : World) → differing_rows rows v v ≡ replicate rows false
unfolding differing_rows
differing_rows-none rows v = differing_both-none rows v.chars v.attrs

-- an edit that is made or not, by a test, and its rows joined to those of the state
pub noted-if : {rows : ℕ} (b : Bool) (v w : World) {u : World} {found joined : Changes} → (b ≡ true → Good rows v.state) → u ≡ cond b w v
    → found ≡ set_of (differing_rows rows v u)
    → ((l m : List Bool) → v.state.changes ≡ set_of l → found ≡ set_of m → joined ≡ set_of (either l m))
    → ((n : ℕ) → found ≡ set_of (replicate n false) → joined ≡ v.state.changes) → stated u (flagged u.state joined) ≡ cond b (noted rows v w) v
noted-if {rows} true v w g e f j k = noted-join v (g refl) e (f ∙ ap (λ (x : World). set_of (differing_rows rows v x)) e) j
noted-if {rows} false v w g e f j k =
    ap₂ (λ (o : World) (c : Changes). stated o (flagged o.state c)) e
    (k rows (f ∙ ap (λ (x : World). set_of (differing_rows rows v x)) e ∙ ap set_of (differing_rows-none rows v)))
