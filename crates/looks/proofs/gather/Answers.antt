-- `looks::gather` meets its contract: the set has the rows from r on of each list that has the test's answers. Assumes nothing.
use Prim.Native.Nat.{ℕ, suc, ◌+◌, ◌-◌, ◌≤◌, ◌<◌}
use mathlib.Core.Path.{◌≡◌, sym, ap, ap₂, ◌∙◌}
use mathlib.Core.Bool.{Bool, false}
use mathlib.Core.List.{List, ◌∷◌}
use native.Mathlib.Omega.{arith}
use lib.ListN.{length, get_or, drop, length-drop, drop_of_length-le}
use lib.Seq.{drop-cons}
use Rattle.changes.specs.declared.Changes.{Changes}
use Rattle.changes.specs.Sets.{set_of}
use Rattle.looks.proofs.gather.Goals as goal

-- a row more in front
front : (s : List Bool) (q r : ℕ) {t u : Changes} {on : Bool} → r ≡ q + 1 → q < length s → length s ≤ 96 → t ≡ set_of (drop r s) → ((l : List Bool) → length l < 96 → t ≡ set_of l → u ≡ set_of (on ∷ l)) → on ≡ get_or s q false → u ≡ set_of (drop q s)
front s q r {on = on} e h b told more o =
    let k : length (drop r s) < 96 = simp length-drop (omega arith) in
    let j : r ≡ suc q = omega arith in
    more (drop r s) k told ∙ ap₂ (λ (b : Bool) (i : ℕ). set_of (b ∷ drop i s)) o j ∙ ap set_of (sym (drop-cons s q false h))

pub loop-r-init : goal.loop-r-init
loop-r-init g c = (omega arith, λ s m h. c.none-found.ensures 0 ∙ ap set_of (sym (drop_of_length-le s {i = c.args.rows} (omega arith))))

pub loop-r-preserved : goal.loop-r-preserved
loop-r-preserved g c =
    let r = c.loop-r.r in
    (omega arith, λ s m h. front s (r - 1) r (omega arith) (omega arith) (omega arith) (c.loop-r.invariant.1 s m h) c.behind-found.ensures (h (r - 1) c.differs.result (omega arith) c.differs.ensures))

pub returns : goal.returns
returns g c = λ s m h. let e : c.loop-r.r ≡ 0 = omega arith in c.loop-r.invariant.1 s m h ∙ ap (λ (i : ℕ). set_of (drop i s)) e
