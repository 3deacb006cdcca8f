-- `inputs::fill`: a read that gave bytes puts the file's next ones behind those that were read.
use Rattle.std.proofs.Common.{◌≡◌, ℕ, ◌+◌, ◌-◌, ◌≤◌, List, ◌++◌, rules, length, take, sym, ap, ◌∙◌, subst, length-take-le}
use Rattle.std.proofs.lemmas.List.{take-append-le}
use Rattle.std.proofs.Math.Seq.{take-append-add}
use Rattle.std.specs.Io.KnownBytes.{Consumes}
use Rattle.std.proofs.KnownBytes.{Consumes-trans}
use borrow.Rule.Slice.PartMut.{put_mid, post_of}
use Rattle.inputs.proofs.fill.Goals as goal

-- what stands at the start, behind which `ys` was put
front : (a k n : ℕ) (xs ys : List ℕ) → a ≤ length xs → n ≤ length ys → take (a + n) (put_mid a k xs ys) ≡ take a xs ++ take n ys
front a k n xs ys within fits =
    let behind = ys ++ post_of a k xs in
    ap (λ m. take (m + n) (take a xs ++ behind)) (sym (length-take-le a xs within)) ∙ take-append-add (take a xs) behind n ∙ ap (λ l. take a xs ++ l) (take-append-le n ys (post_of a k xs) fits)

pub loop-size-preserved : goal.loop-size-preserved
loop-size-preserved g c =
    let from = c.loop-size.size in
    let joined = front from (length c.loop-size.bytes - from) c.in-Ok.more c.loop-size.bytes c.read.new.buf c.loop-size.invariant.0 c.in-Ok.ensures.bound.0 in
    (search rules, subst (Consumes _ _) (sym joined) (Consumes-trans _ _ _ _ _ c.loop-size.invariant.1 c.in-Ok.ensures.bytes.0))
