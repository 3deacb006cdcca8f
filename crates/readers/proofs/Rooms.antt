-- What a reading back answers and writes turns on the room of its buffer alone, not on what the buffer held. Assumes nothing.
use Prim.Native.Nat.{ℕ, ◌+◌}
use mathlib.Core.Path.{◌≡◌, refl, sym, ap, ◌∙◌}
use mathlib.Core.List.{List}
use native.Mathlib.Omega.{arith}
use lib.ListN.{length, take}
use lib.Dec.{eqb}
use Rattle.cells.specs.Memory.{written}
use Rattle.cells.proofs.Choices.{choose-both}
use Rattle.cells.proofs.Splice.{take-written}
use Rattle.fields.specs.Fields.{marks, nth_field}
use Rattle.terminal.specs.State.{World}
use Rattle.readers.specs.Owners.{text_in_field, read_refusal, Read, delivered, read_back_of}

-- the bytes that are written are the text
first-bytes : (out text : List ℕ) → take (length text) (written out 0 text) ≡ text
first-bytes out text = let z : 0 + length text ≡ length text = omega arith in rw z at (take-written out 0 text (omega arith))

pub read-room : (rows : ℕ) (w : World) (owners : List ℕ) (reader field : ℕ) (out other : List ℕ) → length out ≡ length other
    → delivered (read_back_of rows w owners reader field out) ≡ delivered (read_back_of rows w owners reader field other)
unfolding read_back_of
read-room rows w owners reader field out other e =
    let text = text_in_field w (nth_field (marks w.attrs) field) in
    rw (← e)
    (choose-both (λ (a b : Read). delivered a ≡ delivered b) (eqb (read_refusal rows w owners reader field (length out)) 0)
    (λ _. ap (λ (l : List ℕ). record { number = 0; written = length text; out = l }) (first-bytes out text ∙ sym (first-bytes other text)))
    (λ _. refl))
