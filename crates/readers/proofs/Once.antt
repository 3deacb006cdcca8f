-- Two results that meet the contract of `read_back` are equal. Of `post_as` that is the law of `post`, whose contract has the same form. Assumes nothing.
use mathlib.Core.Path.{◌≡◌, sym, ap, ◌∙◌}
use mathlib.Core.List.{List}
use Prim.Native.Nat.{ℕ}
use Rattle.readers.specs.declared.ReadAnswer.{ReadAnswer}
use Rattle.readers.specs.Owners.{Read, read_left}

pub read-once : {r q : ReadAnswer} {out out' : List ℕ} {b : Read} → read_left r out ≡ b → read_left q out' ≡ b → (r ≡ q) × (out ≡ out')
read-once x y = let e = x ∙ sym y in (ap (λ (b : Read). record { number = b.number; written = b.written }) e, ap (λ (b : Read). b.out) e)
