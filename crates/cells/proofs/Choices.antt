-- What a choice by a test has, and what two choices by one test share. Assumes nothing.
use mathlib.Core.Path.{◌≡◌, refl}
use mathlib.Core.Bool.{Bool, true, false, cond}

-- what a choice has by a test: the first arm where the test holds, the second where it fails
pub choose-by : {A : Type 0} (P : A → Type 0) (t : Bool) {x y : A} → (t ≡ true → P x) → (t ≡ false → P y) → P (cond t x y)
choose-by P true p q = p refl
choose-by P false p q = q refl

-- a choice between what is f of x and what is f of y is f of the choice between the two
pub choose-as : {A B : Type 0} (f : A → B) (t : Bool) {x y : A} {d e : B} → d ≡ f x → e ≡ f y → cond t d e ≡ f (cond t x y)
choose-as f true p q = p
choose-as f false p q = q

-- what two choices by one test share
pub choose-both : {A : Type 0} (R : A → A → Type 0) (t : Bool) {x y x' y' : A} → (t ≡ true → R x x') → (t ≡ false → R y y') → R (cond t x y) (cond t x' y')
choose-both R true p q = p refl
choose-both R false p q = q refl
