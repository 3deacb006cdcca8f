-- The keys by name and their codes: each is listed. Assumes nothing.
use Prim.Native.Nat.{ℕ, ◌%◌}
use mathlib.Core.Path.{◌≡◌, refl}
use mathlib.Core.Bool.{Bool, true, false, not, and-eq-true_iff}
use native.Mathlib.Omega.{arith}
use lib.Dec.{leb, eqb}
use borrow.Author.Tests.{leb-true}
use Rattle.std.specs.Prelude.{Result, Ok, Err, is_ok}
use Rattle.cells.specs.Range.{within}
use Rattle.reading.specs.Action as Action
use Rattle.key.specs.declared.codes.Unlisted.{Unlisted}
use Rattle.key.specs.declared.codes.Key.{Key}
use Rattle.key.specs.declared.codes.Key.TheVariants.{Text, Up, Down, Right, Left, Home, HomeDown, Tab, BackTab, ClearDisplay, ClearLine, Insert, DeleteChar, Column0, RollUp, RollDown, NextPage, PrevPage, Enter}
use Rattle.key.specs.Keys.{key_action}
use Rattle.key.specs.Codes.{code_of, Sendable, Decodes}

-- a text key's code is a byte
pub text-byte : (code : ℕ) → within 32 126 code ≡ true → code % 256 ≡ code
text-byte code e = omega (arith, leb-true code 126 ((and-eq-true_iff (leb 32 code) _).0 e).1)

-- what holds of each key by its name holds of any
pub by-name :
    (P : Key → Type 0) →
    P Up → P Down → P Right → P Left → P Home → P HomeDown → P Tab → P BackTab → P ClearDisplay → P ClearLine → P Insert → P DeleteChar → P Column0
    → P RollUp → P RollDown → P NextPage → P PrevPage → P Enter → ((v : ℕ) → P (Text v)) → (key : Key) → P key
by-name P a b c d e f g h i j k l m n o p q r t (Text v) = t v
by-name P a b c d e f g h i j k l m n o p q r t Up = a
by-name P a b c d e f g h i j k l m n o p q r t Down = b
by-name P a b c d e f g h i j k l m n o p q r t Right = c
by-name P a b c d e f g h i j k l m n o p q r t Left = d
by-name P a b c d e f g h i j k l m n o p q r t Home = e
by-name P a b c d e f g h i j k l m n o p q r t HomeDown = f
by-name P a b c d e f g h i j k l m n o p q r t Tab = g
by-name P a b c d e f g h i j k l m n o p q r t BackTab = h
by-name P a b c d e f g h i j k l m n o p q r t ClearDisplay = i
by-name P a b c d e f g h i j k l m n o p q r t ClearLine = j
by-name P a b c d e f g h i j k l m n o p q r t Insert = k
by-name P a b c d e f g h i j k l m n o p q r t DeleteChar = l
by-name P a b c d e f g h i j k l m n o p q r t Column0 = m
by-name P a b c d e f g h i j k l m n o p q r t RollUp = n
by-name P a b c d e f g h i j k l m n o p q r t RollDown = o
by-name P a b c d e f g h i j k l m n o p q r t NextPage = p
by-name P a b c d e f g h i j k l m n o p q r t PrevPage = q
by-name P a b c d e f g h i j k l m n o p q r t Enter = r

-- every key is listed
pub acts : (key : Key) → Sendable key → (insert : Bool) → eqb (key_action (code_of key) insert) Action.rest ≡ false
unfolding key_action
acts key s true = by-name (λ k. Sendable k → eqb (key_action (code_of k) true) Action.rest ≡ false)
    (λ _. refl) (λ _. refl) (λ _. refl) (λ _. refl) (λ _. refl) (λ _. refl) (λ _. refl) (λ _. refl) (λ _. refl) (λ _. refl) (λ _. refl) (λ _. refl) (λ _. refl)
    (λ _. refl) (λ _. refl) (λ _. refl) (λ _. refl) (λ _. refl) (λ v t. rw (t v refl)) key s
acts key s false = by-name (λ k. Sendable k → eqb (key_action (code_of k) false) Action.rest ≡ false)
    (λ _. refl) (λ _. refl) (λ _. refl) (λ _. refl) (λ _. refl) (λ _. refl) (λ _. refl) (λ _. refl) (λ _. refl) (λ _. refl) (λ _. refl) (λ _. refl) (λ _. refl)
    (λ _. refl) (λ _. refl) (λ _. refl) (λ _. refl) (λ _. refl) (λ v t. rw (t v refl)) key s

-- so a code is listed where it has a key
pub listed-by : (code : ℕ) (r : Result Key Unlisted) → Decodes code r → (insert : Bool) → eqb (key_action code insert) Action.rest ≡ not (is_ok r)
listed-by code (Ok key) d insert = rw d.0 at (acts key d.1 insert)
listed-by code (Err _) d insert = rw (d insert) refl
