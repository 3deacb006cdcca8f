-- Only proofs and inner contracts need this: the keys by name and their codes. Assumes nothing.
use Rattle.std.specs.Prelude.{ℕ, ◌≡◌, Bool, true, Result, MatchResult}
use Rattle.cells.specs.Range.{within}
use Rattle.reading.specs.Action.{rest}
use Rattle.key.specs.declared.codes.Unlisted.{Unlisted}
use Rattle.key.specs.declared.codes.Key.{Key}
use Rattle.key.specs.declared.codes.Key.TheVariants.{Text, Up, Down, Right, Left, Home, HomeDown, Tab, BackTab, ClearDisplay, ClearLine, Insert, DeleteChar, Column0, RollUp, RollDown, NextPage, PrevPage, Enter}
use Rattle.key.specs.Keys.{key_action}

-- the code of a key
abbrev pub code_of : Key → ℕ
code_of (Text v) = v
code_of Up = 256
code_of Down = 257
code_of Right = 258
code_of Left = 259
code_of Home = 260
code_of HomeDown = 261
code_of Tab = 262
code_of BackTab = 263
code_of ClearDisplay = 264
code_of ClearLine = 265
code_of Insert = 266
code_of DeleteChar = 267
code_of Column0 = 268
code_of RollUp = 269
code_of RollDown = 270
code_of NextPage = 271
code_of PrevPage = 272
code_of Enter = 273

-- where it is text, its code is a text key's
abbrev pub Sendable : Key → Type 0
Sendable key = (v : ℕ) → key ≡ Text v → within 32 126 v ≡ true

-- the key with this code, or none for a code that is not listed
abbrev pub Decodes : ℕ → Result Key Unlisted → Type 0
Decodes code r = MatchResult r (λ key. (code_of key ≡ code) × Sendable key) (λ _. (insert : Bool) → key_action code insert ≡ rest)
