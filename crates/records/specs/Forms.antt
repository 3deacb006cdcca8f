-- Only an inner contract needs this: what a record says once it is read, or why it is none. Assumes nothing.
use Rattle.std.specs.Prelude.{ℕ, ◌≡◌, List, Result, Ok, Err}
use Rattle.terminal.specs.declared.refusal.Refusal.{Refusal}
use Rattle.terminal.specs.Numbers as numbers
use Rattle.records.specs.declared.Record.{Record}
use Rattle.records.specs.declared.Record.TheVariants.{Host, Key, Post}
use Rattle.records.specs.Records.{kind_of, number_of, data_of, form_refusal}

abbrev pub Says : List ℕ → Result Record Refusal → Type 0
Says r (Ok (Host text)) = (form_refusal r ≡ 0) × (kind_of r ≡ 72) × (text.now ≡ data_of r)
Says r (Ok (Key code)) = (form_refusal r ≡ 0) × (kind_of r ≡ 75) × (code ≡ number_of r)
Says r (Ok (Post field text)) = (form_refusal r ≡ 0) × (kind_of r ≡ 80) × (field ≡ number_of r) × (text.now ≡ data_of r)
Says r (Err refusal) = numbers.number_of refusal ≡ form_refusal r
