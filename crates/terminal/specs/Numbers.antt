-- The numbers of answers (document 01, the table of 'Keys and posts'): 0 done, else the number of the reason for the refusal. Assumes nothing.
use Rattle.std.specs.Prelude.{ℕ, Result, Ok, Err}
use Rattle.terminal.specs.declared.refusal.Refusal.{Refusal}
use Rattle.terminal.specs.declared.refusal.Refusal.TheVariants.{Size, State, Key, Barred, Target, Character, Room, Format, Field, Length, Form, Part, Owner}

abbrev pub number_of : Refusal → ℕ
number_of Size = 1
number_of State = 2
number_of Key = 3
number_of Barred = 4
number_of Target = 5
number_of Character = 6
number_of Room = 7
number_of Format = 8
number_of Field = 9
number_of Length = 10
number_of Form = 11
number_of Part = 12
number_of Owner = 13

-- of what a test or a call gives: 0 where it is done
abbrev pub answered : Result Unit Refusal → ℕ
answered (Ok _) = 0
answered (Err refusal) = number_of refusal
