-- Session records (document 01, 'Session program'): what a record is, and what running one on a terminal answers and leaves. Assumes nothing.
use Rattle.std.specs.Prelude.{ℕ, zero, suc, ◌+◌, ◌*◌, Bool, true, cond, ◌&&◌, not, List, [], ◌∷◌, length, get_or, take, drop, replicate, leb, ltb, eqb}
use Rattle.std.proofs.Math.Seq.{slice}
use Rattle.terminal.specs.State.{World, world}
use Rattle.terminal.specs.Refusals.{◌when◌, first_refusal}
use Rattle.key.specs.Keys.{keyed}
use Rattle.post.specs.Posts.{posted_to}
use Rattle.streams.specs.Streams.{fed}
use Rattle.records.specs.declared.PartAnswer.{PartAnswer}
use Rattle.records.specs.declared.RanAnswer.{RanAnswer}

-- kind, length, a number of two bytes, low first, 80 data bytes
abbrev pub kind_of : List ℕ → ℕ
kind_of r = get_or r 0 0

abbrev pub length_of : List ℕ → ℕ
length_of r = get_or r 1 0

abbrev pub number_of : List ℕ → ℕ
number_of r = get_or r 2 0 + 256 * get_or r 3 0

abbrev pub data_of : List ℕ → List ℕ
data_of r = slice 4 (4 + length_of r) r

-- all bytes are 0
unfoldable pub zeros : List ℕ → Bool
zeros [] = true
zeros (b ∷ bs) = eqb b 0 && zeros bs

-- H (72) has number 0, K (75) length 0; P (80) has any field number
abbrev pub fits_kind : ℕ → ℕ → ℕ → Bool
fits_kind kind size number = cond (eqb kind 72) (eqb number 0) (cond (eqb kind 75) (eqb size 0) (eqb kind 80))

-- 84 bytes, a length of at most 80, a number and a length that fit the kind, and unused bytes 0
abbrev pub is_formed : List ℕ → Bool
is_formed r = eqb (length r) 84 && (leb (length_of r) 80 && (fits_kind (kind_of r) (length_of r) (number_of r) && zeros (drop (4 + length_of r) r)))

-- 12 for a part under 84 bytes, 11 for other forms; 0 for a record
unfoldable pub form_refusal : List ℕ → ℕ
form_refusal r = first_refusal ((12 when ltb (length r) 84) ∷ (11 when not (is_formed r)) ∷ [])

-- ---- one call

-- what a part of a record leaves: its answer, the next data byte, the reply bytes written, the terminal and the reply buffer
pub record Part : Type 0 where
  pub number : ℕ
  pub at : ℕ
  pub written : ℕ
  pub world : World
  pub reply : List ℕ

abbrev pub part : ℕ → ℕ → ℕ → World → List ℕ → Part
part number at written w reply = record { number = number; at = at; written = written; world = w; reply = reply }

abbrev pub part_left : PartAnswer → List ℕ → List ℕ → List ℕ → Part
part_left r chars attrs reply = part r.number r.at r.written (world r.state chars attrs) reply

-- the same with those bytes of the reply buffer alone that the call wrote
abbrev pub delivered : Part → Part
delivered p = part p.number p.at p.written p.world (take p.written p.reply)

-- H: the data bytes from byte `at` on, as far as the reply buffer goes
unfoldable pub host_part : ℕ → World → List ℕ → ℕ → List ℕ → Part
host_part rows w bytes at reply =
    let h = fed rows w (drop at bytes) reply in
    part h.number (at + h.taken) h.written h.world h.reply

unfoldable pub key_part : ℕ → World → ℕ → ℕ → List ℕ → Part
key_part rows w code at reply =
    let k = keyed rows w reply code in
    part k.number at k.written k.world k.reply

unfoldable pub post_part : ℕ → World → ℕ → List ℕ → ℕ → List ℕ → Part
post_part rows w field text at reply =
    let p = posted_to rows w field text in
    part p.number at 0 p.world reply

-- a record of another form does nothing
unfoldable pub record_part : ℕ → World → List ℕ → ℕ → List ℕ → Part
record_part rows w r at reply =
    let n = form_refusal r in
    cond (eqb n 0)
    (cond (eqb (kind_of r) 72) (host_part rows w (data_of r) at reply)
    (cond (eqb (kind_of r) 75) (key_part rows w (number_of r) at reply) (post_part rows w (number_of r) (data_of r) at reply)))
    (part n at 0 w reply)

-- ---- the whole record

-- what running a record leaves: its answer, the reply bytes added up, and the terminal
pub record Ran : Type 0 where
  pub answer : ℕ
  pub replied : ℕ
  pub world : World

abbrev pub ran : ℕ → ℕ → World → Ran
ran answer replied w = record { answer = answer; replied = replied; world = w }

abbrev pub ran_left : RanAnswer → List ℕ → List ℕ → Ran
ran_left r chars attrs = ran r.answer r.replied (world r.state chars attrs)

-- an emptied reply buffer, which holds the longest reply: two bytes a cell
abbrev pub emptied : ℕ → List ℕ
emptied rows = replicate (rows * 160) 0

-- goes on from data byte `at` with an emptied reply buffer until all is taken, which an answer other than 7 says (only H records answer 7 to an emptied
-- buffer); the answer is that of the last call, and reply bytes are added up
unfoldable pub ran_from : ℕ → ℕ → World → List ℕ → ℕ → ℕ → Ran
ran_from rows zero w r at sum = ran 7 sum w
ran_from rows (suc calls) w r at sum =
    let p = record_part rows w r at (emptied rows) in
    cond (eqb p.number 7) (ran_from rows calls p.world r p.at (sum + p.written)) (ran p.number (sum + p.written) p.world)

-- each call takes at least one of at most 80 bytes, so 81 calls are enough
unfoldable pub record_ran : ℕ → World → List ℕ → Ran
record_ran rows w r = ran_from rows 81 w r 0 0
