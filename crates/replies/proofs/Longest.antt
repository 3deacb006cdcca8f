-- The longest replies: a block transfer has at most two bytes for each cell, a cursor reply 12 bytes, the status reply 10. Assumes nothing.
use Prim.Native.Nat.{ℕ, zero, suc, ◌+◌, ◌-◌, ◌*◌, ◌≤◌, ◌<◌, min}
use mathlib.Core.Path.{◌≡◌, refl, ap, ◌∙◌}
use mathlib.Core.Bool.{Bool, true, false, cond}
use mathlib.Core.List.{List}
use native.Mathlib.Omega.{arith}
use lib.ListN.{length, get_or}
use Rattle.fields.specs.Fields.{mark_of, marks, is_in, field_end}
use Rattle.fields.proofs.Marks.{marked-inside, mark-at, length-marks}
use Rattle.fields.proofs.Fields.{field-ends}
use Rattle.replies.specs.Replies.{cursor_reply, digits, bit, status_reply, fields_reply, row_reply, block_reply}
use Rattle.replies.proofs.Blocks.{fields_left, left-all, left-none, left-size, left_other, row_in, row-length}

pub cursor-length : (col row letter : ℕ) → length (cursor_reply col row letter) ≡ 12
unfolding cursor_reply digits
cursor-length col row letter = refl

pub status-length : (format insert lock : Bool) → length (status_reply format insert lock) ≡ 10
unfolding status_reply
status-length format insert lock = refl

-- a field of at least one cell takes a separator and its cells
field-long : (some : Bool) (i end all after : ℕ) → i < all → i < end → after ≤ 1 + 2 * (all - end) → bit some + (min end all - i) + after ≤ 1 + (2 * (all - i) - cond some 0 1)
field-long true i end all after h l r = omega arith
field-long false i end all after h l r = omega arith

-- from cell i on: the last byte, and at most two bytes for each cell, one fewer where no field came before; `fuel` is at least the number of those cells
module _ (chars attrs : List ℕ) (alike : length chars ≡ length attrs) where
  fields-long : (fuel i : ℕ) (some : Bool) → length attrs ≤ i + fuel → length (fields_left chars attrs i some) ≤ 1 + (2 * (length chars - i) - cond some 0 1)
  fields-long zero i some e = omega (arith, ap length (left-none chars attrs i some (omega arith)))
  fields-long (suc fuel) i some e = go (is_in 4 (mark_of (get_or attrs i 0))) refl (fields-long fuel (i + 1) some (omega arith)) (omega (arith, fields-long fuel end true (omega (arith, past))))
    where
      end : ℕ
      end = field_end (marks attrs) i

      past : i < end
      past = (field-ends (marks attrs) i).past

      go : (a : Bool) → is_in 4 (mark_of (get_or attrs i 0)) ≡ a → length (fields_left chars attrs (i + 1) some) ≤ 1 + (2 * (length chars - (i + 1)) - cond some 0 1)
          → length (fields_left chars attrs end true) ≤ 1 + 2 * (length chars - end) → length (fields_left chars attrs i some) ≤ 1 + (2 * (length chars - i) - cond some 0 1)
      go true t next after =
          rw (left-size chars attrs i some t refl)
          (field-long some i end (length chars) (length (fields_left chars attrs end true)) (omega (arith, marked-inside 4 (marks attrs) i (ap (is_in 4) (mark-at attrs i) ∙ t), length-marks attrs)) past after)
      go false t next after = omega (arith, ap length (left_other chars attrs i some t))

  pub fields-longest : 1 ≤ length chars → length (fields_reply chars attrs) ≤ 2 * length chars
  fields-longest h = omega (arith, ap length (left-all chars attrs), fields-long (length attrs) 0 false (omega arith))

-- a block transfer
module _ (chars : List ℕ) (row : ℕ) (fits : row * 80 + 80 ≤ length chars) where
  pub row-longest : length (row_reply chars row) ≤ 81
  row-longest = omega (arith, row-length chars row fits refl, row_in chars row fits refl)

  pub block-longest : (format : Bool) (attrs : List ℕ) → length chars ≡ length attrs → length (block_reply format chars attrs row) ≤ 2 * length chars
  unfolding block_reply
  block-longest true attrs n = fields-longest chars attrs n (omega arith)
  block-longest false attrs n = omega (arith, row-longest)
