-- `noting::look_stamp` meets its contract, by the test of `is_stamp`. Assumes nothing.
use mathlib.Core.Path.{sym, ◌∙◌}
use native.Mathlib.Omega.{arith}
use Rattle.changes.proofs.Differing.{attrs-row, no_row}
use Rattle.cursor.proofs.Place.{row_in}
use Rattle.noting.proofs.Looking.{stamped-beside}
use Rattle.reading.specs.Action.{number_of}
use Rattle.noting.proofs.look_stamp.Goals as goal

pub returns-then-is_stamp : goal.returns-then-is_stamp
returns-then-is_stamp c = let a = c.args in let w = c.requires in let x = a.chars.now in let y = a.attrs.now in let r = row_in w.place in rw (sym c.is_stamp.ensures ∙ c.if-is_stamp.true, ← c.cell-k.ensures) (attrs-row (c.one.ensures a.rows r) x (stamped-beside a.rows a.c.row y r w.attrs_long a.format c.cell-k.result (omega (arith, w.place, c.cell-k.ensures)) (omega (arith, w.place, c.cell-k.ensures)) (number_of a.a) a.v) c.stamp_differs.ensures)

pub returns : goal.returns
returns c = let a = c.args in let w = c.requires in let x = a.chars.now in let y = a.attrs.now in rw (sym c.is_stamp.ensures ∙ c.if-is_stamp.false) (no_row a.rows x y (c.none.ensures a.rows))
