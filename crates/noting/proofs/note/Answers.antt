-- `noting::note` meets its contract: where all rows are set there is none to add, else the rows told are joined to the state's. Assumes nothing.
use mathlib.Core.Path.{refl}
use Rattle.changes.specs.Sets.{rows_of}
use Rattle.changes.proofs.Sets.{set-rows}
use Rattle.terminal.specs.State.{world}
use Rattle.terminal.specs.Acts.{acted}
use Rattle.terminal.specs.Noted.{differing_rows}
use Rattle.terminal.proofs.Noted.{length-differing_rows}
use Rattle.noting.proofs.Looking.{all_noted}
use Rattle.reading.specs.Action.{number_of}
use Rattle.noting.proofs.note.Goals as goal

pub returns-then-is_all : goal.returns-then-is_all
returns-then-is_all c =
    let a = c.args in
    let w = world a.t a.chars.now a.attrs.now in
    let v = acted a.rows (number_of a.a) a.v w in
    all_noted a.rows a.t.changes (differing_rows a.rows w v) (length-differing_rows a.rows w v) (c.is_all.ensures.0 c.if-is_all.true)

pub returns : goal.returns
returns c =
    let a = c.args in
    let w = world a.t a.chars.now a.attrs.now in
    c.join.ensures.0 (rows_of a.rows a.t.changes) (differing_rows a.rows w (acted a.rows (number_of a.a) a.v w)) (set-rows a.rows a.t.changes c.requires.good.changes_in)
    (c.look.ensures a.t refl refl refl)
