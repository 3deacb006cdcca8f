-- `clearing::clear_rest` meets its contract: the cells before `i` are cleared. Assumes nothing.
use mathlib.Core.Path.{refl, ap}
use native.Mathlib.Omega.{arith}
use Rattle.cells.proofs.Patch.{none, stored, done-upto}
use Rattle.fields.specs.Fields.{marks, stripped}
use Rattle.fields.proofs.Fields.{field-ends}
use Rattle.clearing.proofs.clear_rest.Goals as goal

pub loop-i-init : goal.loop-i-init
loop-i-init c = (none refl, none refl)

pub clear_cell-requires : goal.clear_cell-requires
clear_cell-requires c =
    let f = field-ends (marks c.args.attrs.now) c.args.cell in
    let l = c.loop-i in
    (omega (arith, l.invariant.0.len, f.within, c.field_end-end.ensures), omega (arith, l.invariant.1.len, f.within, c.field_end-end.ensures))

pub loop-i-preserved : goal.loop-i-preserved
loop-i-preserved c =
    let f = field-ends (marks c.args.attrs.now) c.args.cell in
    let l = c.loop-i in
    let e = c.clear_cell.ensures in (
      stored e.0 l.invariant.0 (omega arith) (omega (arith, f.within, c.field_end-end.ensures)) refl refl,
      stored e.1 l.invariant.1 (omega arith) (omega (arith, f.within, c.field_end-end.ensures)) (ap stripped (l.invariant.1.high l.i (omega arith))) refl,
    )

pub returns : goal.returns
returns c =
    let f = field-ends (marks c.args.attrs.now) c.args.cell in
    let l = c.loop-i in
    (done-upto _ l.invariant.0 (omega (arith, f.past, c.field_end-end.ensures)), done-upto stripped l.invariant.1 (omega (arith, f.past, c.field_end-end.ensures)))
