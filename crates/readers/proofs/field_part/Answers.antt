-- `field_part` meets its contract: the field lies in the memory. Assumes nothing.
use native.Mathlib.Omega.{arith}
use Rattle.readers.proofs.Readings.{ends_in, part-is}
use Rattle.readers.proofs.field_part.Goals as goal

pub slice_bounds-result-count : goal.slice_bounds-result-count
slice_bounds-result-count c = let a = c.args in omega (arith, (ends_in a.chars.now a.attrs.now a.k c.requires.0 c.requires.1).0)

pub slice_bounds-result-start : goal.slice_bounds-result-start
slice_bounds-result-start c = let a = c.args in omega (arith, (ends_in a.chars.now a.attrs.now a.k c.requires.0 c.requires.1).0)

pub slice_bounds-result-end : goal.slice_bounds-result-end
slice_bounds-result-end c = let a = c.args in omega (arith, (ends_in a.chars.now a.attrs.now a.k c.requires.0 c.requires.1).1)

pub returns : goal.returns
returns c =
    let a = c.args in
    part-is a.chars.now a.attrs.now a.k c.requires.0 c.requires.1 c.field_end-end.ensures
