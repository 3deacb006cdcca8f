-- Only proofs and inner contracts need this: the kind of a cell from the kind of the cell before it, for loops that walk along the cells.
-- `kind-step` (proofs/Kind.antt) is the law that it is the kind of `Fields.antt`. Assumes nothing.
use Rattle.std.specs.Prelude.{ℕ, ◌%◌, cond, eqb}
use Rattle.fields.specs.Fields.{is_in}

-- the kind of cell i, whose mark is m: its own mark 1 to 5, or the kind of the cell before it in its row, 0 where there is none
abbrev pub kind_after : ℕ → ℕ → ℕ → ℕ
kind_after i before m = cond (is_in 5 m) m (cond (eqb (i % 80) 0) 0 before)
