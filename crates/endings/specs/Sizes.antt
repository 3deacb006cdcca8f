-- The two sizes of a terminal's memory.
use Rattle.std.specs.Prelude.{ℕ}
use Rattle.endings.specs.declared.Size.{Size}
use Rattle.endings.specs.declared.Size.TheVariants.{Rows48, Rows96}

-- the number of rows
abbrev pub size_rows : Size → ℕ
size_rows Rows48 = 48
size_rows Rows96 = 96
