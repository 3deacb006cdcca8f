-- A page: the cursor and the two memories. Assumes nothing.
use Rattle.std.specs.Prelude.{ℕ, List}
use Rattle.cursor.specs.declared.Cursor.{Cursor}
use Rattle.cursor.specs.Cursor.{cell_of}
use Rattle.fields.specs.Fields.{marks}

pub record Page : Type 0 where
  pub cursor : Cursor
  pub chars : List ℕ
  pub attrs : List ℕ

abbrev pub page : Cursor → List ℕ → List ℕ → Page
page c chars attrs = record { cursor = c; chars = chars; attrs = attrs }

-- another cursor on the same memory
abbrev pub with_cursor : Cursor → Page → Page
with_cursor c p = page c p.chars p.attrs

abbrev pub cell : Page → ℕ
cell p = cell_of p.cursor

abbrev pub marks_of : Page → List ℕ
marks_of p = marks p.attrs
