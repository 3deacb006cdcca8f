-- Only proofs and inner contracts need this: a page that the edits can work on. Assumes nothing.
use Rattle.std.specs.Prelude.{ℕ, ◌*◌, ◌≤◌, ◌≡◌, length}
use Rattle.cursor.specs.Cursor.{InPlace}
use Rattle.screen.specs.Page.{Page}

-- memories of `rows` rows of 80 cells, the cursor in its place
pub record Whole (rows : ℕ) (p : Page) : Type 0 where
  pub few : rows ≤ 96
  pub chars_long : length p.chars ≡ rows * 80
  pub attrs_long : length p.attrs ≡ rows * 80
  pub place : InPlace rows p.cursor
