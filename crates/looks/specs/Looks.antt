-- Only proofs and inner contracts need this: the rows in which a page differs before and after an edit. Assumes nothing.
use Rattle.std.specs.Prelude.{ℕ, Bool, List}
use Rattle.changes.specs.Differing.{differing_both}
use Rattle.screen.specs.Page.{Page}

unfoldable pub changed : ℕ → Page → Page → List Bool
changed rows p q = differing_both rows p.chars p.attrs q.chars q.attrs
