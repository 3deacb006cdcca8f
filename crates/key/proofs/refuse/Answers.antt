-- `key::refuse` meets its contract: each number by the tests before it. Assumes nothing.
use mathlib.Core.Path.{sym, ◌∙◌, ap}
use mathlib.Core.Bool.{not}
use native.Mathlib.Omega.{arith}
use borrow.Author.Tests.{eq-eqb, ne_eqb, lt-ltb, le-ltb}
use Rattle.terminal.proofs.Good.{good-in, sized-in}
use Rattle.terminal.specs.Refusals.{first_refusal}
use Rattle.key.specs.Keys.{key_refusal}
use Rattle.key.specs.Aim.{aim_refusal}
use Rattle.key.proofs.Named.{text-byte}
use Rattle.key.proofs.Pressed.{text-not}
use Rattle.key.proofs.refuse.Goals as goal

pub returns-then-not-is_sized : goal.returns-then-not-is_sized
unfolding key_refusal first_refusal aim_refusal
returns-then-not-is_sized c = rw (sym c.is_sized.ensures ∙ c.if-not-is_sized.true) c.number.ensures

pub returns-then-not-is_good : goal.returns-then-not-is_good
unfolding key_refusal first_refusal aim_refusal
returns-then-not-is_good c = rw (sym c.is_sized.ensures ∙ c.if-not-is_sized.false, sym c.is_good.ensures ∙ c.if-not-is_good.true) c.number-then-not-is_good.ensures

pub returns-then-unlisted : goal.returns-then-unlisted
unfolding key_refusal first_refusal aim_refusal
returns-then-unlisted c = rw (sym c.is_sized.ensures ∙ c.if-not-is_sized.false, sym c.is_good.ensures ∙ c.if-not-is_good.false, c.is_listed-unlisted.ensures c.args.t.insert ∙ ap not c.if-unlisted.true) c.number-then-unlisted.ensures

pub returns-then-barred : goal.returns-then-barred
unfolding key_refusal first_refusal aim_refusal
returns-then-barred c = rw (sym c.is_sized.ensures ∙ c.if-not-is_sized.false, sym c.is_good.ensures ∙ c.if-not-is_good.false, c.is_listed-unlisted.ensures c.args.t.insert ∙ ap not c.if-unlisted.false, sym c.is_barred-barred.ensures ∙ c.if-barred.true) c.number-then-barred.ensures

pub cell-requires : goal.cell-requires
unfolding key_refusal first_refusal aim_refusal
cell-requires c = let p = (good-in _ _ (sym c.is_good.ensures ∙ c.if-not-is_good.false)).place in (omega (arith, p.high, p.top_in, c.requires.1), p.col_in)

pub refuse_text-requires : goal.refuse_text-requires
unfolding key_refusal first_refusal aim_refusal
refuse_text-requires c = let p = (good-in _ _ (sym c.is_good.ensures ∙ c.if-not-is_good.false)).place in let s = sized-in _ _ _ (sym c.is_sized.ensures ∙ c.if-not-is_sized.false) in omega (arith, c.cell.ensures, p.high, p.top_in, p.col_in, s.1)

pub returns-then-t : goal.returns-then-t
unfolding key_refusal first_refusal aim_refusal
returns-then-t c = let t = sym c.is_text.ensures ∙ c.if-is_text.true in rw (sym c.is_sized.ensures ∙ c.if-not-is_sized.false, sym c.is_good.ensures ∙ c.if-not-is_good.false, c.is_listed-unlisted.ensures c.args.t.insert ∙ ap not c.if-unlisted.false, sym c.is_barred-barred.ensures ∙ c.if-barred.false, text-not 273 _ (omega arith) t, t, c.if-t.true, ← c.cell.ensures) (rw (text-byte _ t) at c.refuse_text.ensures)

pub returns-then-is_text : goal.returns-then-is_text
unfolding key_refusal first_refusal aim_refusal
returns-then-is_text c = let t = sym c.is_text.ensures ∙ c.if-is_text.true in rw (sym c.is_sized.ensures ∙ c.if-not-is_sized.false, sym c.is_good.ensures ∙ c.if-not-is_good.false, c.is_listed-unlisted.ensures c.args.t.insert ∙ ap not c.if-unlisted.false, sym c.is_barred-barred.ensures ∙ c.if-barred.false, text-not 273 _ (omega arith) t, t, c.if-t.false)

pub returns-then-room-lt1 : goal.returns-then-room-lt1
unfolding key_refusal first_refusal aim_refusal
returns-then-room-lt1 c = rw (sym c.is_sized.ensures ∙ c.if-not-is_sized.false, sym c.is_good.ensures ∙ c.if-not-is_good.false, c.is_listed-unlisted.ensures c.args.t.insert ∙ ap not c.if-unlisted.false, sym c.is_barred-barred.ensures ∙ c.if-barred.false, sym c.is_text.ensures ∙ c.if-is_text.false, eq-eqb _ _ c.if-code-eq273.true, lt-ltb _ _ c.if-room-lt1.true) c.number-then-room-lt1.ensures

pub returns-else-room-lt1 : goal.returns-else-room-lt1
unfolding key_refusal first_refusal aim_refusal
returns-else-room-lt1 c = rw (sym c.is_sized.ensures ∙ c.if-not-is_sized.false, sym c.is_good.ensures ∙ c.if-not-is_good.false, c.is_listed-unlisted.ensures c.args.t.insert ∙ ap not c.if-unlisted.false, sym c.is_barred-barred.ensures ∙ c.if-barred.false, sym c.is_text.ensures ∙ c.if-is_text.false, eq-eqb _ _ c.if-code-eq273.true, le-ltb _ _ c.if-room-lt1.false)

pub returns-else-code-eq273 : goal.returns-else-code-eq273
unfolding key_refusal first_refusal aim_refusal
returns-else-code-eq273 c = rw (sym c.is_sized.ensures ∙ c.if-not-is_sized.false, sym c.is_good.ensures ∙ c.if-not-is_good.false, c.is_listed-unlisted.ensures c.args.t.insert ∙ ap not c.if-unlisted.false, sym c.is_barred-barred.ensures ∙ c.if-barred.false, sym c.is_text.ensures ∙ c.if-is_text.false, ne_eqb _ _ c.if-code-eq273.false)
