-- `key::strike` meets its contract: a text key by the test for it, an arm by its code, the last one by the codes that it refutes. Assumes nothing.
use mathlib.Core.Path.{◌≡◌, refl, sym, ◌∙◌}
use native.Mathlib.Omega.{arith}
use borrow.Author.Tests.{ne_eqb}
use Rattle.reading.specs.Action as Action
use Rattle.terminal.specs.State.{world}
use Rattle.terminal.specs.Acts.{switched, steered, stamps, acted}
use Rattle.key.specs.Keys.{key_action}
use Rattle.key.specs.Pressed.{pressed}
use Rattle.key.proofs.Pressed.{text-not, gone, edited, typed_at, nothing-done, insert-over}
use Rattle.key.proofs.strike.Goals as goal

pub returns-then-is_text : goal.returns-then-is_text
unfolding key_action pressed acted
returns-then-is_text c =
    let t = sym c.is_text.ensures ∙ c.if-is_text.true in
    rw (t, text-not 266 _ (omega arith) t, text-not 273 _ (omega arith) t) (typed_at c.args.t c.type_char.ensures)

pub returns-in-256 : goal.returns-in-256
unfolding key_action pressed acted steered switched stamps
returns-in-256 c = rw c.in-256.is (gone c.args.t _ _ c.go_up.ensures)

pub returns-in-257 : goal.returns-in-257
unfolding key_action pressed acted steered switched stamps
returns-in-257 c = rw c.in-257.is (gone c.args.t _ _ c.go_down.ensures)

pub returns-in-258 : goal.returns-in-258
unfolding key_action pressed acted steered switched stamps
returns-in-258 c = rw c.in-258.is (gone c.args.t _ _ c.go_right.ensures)

pub returns-in-259 : goal.returns-in-259
unfolding key_action pressed acted steered switched stamps
returns-in-259 c = rw c.in-259.is (gone c.args.t _ _ c.go_left.ensures)

pub returns-in-260 : goal.returns-in-260
unfolding key_action pressed acted steered switched stamps
returns-in-260 c = rw c.in-260.is (gone c.args.t _ _ c.go_home.ensures)

pub returns-in-261 : goal.returns-in-261
unfolding key_action pressed acted steered switched stamps
returns-in-261 c = rw c.in-261.is (gone c.args.t _ _ c.go_home_down.ensures)

pub returns-in-262 : goal.returns-in-262
unfolding key_action pressed acted steered switched stamps
returns-in-262 c = rw c.in-262.is (gone c.args.t _ _ c.tab.ensures)

pub returns-in-263 : goal.returns-in-263
unfolding key_action pressed acted steered switched stamps
returns-in-263 c = rw c.in-263.is (gone c.args.t _ _ c.back_tab.ensures)

pub returns-in-264 : goal.returns-in-264
unfolding key_action pressed acted steered switched stamps
returns-in-264 c = rw c.in-264.is (typed_at c.args.t c.clear_display.ensures)

pub returns-in-265 : goal.returns-in-265
unfolding key_action pressed acted steered switched stamps
returns-in-265 c = rw c.in-265.is (typed_at c.args.t c.clear_line.ensures)

pub returns-in-266 : goal.returns-in-266
unfolding key_action pressed acted steered switched stamps
returns-in-266 c = let a = c.args in rw c.in-266.is (insert-over _ _ (world a.t a.chars.now a.attrs.now))

pub returns-in-267 : goal.returns-in-267
unfolding key_action pressed acted steered switched stamps
returns-in-267 c = rw c.in-267.is (typed_at c.args.t c.delete_char.ensures)

pub returns-in-268 : goal.returns-in-268
unfolding key_action pressed acted steered switched stamps
returns-in-268 c = rw c.in-268.is (gone c.args.t _ _ c.go_in.ensures)

pub returns-in-269 : goal.returns-in-269
unfolding key_action pressed acted steered switched stamps
returns-in-269 c = rw c.in-269.is (gone c.args.t _ _ c.rise.ensures)

pub returns-in-270 : goal.returns-in-270
unfolding key_action pressed acted steered switched stamps
returns-in-270 c = rw c.in-270.is (gone c.args.t _ _ c.fall.ensures)

pub returns-in-271 : goal.returns-in-271
unfolding key_action pressed acted steered switched stamps
returns-in-271 c = rw c.in-271.is (gone c.args.t _ _ c.rise-in-271.ensures)

pub returns-in-272 : goal.returns-in-272
unfolding key_action pressed acted steered switched stamps
returns-in-272 c = rw c.in-272.is (gone c.args.t _ _ c.fall-in-272.ensures)

pub returns-in-273 : goal.returns-in-273
unfolding key_action pressed acted steered switched stamps
returns-in-273 c = rw c.in-273.is

pub returns-in_default : goal.returns-in_default
unfolding key_action
returns-in_default c =
    let a = c.args in
    let unlisted : key_action a.code a.t.insert ≡ Action.rest = rw (
      sym c.is_text.ensures ∙ c.if-is_text.false,
      ne_eqb a.code 256 (omega arith),
      ne_eqb a.code 257 (omega arith),
      ne_eqb a.code 258 (omega arith),
      ne_eqb a.code 259 (omega arith),
      ne_eqb a.code 260 (omega arith),
      ne_eqb a.code 261 (omega arith),
      ne_eqb a.code 262 (omega arith),
      ne_eqb a.code 263 (omega arith),
      ne_eqb a.code 264 (omega arith),
      ne_eqb a.code 265 (omega arith),
      ne_eqb a.code 266 (omega arith),
      ne_eqb a.code 267 (omega arith),
      ne_eqb a.code 268 (omega arith),
      ne_eqb a.code 269 (omega arith),
      ne_eqb a.code 270 (omega arith),
      ne_eqb a.code 271 (omega arith),
      ne_eqb a.code 272 (omega arith),
      ne_eqb a.code 273 (omega arith),
    ) refl in
    nothing-done _ _ _ (ne_eqb a.code 266 (omega arith)) (ne_eqb a.code 273 (omega arith)) unlisted
