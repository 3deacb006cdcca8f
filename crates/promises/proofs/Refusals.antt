-- Each call keeps to its numbers, a refusal leaves all, and from a good state every state after is good. Assumes nothing.
use Prim.Native.Nat.{ℕ, ◌-◌, ◌≤◌, ◌<◌}
use mathlib.Core.Path.{◌≡◌, refl}
use mathlib.Core.Logic.{◌⊎◌, inl, inr, ⊎_elim}
use mathlib.Core.Bool.{true}
use mathlib.Core.List.{List, [], ◌∷◌}
use native.Mathlib.Omega.{arith}
use Rattle.terminal.specs.State.{World, is_good, is_sized, Good}
use Rattle.terminal.specs.Refusals.{first_refusal}
use Rattle.terminal.proofs.Good.{freshened-good, freshened-refused}
use Rattle.key.proofs.Kept.{key-refused, key_counts, key-good}
use Rattle.post.proofs.Kept.{post-refused, post-good}
use Rattle.readers.proofs.Kept.{as-refused}
use Rattle.readers.proofs.Readings.{read-refused, read-counts}
use Rattle.streams.specs.Streams.{hosted, fed_on, host_refusal, fed}
use Rattle.streams.proofs.Kept.{fed_on-number, fed_by, fed-good}
use Rattle.streams.proofs.Streams.{fed_on-counts, fed_on-taken, fed_on-full}
use Rattle.report.proofs.Kept.{report-refused, report-good}
use Rattle.promises.specs.Calls.{Call, host, key, post, report, called}
use Rattle.promises.specs.Refusals.{HostKeeps, FreshRefusals, KeyRefusals, PostRefusals, PostAsRefusals, ReadBackRefusals, HostRefusals, ReportRefusals, GoodShown, FreshGood, GoodStays}
use Rattle.promises.proofs.Tables.{one_of}
use Rattle.promises.proofs.Numbers.{fresh-chosen, key-chosen, post-chosen, post-as-chosen, read-back-chosen, report-chosen}

pub good-shown : {rows : ℕ} {w : World} → Good rows w.state → GoodShown rows w
good-shown {rows} {w} g =
    let p = g.place in
    record {
      good = g;
      shown = record { row_in = omega arith; col_in = p.col_in; cell_in = omega arith; window_in = p.top_in; from_top = p.low; to_bottom = p.high };
    }

pub fresh_refusals : (rows : ℕ) → FreshRefusals rows
fresh_refusals rows chars attrs = record { numbered = one_of (fresh-chosen rows chars attrs); refusal_leaves = freshened-refused rows chars attrs }

pub report_refusals : (rows : ℕ) → ReportRefusals rows
report_refusals rows t = record { numbered = one_of (report-chosen rows t); refusal_leaves = report-refused rows t }

pub post_refusals : (rows : ℕ) → PostRefusals rows
post_refusals rows w field text = record { numbered = one_of (post-chosen rows w field text); refusal_leaves = post-refused rows w field text }

pub post_as_refusals : (rows : ℕ) → PostAsRefusals rows
post_as_refusals rows w owners reader field text =
    record { numbered = one_of (post-as-chosen rows w owners reader field text); refusal_leaves = as-refused rows w owners reader field text }

pub read_back_refusals : (rows : ℕ) → ReadBackRefusals rows
read_back_refusals rows w owners reader field out =
    let c = read-counts rows w owners reader field out in
    record {
      numbered = one_of (read-back-chosen rows w owners reader field out);
      refusal_leaves = read-refused rows w owners reader field out;
      written_in = c.0;
      room_stays = c.1;
      beyond_stays = c.2;
    }

-- a stream that is read; one that is refused
module _ (rows : ℕ) (w : World) (bytes reply : List ℕ) where
  fed_on-keeps : is_sized rows w.chars w.attrs ≡ true → is_good rows w.state ≡ true → HostKeeps rows w bytes reply (fed_on rows bytes 0 0 w reply)
  unfolding fed host_refusal first_refusal
  fed_on-keeps s g =
      let h = fed_on rows bytes 0 0 w reply in
      let c = fed_on-counts rows bytes 0 0 w reply (omega arith) in
      let z : h.taken - 0 ≡ h.taken = omega arith in
      record {
        numbered = ⊎_elim (λ e. inl e) (λ e. inr (inr (inr (inl e)))) (fed_on-number rows bytes 0 0 w reply);
        done_takes = λ e. omega (arith, c.all-taken e);
        refusal_leaves = λ o. absurd (⊎_elim (λ e. ⊎_elim (λ p. omega arith) (λ p. omega arith) o) (λ e. ⊎_elim (λ p. omega arith) (λ p. omega arith) o) (fed_on-number rows bytes 0 0 w reply));
        short_keeps = λ e. rw (s, g) (rw z at (fed_on-taken rows bytes 0 0 w reply (omega arith)));
        short_stops = λ e. (omega (arith, c.stopped e), rw z at (fed_on-full rows bytes 0 0 w reply (omega arith) e));
        taken_in = omega (arith, c.taken-upto);
        written_in = c.sent-upto;
        room_stays = c.reply-long;
        beyond_stays = c.after;
      }

  refused-keeps : (n : ℕ) → (n ≡ 1) ⊎ (n ≡ 2) → HostKeeps rows w bytes reply (hosted n 0 0 w reply)
  refused-keeps n o =
      let small : (0 < n) × (n < 3) = ⊎_elim (λ p. omega arith) (λ p. omega arith) o in
      record {
        numbered = ⊎_elim (λ e. inr (inl e)) (λ e. inr (inr (inl e))) o;
        done_takes = λ e. absurd (omega arith);
        refusal_leaves = λ _. (refl, refl, refl, refl);
        short_keeps = λ e. absurd (omega arith);
        short_stops = λ e. absurd (omega arith);
        taken_in = omega arith;
        written_in = omega arith;
        room_stays = refl;
        beyond_stays = refl;
      }

pub host_refusals : (rows : ℕ) → HostRefusals rows
host_refusals rows w bytes reply = fed_by (HostKeeps rows w bytes reply) rows w bytes reply (fed_on-keeps rows w bytes reply) (refused-keeps rows w bytes reply)

module _ (rows : ℕ) (few : rows ≤ 96) where
  pub key_refusals : KeyRefusals rows
  key_refusals w reply code =
      let c = key_counts rows w reply code few in
      record {
        numbered = one_of (key-chosen rows w reply code);
        refusal_leaves = λ n. let u = key-refused rows w reply code n in (u.same-world, u.same-reply, u.none_written);
        written_in = c.written-upto;
        room_stays = c.reply-long;
        beyond_stays = c.after;
      }

  pub called-good : (c : Call) (w : World) → Good rows w.state → Good rows (called rows c w).state
  called-good (host bytes reply) w g = fed-good rows w bytes reply few g
  called-good (key code reply) w g = key-good rows w reply code few g
  called-good (post field text) w g = post-good rows w field text g
  called-good report w g = report-good rows w.state g

  pub good_stays : GoodStays rows
  good_stays [] w g = good-shown g
  good_stays (c ∷ calls) w g = good_stays calls (called rows c w) (called-good c w g)

pub fresh_good : (rows : ℕ) → 24 ≤ rows → FreshGood rows
fresh_good rows h chars attrs = good-shown (freshened-good rows chars attrs h)
