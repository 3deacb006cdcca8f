-- `sessions::run_each` meets its contract: a record's line, then those of the others. Assumes nothing.
use mathlib.Core.Path.{◌≡◌, refl, ap, ◌∙◌}
use native.Mathlib.Omega.{arith}
use lib.ListN.{length, length-append}
use Rattle.std.specs.Slice.Iter.{chunks_rest, chunks_size}
use Rattle.terminal.specs.State.{world}
use Rattle.sessions.proofs.Listing.{listing_start, listing-turn, all-taken, no-more-room}
use Rattle.sessions.proofs.run_each.Goals as goal

pub loop-record-init : goal.loop-record-init
loop-record-init c =
    let i = c.into_iter-record-iterator.ensures.into_iter_gives in
    let rest : chunks_rest c.into_iter-record-iterator.result ≡ c.args.bytes.now = rw i c.chunks-record-items.ensures.rest in
    let size : chunks_size c.into_iter-record-iterator.result ≡ 84 = rw i c.chunks-record-items.ensures.size in
    (omega arith, tt, size, omega (arith, ap length rest), omega arith, omega (arith, c.ranges.number), refl, refl, refl, refl, rw rest (listing_start _ _ _ _ _))

pub loop-record-preserved : goal.loop-record-preserved
loop-record-preserved c =
    let l = c.loop-record in
    let a = c.args in
    let w = world l.u l.chars l.attrs in
    let it = c.in-Some.ensures.steps in
    let r = c.in-Some.record.now in
    let more = chunks_rest c.next.new.self in
    let size : chunks_size c.next.new.self ≡ 84 = it.0 ∙ l.invariant.2 in
    let t = c.write_three-to in
    let x = c.run_on-a in (
      omega arith,
      tt,
      size,
      omega (arith, ap length it.1.0, length-append r more, l.invariant.3),
      omega (arith, t.ensures.upper_bound, t.auto.lines, c.if-lines-to-lt63.false, l.invariant.4),
      omega (arith, c.next-n.ensures),
      x.auto.chars ∙ l.invariant.6,
      x.auto.attrs ∙ l.invariant.7,
      t.auto.lines ∙ l.invariant.8,
      x.auto.reply ∙ l.invariant.9,
      listing-turn a.rows w (chunks_rest l.record-iterator) r more l.taken l.to l.n l.lines it.1.0 (rw l.invariant.2 at it.1.1) it.1.2 (omega (arith, c.if-lines-to-lt63.false, l.invariant.4))
          x.ensures c.next-n.ensures t.ensures.value t.ensures.lines_after
          ∙ l.invariant.10,
    )

pub returns-in-None : goal.returns-in-None
returns-in-None c =
    let l = c.loop-record in
    all-taken c.args.rows (world l.u l.chars l.attrs) (chunks_rest l.record-iterator) l.taken l.to l.n l.lines c.in-None.ensures.steps.1.0 ∙ l.invariant.10

pub returns-then-lines-to-lt63 : goal.returns-then-lines-to-lt63
returns-then-lines-to-lt63 c =
    let l = c.loop-record in
    no-more-room c.args.rows (world l.u l.chars l.attrs) (chunks_rest l.record-iterator) l.taken l.to l.n l.lines c.in-Some.ensures.steps.1.2 (omega (arith, c.if-lines-to-lt63.true, l.invariant.4))
    ∙ l.invariant.10
