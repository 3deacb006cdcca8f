-- The one theorem: every promise is kept, of a terminal of 96 rows and of one of 48. What is computed is computed on both. Assumes nothing.
use native.Mathlib.Omega.{arith}
use Rattle.cases.proofs.Computed.{cases-hold-96, cases-hold-48}
use Rattle.promises.specs.Promises.{Promises}
use Rattle.promises.proofs.Promises.{kept_on}
use Rattle.kept.proofs.Example.{session-example-96, session-example-48}
use Rattle.kept.proofs.Noise.{noise-cases-96, noise-cases-48, esc-needed-96, esc-needed-48}
use Rattle.kept.proofs.Witness.{form-covered-96, form-covered-48, locked-covered-96, locked-covered-48, pending-covered-96, pending-covered-48, bare-covered-96, bare-covered-48, changes-covered-96, changes-covered-48, reach-needed-96, reach-needed-48, enter-bars-96, enter-bars-48, posts-keep-order-96, posts-keep-order-48, order-shows-96, order-shows-48}
use Rattle.kept.proofs.Shared.{readers-covered-96, cuts-covered-96, readers-covered-48, cuts-covered-48, tags-covered-96, tags-covered-48, replies-tell-96, replies-tell-48, home-down-disturbs-96, home-down-disturbs-48, format-off-disturbs-96, format-off-disturbs-48, table-disturbs-96, table-disturbs-48}

pub kept : Promises 96
kept =
    kept_on 96 (omega arith) (omega arith)
    (record {
      cases_hold = cases-hold-96;
      session_example = session-example-96;
      noise_cases = noise-cases-96;
      esc_needed = esc-needed-96;
      form_covered = form-covered-96;
      locked_covered = locked-covered-96;
      pending_covered = pending-covered-96;
      bare_covered = bare-covered-96;
      changes_covered = changes-covered-96;
      reach_needed = reach-needed-96;
      enter_bars = enter-bars-96;
      posts_keep_order = posts-keep-order-96;
      order_shows = order-shows-96;
      readers_covered = readers-covered-96;
      cuts_covered = cuts-covered-96;
      tags_covered = tags-covered-96;
      replies_tell = replies-tell-96;
      home_down_disturbs = home-down-disturbs-96;
      format_off_disturbs = format-off-disturbs-96;
      table_disturbs = table-disturbs-96;
    })

pub kept-48 : Promises 48
kept-48 =
    kept_on 48 (omega arith) (omega arith)
    (record {
      cases_hold = cases-hold-48;
      session_example = session-example-48;
      noise_cases = noise-cases-48;
      esc_needed = esc-needed-48;
      form_covered = form-covered-48;
      locked_covered = locked-covered-48;
      pending_covered = pending-covered-48;
      bare_covered = bare-covered-48;
      changes_covered = changes-covered-48;
      reach_needed = reach-needed-48;
      enter_bars = enter-bars-48;
      posts_keep_order = posts-keep-order-48;
      order_shows = order-shows-48;
      readers_covered = readers-covered-48;
      cuts_covered = cuts-covered-48;
      tags_covered = tags-covered-48;
      replies_tell = replies-tell-48;
      home_down_disturbs = home-down-disturbs-48;
      format_off_disturbs = format-off-disturbs-48;
      table_disturbs = table-disturbs-48;
    })
