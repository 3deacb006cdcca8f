-- Every promise is kept of a terminal of 24 to 96 rows, if those are that are computed on a memory of its size. Assumes nothing.
use Prim.Native.Nat.{ℕ, ◌≤◌}
use Rattle.key.proofs.Rooms.{keyed-room}
use Rattle.streams.proofs.Rooms.{fed-room}
use Rattle.readers.proofs.Rooms.{read-room}
use Rattle.records.proofs.Rooms.{part_room}
use Rattle.cases.specs.Cases.{CasesHold}
use Rattle.mixing.proofs.Mixes.{mixed_exactly}
use Rattle.promises.specs.Form.{FormCovered, LockedCovered, PendingCovered, BareCovered, ChangesCovered, ReachNeeded, EnterBars, PostsKeepOrder, OrderShows}
use Rattle.promises.specs.Example.{SessionExample}
use Rattle.promises.specs.Shared.{ReadersCovered, CutsCovered, TagsCovered, RepliesTell, HomeDownDisturbs, FormatOffDisturbs, TableDisturbs}
use Rattle.promises.specs.Noise.{NoiseCases, EscNeeded}
use Rattle.promises.specs.Promises.{Promises}
use Rattle.promises.proofs.Refusals.{fresh_refusals, key_refusals, post_refusals, post_as_refusals, read_back_refusals, host_refusals, report_refusals, fresh_good, good_stays}
use Rattle.promises.proofs.Once.{fresh-is-once, key-is-once, post-is-once, post-as-is-once, read-back-is-once, host-is-once, report-is-once}
use Rattle.promises.proofs.Readers.{readers_agree, bytes_agree, hosts_agree}
use Rattle.promises.proofs.Numbers.{fresh_numbers, key_numbers, post_numbers, post_as_numbers, read_back_numbers, host_numbers, report_numbers}
use Rattle.promises.proofs.Accepted.{post_writes, post_as_writes, post_as_own, read_back_reads, post_reads_back}
use Rattle.promises.proofs.Protected.{protected_stay}
use Rattle.promises.proofs.Changes.{byte_rows, reset_rows, call_rows, session_rows, fresh_rows, report_rows}
use Rattle.promises.proofs.Records.{part_numbers, record_numbers, record_refusals, host_records}
use Rattle.promises.proofs.Sessions.{part-is-once, record-is-once, lines-is-once, end-is-once, session_lines, session_numbered, session_good, session_in_parts}
use Rattle.promises.proofs.Recovery.{esc_recovers, calls_unread, calls_recover, sessions_recover}
use Rattle.promises.proofs.Cuts.{cuts_agree, cuts_stop, parts_agree, calls_go_on, records_go_on}
use Rattle.promises.proofs.SharedCalls.{shared_good_stays, shared_protected_stay, shared_call_rows, shared_calls_unread, shared_calls_recover}
use Rattle.promises.proofs.Mixing.{mixes_agree}
use Rattle.promises.proofs.Owned.{reader_mixes_agree}
use Rattle.promises.proofs.Undisturbed.{readers_undisturbed}
use Rattle.promises.proofs.Bytewise.{cuts_undisturbed}

-- the promises that are computed, on a memory of `rows` rows
pub record Computed (rows : ℕ) : Type 0 where
  pub cases_hold : CasesHold rows
  pub session_example : SessionExample rows
  pub noise_cases : NoiseCases rows
  pub esc_needed : EscNeeded rows
  pub form_covered : FormCovered rows
  pub locked_covered : LockedCovered rows
  pub pending_covered : PendingCovered rows
  pub bare_covered : BareCovered rows
  pub changes_covered : ChangesCovered rows
  pub reach_needed : ReachNeeded rows
  pub enter_bars : EnterBars rows
  pub posts_keep_order : PostsKeepOrder rows
  pub order_shows : OrderShows rows
  pub readers_covered : ReadersCovered rows
  pub cuts_covered : CutsCovered rows
  pub tags_covered : TagsCovered rows
  pub replies_tell : RepliesTell rows
  pub home_down_disturbs : HomeDownDisturbs rows
  pub format_off_disturbs : FormatOffDisturbs rows
  pub table_disturbs : TableDisturbs rows

-- with those, all are kept on any number of rows from 24 to 96
pub kept_on : (rows : ℕ) → 24 ≤ rows → rows ≤ 96 → Computed rows → Promises rows
kept_on rows some few c =
    record {
      fresh_refusals = fresh_refusals rows;
      key_refusals = key_refusals rows few;
      post_refusals = post_refusals rows;
      post_as_refusals = post_as_refusals rows;
      read_back_refusals = read_back_refusals rows;
      host_refusals = host_refusals rows;
      report_refusals = report_refusals rows;
      fresh_good = fresh_good rows some;
      good_stays = good_stays rows few;
      shared_good_stays = shared_good_stays rows few;
      fresh_once = fresh-is-once rows;
      key_once = key-is-once rows;
      post_once = post-is-once rows;
      post_as_once = post-as-is-once rows;
      read_back_once = read-back-is-once rows;
      host_once = host-is-once rows;
      report_once = report-is-once rows;
      fresh_numbers = fresh_numbers rows;
      key_numbers = key_numbers rows;
      post_numbers = post_numbers rows;
      post_as_numbers = post_as_numbers rows;
      read_back_numbers = read_back_numbers rows;
      host_numbers = host_numbers rows;
      report_numbers = report_numbers rows;
      post_writes = post_writes rows few;
      post_as_writes = post_as_writes rows few;
      post_as_own = post_as_own rows few;
      read_back_reads = read_back_reads rows few;
      post_reads_back = post_reads_back rows few;
      protected_stay = protected_stay rows few;
      shared_protected_stay = shared_protected_stay rows few;
      byte_rows = byte_rows rows;
      reset_rows = reset_rows rows;
      call_rows = call_rows rows few;
      shared_call_rows = shared_call_rows rows few;
      session_rows = session_rows rows few;
      fresh_rows = fresh_rows rows;
      report_rows = report_rows rows;
      key_rooms = keyed-room rows;
      host_rooms = fed-room rows;
      read_back_rooms = read-room rows;
      readers_agree = readers_agree;
      bytes_agree = bytes_agree rows;
      hosts_agree = hosts_agree rows;
      cases_hold = c.cases_hold;
      part_numbers = part_numbers rows;
      record_numbers = record_numbers rows some few;
      record_refusals = record_refusals rows some few;
      host_records = host_records rows some few;
      part_rooms = part_room rows;
      session_lines = session_lines rows some few;
      session_numbered = session_numbered rows;
      session_good = session_good rows some few;
      session_in_parts = session_in_parts rows;
      session_example = c.session_example;
      part_once = part-is-once rows;
      record_once = record-is-once rows;
      lines_once = lines-is-once rows;
      end_once = end-is-once;
      esc_recovers = esc_recovers rows;
      calls_unread = calls_unread rows;
      shared_calls_unread = shared_calls_unread rows;
      calls_recover = calls_recover rows;
      shared_calls_recover = shared_calls_recover rows;
      sessions_recover = sessions_recover rows some;
      cuts_agree = cuts_agree rows few;
      cuts_stop = cuts_stop rows few;
      parts_agree = parts_agree rows few;
      calls_go_on = calls_go_on rows few;
      records_go_on = records_go_on rows few;
      noise_cases = c.noise_cases;
      esc_needed = c.esc_needed;
      mixes_agree = mixes_agree rows;
      mixed_exactly = mixed_exactly;
      form_covered = c.form_covered;
      locked_covered = c.locked_covered;
      pending_covered = c.pending_covered;
      bare_covered = c.bare_covered;
      changes_covered = c.changes_covered;
      reach_needed = c.reach_needed;
      enter_bars = c.enter_bars;
      posts_keep_order = c.posts_keep_order;
      order_shows = c.order_shows;
      readers_undisturbed = readers_undisturbed rows few;
      cuts_undisturbed = cuts_undisturbed rows few;
      reader_mixes_agree = reader_mixes_agree rows;
      readers_covered = c.readers_covered;
      cuts_covered = c.cuts_covered;
      tags_covered = c.tags_covered;
      replies_tell = c.replies_tell;
      home_down_disturbs = c.home_down_disturbs;
      format_off_disturbs = c.format_off_disturbs;
      table_disturbs = c.table_disturbs;
    }
