-- All that is promised of a terminal of `rows` rows: one record, a field a promise, in the order of docs/PROMISES.md. Assumes nothing.
use Rattle.std.specs.Prelude.{ℕ}
use Rattle.cases.specs.Cases.{CasesHold}
use Rattle.mixing.specs.Mix.{MixedExactly}
use Rattle.promises.specs.Refusals.{FreshRefusals, KeyRefusals, PostRefusals, PostAsRefusals, ReadBackRefusals, HostRefusals, ReportRefusals, FreshGood, GoodStays}
use Rattle.promises.specs.Once.{FreshOnce, KeyOnce, PostOnce, PostAsOnce, ReadBackOnce, HostOnce, ReportOnce}
use Rattle.promises.specs.Rooms.{KeyRooms, HostRooms, ReadBackRooms, PartRooms}
use Rattle.promises.specs.Readers.{ReadersAgree, BytesAgree, HostsAgree}
use Rattle.promises.specs.Numbers.{FreshNumbers, KeyNumbers, PostNumbers, PostAsNumbers, ReadBackNumbers, HostNumbers, ReportNumbers}
use Rattle.promises.specs.Accepted.{PostWrites, PostAsWrites, PostAsOwn, ReadBackReads, PostReadsBack}
use Rattle.promises.specs.Protected.{ProtectedStay}
use Rattle.promises.specs.Changes.{ByteRows, ResetRows, CallRows, SessionRows, FreshRows, ReportRows}
use Rattle.promises.specs.Sessions.{PartNumbers, RecordNumbers, RecordRefusals, HostRecords, PartOnce, RecordOnce, LinesOnce, EndOnce, SessionLines, SessionNumbered, SessionGood, SessionInParts}
use Rattle.promises.specs.Example.{SessionExample}
use Rattle.promises.specs.Noise.{EscRecovers, CallsUnread, CallsRecover, SessionsRecover, CutsAgree, CutsStop, PartsAgree, CallsGoOn, RecordsGoOn, NoiseCases, EscNeeded}
use Rattle.promises.specs.SharedCalls.{SharedGoodStays, SharedProtectedStay, SharedCallRows, SharedCallsUnread, SharedCallsRecover}
use Rattle.promises.specs.Mixing.{MixesAgree}
use Rattle.promises.specs.Owners.{ReadersUndisturbed, CutsUndisturbed, ReaderMixesAgree}
use Rattle.promises.specs.Shared.{ReadersCovered, CutsCovered, RepliesTell, HomeDownDisturbs, FormatOffDisturbs, TableDisturbs, TagsCovered}
use Rattle.promises.specs.Form.{FormCovered, LockedCovered, PendingCovered, BareCovered, ChangesCovered, ReachNeeded, EnterBars, PostsKeepOrder, OrderShows}

pub record Promises (rows : ℕ) : Type 1 where
  -- ---- 1. nothing that comes in can break it
  -- bad input is refused by document 01's numbers, and a refusal changes nothing
  pub fresh_refusals : FreshRefusals rows
  pub key_refusals : KeyRefusals rows
  pub post_refusals : PostRefusals rows
  pub post_as_refusals : PostAsRefusals rows
  pub read_back_refusals : ReadBackRefusals rows
  pub host_refusals : HostRefusals rows
  pub report_refusals : ReportRefusals rows
  -- a good state stays good, and so the cursor never leaves display memory
  pub fresh_good : FreshGood rows
  pub good_stays : GoodStays rows
  pub shared_good_stays : SharedGoodStays rows
  -- ---- 2. it does what the rules say
  -- a contract leaves no choice
  pub fresh_once : FreshOnce rows
  pub key_once : KeyOnce rows
  pub post_once : PostOnce rows
  pub post_as_once : PostAsOnce rows
  pub read_back_once : ReadBackOnce rows
  pub host_once : HostOnce rows
  pub report_once : ReportOnce rows
  -- each number is given exactly when document 01's table says
  pub fresh_numbers : FreshNumbers rows
  pub key_numbers : KeyNumbers rows
  pub post_numbers : PostNumbers rows
  pub post_as_numbers : PostAsNumbers rows
  pub read_back_numbers : ReadBackNumbers rows
  pub host_numbers : HostNumbers rows
  pub report_numbers : ReportNumbers rows
  -- an accepted post writes its field and nothing else
  pub post_writes : PostWrites rows
  -- a reader's post does the same, in a field that it owns, and touches no field that it does not own
  pub post_as_writes : PostAsWrites rows
  pub post_as_own : PostAsOwn rows
  -- what a reader reads back is its field, whole; after a post its text, and then blanks
  pub read_back_reads : ReadBackReads rows
  pub post_reads_back : PostReadsBack rows
  -- while format mode stays on, no protected cell changes its character; it keeps its attribute byte too, and every cell its mark
  pub protected_stay : ProtectedStay rows
  pub shared_protected_stay : SharedProtectedStay rows
  -- a row is set exactly when it was or has been changed, a fresh terminal has all rows set, and a report tells of them and clears them
  pub byte_rows : ByteRows rows
  pub reset_rows : ResetRows rows
  pub call_rows : CallRows rows
  pub shared_call_rows : SharedCallRows rows
  pub session_rows : SessionRows rows
  pub fresh_rows : FreshRows rows
  pub report_rows : ReportRows rows
  -- of a lent buffer only the room counts
  pub key_rooms : KeyRooms rows
  pub host_rooms : HostRooms rows
  pub read_back_rooms : ReadBackRooms rows
  -- the table and the plain decisions make the same of every byte, and so the two host calls leave the same of every stream
  pub readers_agree : ReadersAgree
  pub bytes_agree : BytesAgree rows
  pub hosts_agree : HostsAgree rows
  -- document 01's own cases, with weights, clears and last places
  pub cases_hold : CasesHold rows
  -- session records and sessions of any bytes
  pub part_numbers : PartNumbers rows
  pub record_numbers : RecordNumbers rows
  pub record_refusals : RecordRefusals rows
  pub host_records : HostRecords rows
  pub part_rooms : PartRooms rows
  pub session_lines : SessionLines rows
  pub session_numbered : SessionNumbered rows
  pub session_good : SessionGood rows
  pub session_in_parts : SessionInParts rows
  -- document 01's own session
  pub session_example : SessionExample rows
  pub part_once : PartOnce rows
  pub record_once : RecordOnce rows
  pub lines_once : LinesOnce rows
  pub end_once : EndOnce
  -- noise on the line: reading recovers at an ESC
  pub esc_recovers : EscRecovers rows
  pub calls_unread : CallsUnread rows
  pub shared_calls_unread : SharedCallsUnread rows
  pub calls_recover : CallsRecover rows
  pub shared_calls_recover : SharedCallsRecover rows
  pub sessions_recover : SessionsRecover rows
  -- a stream is the same however it is cut, and with whatever reply buffers it goes on
  pub cuts_agree : CutsAgree rows
  pub cuts_stop : CutsStop rows
  pub parts_agree : PartsAgree rows
  pub calls_go_on : CallsGoOn rows
  pub records_go_on : RecordsGoOn rows
  -- examples of both, and what the ESC is for
  pub noise_cases : NoiseCases rows
  pub esc_needed : EscNeeded rows
  -- ---- 3. two tags cannot get in each other's way
  -- every mix ends alike and gives the same answers, and no mix is left out
  pub mixes_agree : MixesAgree rows
  pub mixed_exactly : MixedExactly
  -- the promise is not empty
  pub form_covered : FormCovered rows
  pub locked_covered : LockedCovered rows
  pub pending_covered : PendingCovered rows
  pub bare_covered : BareCovered rows
  pub changes_covered : ChangesCovered rows
  -- its conditions are needed
  pub reach_needed : ReachNeeded rows
  pub enter_bars : EnterBars rows
  pub posts_keep_order : PostsKeepOrder rows
  pub order_shows : OrderShows rows
  -- ---- 4. two readers on one form cannot disturb each other
  -- whatever one posts, the other gets the same answers and reads the same text, however the host's bytes are cut; and mixes of keys with posts of both agree
  pub readers_undisturbed : ReadersUndisturbed rows
  pub cuts_undisturbed : CutsUndisturbed rows
  pub reader_mixes_agree : ReaderMixesAgree rows
  -- none is empty; a host's reply carries every field; the conditions are needed
  pub readers_covered : ReadersCovered rows
  pub cuts_covered : CutsCovered rows
  pub tags_covered : TagsCovered rows
  pub replies_tell : RepliesTell rows
  pub home_down_disturbs : HomeDownDisturbs rows
  pub format_off_disturbs : FormatOffDisturbs rows
  pub table_disturbs : TableDisturbs rows
