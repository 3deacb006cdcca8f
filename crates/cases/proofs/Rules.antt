-- The rules under one name to unfold: every definition that a run of the terminal computes with. Assumes nothing.
use Prim.Native.Nat.{ℕ}
use Rattle.cells.specs.Search.{first_of, last_of, all_of, count_of, nth_of, first_in, last_in, count_in}
use Rattle.cells.specs.Memory.{patch_from, patch, filled, shifted_right, shifted_left, changed_where_from, changed_where, moved_up, moved_down, written, posted}
use Rattle.changes.specs.Sets.{word_of, digits_of, set_of, rows_of, no_spare, either, count_true, first_true}
use Rattle.changes.specs.Differing.{differs, differing, differing_both}
use Rattle.cursor.specs.Cursor.{gone, at_cell, gone_up, gone_down, gone_left, gone_right, in_column, home_at, risen, fallen, is_placed}
use Rattle.cursor.specs.Addressing.{aimed, held_to, to_column, to_row, to_window_row}
use Rattle.cursor.specs.Stops.{tabbed, back_tabbed}
use Rattle.fields.specs.Fields.{marks, is_in, field_end, kind_at, unprotected, first_start, next_start, prev_start, nth_field, field_number, holds, target, letters_take, digits_take, allowed, row_under_text}
use Rattle.reading.specs.Reading.{action_of, unbegun, settled, counted, next_reading, sound_number}
use Rattle.screen.specs.Edits.{scrolled, line_fed, homed, homed_down, gone_found, tabbed_in, back_tabbed_in, put, onward, typed_free, cell_after, typed_at_cell, typed_in, typed, cleared, display_cleared, line_cleared, char_deleted, row_inserted, row_deleted, mark_set, mark_turned, enhanced}
use Rattle.replies.specs.Replies.{digits, cursor_reply, status_reply, field_text, joined, fields_reply, row_reply, block_reply}
use Rattle.terminal.specs.State.{fresh_world, is_good, is_sized, barred}
use Rattle.terminal.specs.Acts.{switched, tabbed_by, back_tabbed_by, steered, stamps, stamped, acted}
use Rattle.terminal.specs.Noted.{differing_rows}
use Rattle.terminal.specs.Refusals.{first_refusal}
use Rattle.key.specs.Keys.{key_action, disallows, key_refusal, key_done, keyed}
use Rattle.post.specs.Posts.{fits, all_fit, is_too_long, misfits, post_refusal, posted_at, posted_to}
use Rattle.streams.specs.Streams.{action_for, read_on, stepped_by, stepped, pending_reply, reply_to, answer_to, fed_on, host_refusal, fed}
use Rattle.report.specs.Reports.{report_refusal, reported}

unfoldable pub rules : ℕ
unfolding first_of last_of all_of count_of nth_of first_in last_in count_in patch_from patch filled shifted_right shifted_left changed_where_from changed_where moved_up moved_down written posted gone at_cell gone_up gone_down gone_left gone_right in_column home_at risen fallen is_placed aimed held_to to_column to_row to_window_row tabbed back_tabbed marks is_in field_end kind_at unprotected first_start next_start prev_start nth_field field_number holds target letters_take digits_take allowed row_under_text action_of unbegun settled counted next_reading sound_number scrolled line_fed homed homed_down gone_found tabbed_in back_tabbed_in put onward typed_free cell_after typed_at_cell typed_in typed cleared display_cleared line_cleared char_deleted row_inserted row_deleted mark_set mark_turned enhanced digits cursor_reply status_reply field_text joined fields_reply row_reply block_reply fresh_world is_good is_sized barred switched tabbed_by back_tabbed_by steered stamps stamped acted key_action first_refusal disallows key_refusal key_done keyed fits all_fit is_too_long misfits post_refusal posted_at posted_to action_for read_on stepped_by stepped pending_reply reply_to answer_to fed_on host_refusal fed word_of digits_of set_of rows_of no_spare either count_true first_true differs differing differing_both differing_rows report_refusal reported
rules = 0
