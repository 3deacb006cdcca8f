-- Host streams (document 01, 'Reading host bytes' and 'Replies'): one byte's step, what it sends, and a stream of bytes. Assumes nothing.
use Rattle.std.specs.Prelude.{ℕ, ◌+◌, ◌-◌, ◌%◌, cond, not, List, [], ◌∷◌, length, take, leb, eqb}
use Rattle.cells.specs.Memory.{written}
use Rattle.reading.specs.Action as Action
use Rattle.reading.specs.Reading.{action_of, settled, counted, next_reading}
use Rattle.replies.specs.Replies.{cursor_reply, status_reply, block_reply}
use Rattle.terminal.specs.declared.Terminal.{Terminal}
use Rattle.terminal.specs.State.{World, world, stated, reread, is_good, is_sized}
use Rattle.terminal.specs.Acts.{acted}
use Rattle.terminal.specs.Noted.{noted}
use Rattle.terminal.specs.Refusals.{◌when◌, first_refusal}
use Rattle.streams.specs.declared.HostAnswer.{HostAnswer}

-- the action of a byte
unfoldable pub action_for : Terminal → ℕ → ℕ
action_for t byte = settled (action_of t.reading byte) t.number

-- the reading state and the number after an action of the byte b below 128. A hard reset leaves reading state 0 and a clear number, as every end does
unfoldable pub read_on : ℕ → ℕ → Terminal → Terminal
read_on a b t = reread t (next_reading a) (counted a b t.number)

-- one byte, the rows that it changes noted
unfoldable pub stepped_by : ℕ → ℕ → ℕ → World → World
stepped_by rows a byte w =
    let v = noted rows w (acted rows a (byte % 128) w) in
    stated v (read_on a (byte % 128) v.state)

unfoldable pub stepped : ℕ → ℕ → World → World
stepped rows byte w = stepped_by rows (action_for w.state byte) byte w

-- what the pending transfer sends
unfoldable pub pending_reply : World → List ℕ
pending_reply w =
    let t = w.state in
    cond (eqb t.pending 1) (cursor_reply t.cursor.col t.cursor.row 82)
    (cond (eqb t.pending 2) (cursor_reply t.cursor.col (t.cursor.row - t.cursor.top) 89)
    (cond (eqb t.pending 3) (status_reply t.format t.insert t.lock)
    (cond (eqb t.pending 4) (block_reply t.format w.chars w.attrs t.cursor.row)
    [])))

-- what an action sends: ACK, or with DC1 the pending transfer's reply
unfoldable pub reply_to : ℕ → World → List ℕ
reply_to a w = cond (eqb a Action.ack) (6 ∷ []) (cond (eqb a Action.trigger) (pending_reply w) [])

unfoldable pub answer_to : ℕ → World → List ℕ
answer_to byte w = reply_to (action_for w.state byte) w

-- what a host call leaves: its answer and the three buffers
pub record Hosted : Type 0 where
  pub number : ℕ
  pub taken : ℕ
  pub written : ℕ
  pub world : World
  pub reply : List ℕ

abbrev pub hosted : ℕ → ℕ → ℕ → World → List ℕ → Hosted
hosted number taken written w reply = record { number = number; taken = taken; written = written; world = w; reply = reply }

abbrev pub host_left : HostAnswer → List ℕ → List ℕ → List ℕ → Hosted
host_left r chars attrs reply = hosted r.number r.taken r.written (world r.state chars attrs) reply

-- the same with those bytes of the reply buffer alone that the call wrote
abbrev pub delivered : Hosted → Hosted
delivered h = hosted h.number h.taken h.written h.world (take h.written h.reply)

-- byte by byte, `taken` and `sent` so far; 7 stops before the byte whose reply does not fit
unfoldable pub fed_on : ℕ → List ℕ → ℕ → ℕ → World → List ℕ → Hosted
fed_on rows [] taken sent w reply = hosted 0 taken sent w reply
fed_on rows (b ∷ bs) taken sent w reply =
    let bytes = answer_to b w in
    cond (leb (sent + length bytes) (length reply)) (fed_on rows bs (taken + 1) (sent + length bytes) (stepped rows b w) (written reply sent bytes))
    (hosted 7 taken sent w reply)

-- streams test 1 and 2 first
unfoldable pub host_refusal : ℕ → World → ℕ
host_refusal rows w = first_refusal ((1 when not (is_sized rows w.chars w.attrs)) ∷ (2 when not (is_good rows w.state)) ∷ [])

-- 1 and 2 leave all
unfoldable pub fed : ℕ → World → List ℕ → List ℕ → Hosted
fed rows w bytes reply =
    let n = host_refusal rows w in
    cond (eqb n 0) (fed_on rows bytes 0 0 w reply) (hosted n 0 0 w reply)
