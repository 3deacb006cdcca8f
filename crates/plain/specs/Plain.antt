-- A host stream by the plain decisions (document 01, 'Reading host bytes' and 'Replies'): one byte's step, what it sends, and a stream of bytes. That it is the stream of
-- the table's reader is promised (`Readers` of the promises). Assumes nothing.
use Rattle.std.specs.Prelude.{ℕ, ◌+◌, ◌%◌, cond, List, [], ◌∷◌, length, leb, eqb}
use Rattle.cells.specs.Memory.{written}
use Rattle.terminal.specs.declared.Terminal.{Terminal}
use Rattle.terminal.specs.State.{World, stated, reread}
use Rattle.terminal.specs.Acts.{acted}
use Rattle.terminal.specs.Noted.{noted}
use Rattle.streams.specs.Streams.{reply_to, Hosted, hosted, host_refusal}
use Rattle.decisions.specs.Decisions.{Step, decided}

-- what the decisions make of a byte
unfoldable pub read_of : Terminal → ℕ → Step
read_of t byte = decided t.reading t.number byte

-- it is done: its action, the rows that it changes noted, then the reading state and the number after it
unfoldable pub stepped_to : ℕ → Step → ℕ → World → World
stepped_to rows d byte w =
    let v = noted rows w (acted rows d.action (byte % 128) w) in
    stated v (reread v.state d.reading d.number)

unfoldable pub plainly_stepped : ℕ → ℕ → World → World
plainly_stepped rows byte w = stepped_to rows (read_of w.state byte) byte w

-- what it sends
unfoldable pub plain_answer : ℕ → World → List ℕ
plain_answer byte w = reply_to (read_of w.state byte).action w

-- byte by byte, `taken` and `sent` so far; 7 stops before the byte whose reply does not fit
unfoldable pub plainly_fed_on : ℕ → List ℕ → ℕ → ℕ → World → List ℕ → Hosted
plainly_fed_on rows [] taken sent w reply = hosted 0 taken sent w reply
plainly_fed_on rows (b ∷ bs) taken sent w reply =
    let bytes = plain_answer b w in
    cond (leb (sent + length bytes) (length reply)) (plainly_fed_on rows bs (taken + 1) (sent + length bytes) (plainly_stepped rows b w) (written reply sent bytes))
    (hosted 7 taken sent w reply)

-- 1 and 2 leave all
unfoldable pub plainly_fed : ℕ → World → List ℕ → List ℕ → Hosted
plainly_fed rows w bytes reply =
    let n = host_refusal rows w in
    cond (eqb n 0) (plainly_fed_on rows bytes 0 0 w reply) (hosted n 0 0 w reply)
