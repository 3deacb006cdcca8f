-- Document 01's own session prints what the document says: the checker computes it. Assumes nothing.
use Prim.Native.Nat.{ℕ}
use mathlib.Core.Path.{refl}
use Rattle.records.specs.Records.{zeros, form_refusal, host_part, key_part, post_part, record_part, ran_from, record_ran}
use Rattle.sessions.specs.Session.{split_in, split, went, session, decimal_in, decimal, three, lines_text, end_text, printed, session_text}
use Rattle.cases.proofs.Rules.{rules}
use Rattle.promises.specs.Example.{SessionExample}

-- what it computes with
unfoldable printing : ℕ
unfolding rules zeros form_refusal host_part key_part post_part record_part ran_from record_ran split_in split went session decimal_in decimal three lines_text end_text printed session_text
printing = 0

pub session-example-96 : SessionExample 96
unfolding printing
session-example-96 = refl

pub session-example-48 : SessionExample 48
unfolding printing
session-example-48 = refl
