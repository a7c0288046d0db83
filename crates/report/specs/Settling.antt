-- What the run's inner functions tell, and what they leave in a work room of just the fixed sizes.
-- Assumes nothing.
use Rattle.std.specs.Prelude.{◌≡◌, List, ℕ, length, replicate, Result, Ok, Err}
use Rattle.order.specs.Order.{Event}
use Rattle.verdict.specs.Verdict.{verdict}
use Rattle.verdict.specs.Table.{Reached, Refused}
use Rattle.room.specs.declared.Mode.{Mode}
use Rattle.room.specs.Room.{barn, Holds}
use Rattle.logs.specs.declared.Refusal.{Refusal}
use Rattle.logs.specs.Record.{number_of}
use Rattle.passes.specs.declared.Tally.{Tally}
use Rattle.passes.specs.Report.{tally_of}
use Rattle.report.specs.declared.Answer.{Answer}
use Rattle.report.specs.Run.{Ending, cramped, refusal, overlong, complete, settled, answer_of, report_after}

-- what the first pass tells: the totals of an accepted log, or its refusal
pub data Looked (mode : Mode) (log : List ℕ) (n : ℕ) : Result Tally Refusal → Type 0 where
  looked_whole : {cut : List Event} → Reached log n (length log) cut → Looked mode log n (Ok (tally_of mode n cut))
  looked_halted : {f : Refusal} → Refused log (number_of f.reason) f.place → Looked mode log n (Err f)

-- all zero
pub record Zero (counts words mail : List ℕ) : Type 0 where
  pub counts_zero : counts ≡ replicate 1024 0
  pub words_zero : words ≡ replicate 1056 0
  pub mail_zero : mail ≡ replicate 4480 0

-- the work room: zero on a refusal, else the state after the last event
abbrev pub FrontAfter : Mode → Ending → (counts words mail : List ℕ) → Type 0
FrontAfter mode cramped counts words mail = Zero counts words mail
FrontAfter mode (refusal x p) counts words mail = Zero counts words mail
FrontAfter mode (overlong n cut) counts words mail = Zero counts words mail
FrontAfter mode (complete n cut) counts words mail = Holds n (barn mode cut) counts words mail

-- the answer, the report room and the work room, by the verdict
pub record Settles (mode : Mode) (log room counts words mail report : List ℕ) (r : Answer) : Type 0 where
  pub answered : r ≡ answer_of mode log (settled (verdict log) (length room))
  pub reported : report ≡ report_after (settled (verdict log) (length room)) room
  pub fronted : FrontAfter mode (settled (verdict log) (length room)) counts words mail
