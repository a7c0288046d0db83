-- Whether a record may go, as the table of refusals says (crates/verdict, Table).
-- Assumes nothing.
use Rattle.std.specs.Prelude.{List, ℕ, Result, Ok, Err}
use Rattle.order.specs.Order.{Event}
use Rattle.logs.specs.declared.Record.{Record}
use Rattle.verdict.specs.Verdict.{event_of}
use Rattle.verdict.specs.Table.{Breaks, Passes}
use Rattle.logs.specs.declared.Refusal.{Refusal}
use Rattle.logs.specs.Record.{number_of}
use Rattle.room.specs.Slots.{slot_for}

-- The answer to a record at place p, for n nodes after the cut: it passes, and its slot is named; or it breaks the rule that has
-- the number of the refusal's reason, at the refusal's place.
pub data Judges (n : ℕ) (cut : List Event) (p : ℕ) (r : Record) : Result ℕ Refusal → Type 0 where
  admits : Passes n cut r → Judges n cut p r (Ok (slot_for cut (event_of r)))
  refuses : {f : Refusal} → Breaks n cut p r (number_of f.reason) f.place → Judges n cut p r (Err f)
