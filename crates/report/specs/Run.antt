-- The promise of a run: its answer and the contents of all four rooms, for every input (01, "Refusal numbers").
-- Assumes nothing.
use Rattle.std.specs.Prelude.{◌≡◌, Bool, cond, List, ℕ, leb, length, take, drop}
use Rattle.order.specs.Order.{Event}
use Rattle.verdict.specs.Verdict.{Verdict, refused, accepted, verdict}
use Rattle.room.specs.declared.Mode.{Mode}
use Rattle.room.specs.Room.{barn, Holds, fits, zeroed}
use Rattle.groups.specs.Groups.{laid}
use Rattle.passes.specs.declared.Tally.{Tally}
use Rattle.report.specs.declared.Answer.{Answer}
use Rattle.report.specs.declared.Answer.TheVariants.{Accepted, SmallRooms, Refused, SmallReport}
use Rattle.passes.specs.Report.{report_of, tally_of, bytes_alone}

-- ---- 01's number, place and totals for each answer

abbrev pub number_of : Answer → ℕ
number_of (Accepted p t) = 0
number_of SmallRooms = 1
number_of (Refused x p) = x
number_of (SmallReport p b) = 13

abbrev pub place_of : Answer → ℕ
place_of (Accepted p t) = p
place_of SmallRooms = 0
place_of (Refused x p) = p
place_of (SmallReport p b) = p

-- all zero on a refusal, but 13 gives the bytes that the whole report needs
abbrev pub totals_of : Answer → Tally
totals_of (Accepted p t) = t
totals_of SmallRooms = bytes_alone 0
totals_of (Refused x p) = bytes_alone 0
totals_of (SmallReport p b) = bytes_alone b

-- ---- how a run ends

-- A work room is too small; the log is refused with a number at a place; the log is accepted, with so many nodes and these
-- events, and its report is longer than the room for it; or it is not.
pub data Ending : Type 0 where
  cramped : Ending
  refusal : ℕ → ℕ → Ending
  overlong : ℕ → List Event → Ending
  complete : ℕ → List Event → Ending

-- by the verdict on the log, for a report room of so many bytes
unfoldable pub settled : Verdict → ℕ → Ending
settled (refused x p) size = refusal x p
settled (accepted n cut) size = cond (leb (length (report_of n cut)) size) (complete n cut) (overlong n cut)

-- the work rooms come first
unfoldable pub ending : List ℕ → Bool → ℕ → Ending
ending log fit size = cond fit (settled (verdict log) size) cramped

-- ---- what it leaves

abbrev pub answer_of : Mode → List ℕ → Ending → Answer
answer_of mode log cramped = SmallRooms
answer_of mode log (refusal x p) = Refused x p
answer_of mode log (overlong n cut) = SmallReport (length log) (length (report_of n cut))
answer_of mode log (complete n cut) = Accepted (length log) (tally_of mode n cut)

-- the report fills the front of its room; on a refusal the room is as it was
abbrev pub report_after : Ending → List ℕ → List ℕ
report_after cramped room = room
report_after (refusal x p) room = room
report_after (overlong n cut) room = room
report_after (complete n cut) room = laid 0 (report_of n cut) room

-- the work rooms: as they were where they are too small; else only their fixed sizes change, to zero on a refusal, and to the
-- state after the last event
abbrev pub RoomsAfter : Mode → Ending → (counts words mail counts' words' mail' : List ℕ) → Type 0
RoomsAfter mode cramped counts words mail counts' words' mail' = (counts' ≡ counts) × (words' ≡ words) × (mail' ≡ mail)
RoomsAfter mode (refusal x p) counts words mail counts' words' mail' =
    (counts' ≡ zeroed 1024 counts) × (words' ≡ zeroed 1056 words) × (mail' ≡ zeroed 4480 mail)
RoomsAfter mode (overlong n cut) counts words mail counts' words' mail' =
    (counts' ≡ zeroed 1024 counts) × (words' ≡ zeroed 1056 words) × (mail' ≡ zeroed 4480 mail)
RoomsAfter mode (complete n cut) counts words mail counts' words' mail' =
    Holds n (barn mode cut) (take 1024 counts') (take 1056 words') (take 4480 mail')
    × (drop 1024 counts' ≡ drop 1024 counts) × (drop 1056 words' ≡ drop 1056 words) × (drop 4480 mail' ≡ drop 4480 mail)

-- The promise of a run. From it alone follow the refusal table, demands 2 and 3, and that no other result meets it
-- (proofs/OneResult, crates/demands: Refusals, Arrows, Messages).
pub record Ran
    (mode : Mode) (log counts words mail report : List ℕ)
    (counts' words' mail' report' : List ℕ) (r : Answer) : Type 0 where
  pub answer_is : r ≡ answer_of mode log (ending log (fits counts words mail) (length report))
  pub report_is : report' ≡ report_after (ending log (fits counts words mail) (length report)) report
  pub rooms_are : RoomsAfter mode (ending log (fits counts words mail) (length report)) counts words mail counts' words' mail'
