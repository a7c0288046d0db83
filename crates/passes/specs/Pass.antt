-- One pass over a log, record by record: what stands at a place of it, and what a turn and the whole pass come to.
-- Assumes nothing.
use Rattle.std.specs.Prelude.{◌≡◌, List, [], ◌∷◌, ℕ, ◌+◌, ◌^◌, ◌<◌, length, Option, Some, None, Result, Ok, Err}
use Rattle.order.specs.Order.{Event, idle, mark, send, receipt}
use Rattle.logs.specs.Record.{refusal, number_of, record_at}
use Rattle.logs.specs.declared.Record.{Record}
use Rattle.logs.specs.declared.Cursor.{Cursor}
use Rattle.logs.specs.declared.Reason.TheVariants.{UnknownKind, CutShort}
use Rattle.logs.specs.declared.Refusal.{Refusal}
use Rattle.verdict.specs.Table.{Reached, Breaks}
use Rattle.room.specs.declared.Mode.{Mode}
use Rattle.room.specs.Room.{barn, Holds}
use Rattle.machine.specs.Machine.{full}
use Rattle.machine.specs.Answer.{answer}
use Rattle.groups.specs.Groups.{group_of, written}
use Rattle.passes.specs.declared.Tally.{Tally}
use Rattle.passes.specs.Report.{report_of, tally_of}

-- the group that an event adds to the report of a cut: a mark's
abbrev pub group_by : ℕ → List Event → Event → List ℕ
group_by n cut (idle i) = []
group_by n cut (mark i) = group_of n (answer n i (full cut))
group_by n cut (send i j m) = []
group_by n cut (receipt j m) = []

-- the report room after the events of a cut, where each group was written behind the others if there was space for it
unfoldable pub shown_in : ℕ → List ℕ → List Event → List ℕ
shown_in n room [] = room
shown_in n room (e ∷ cut) = written (length (report_of n cut)) (group_by n cut e) (shown_in n room cut)

-- The work room holds the state after the cut, the tally is the cut's, and the report room, which was `room` at first, has those
-- of the cut's groups for which there was space.
pub record Noted (mode : Mode) (n : ℕ) (cut : List Event) (room counts words mail report : List ℕ) (tally : Tally) : Type 0 where
  pub holds : Holds n (barn mode cut) counts words mail
  pub tallied : tally ≡ tally_of mode n cut
  pub shown : report ≡ shown_in n room cut

-- every record before place p passes; they are those of the cut, and it is noted
pub record Stands (mode : Mode) (log : List ℕ) (n p : ℕ) (cut : List Event) (room counts words mail report : List ℕ) (tally : Tally) : Type 0 where
  pub reached : Reached log n p cut
  pub noted : Noted mode n cut room counts words mail report tally

-- whether an event is a mark, and whether it is a send, as a number to add
abbrev pub mark_one : Event → ℕ
mark_one (idle i) = 0
mark_one (mark i) = 1
mark_one (send i j m) = 0
mark_one (receipt j m) = 0

abbrev pub send_one : Event → ℕ
send_one (idle i) = 0
send_one (mark i) = 0
send_one (send i j m) = 1
send_one (receipt j m) = 0

-- the tally with an event more, which carries so many entries and has so many bytes in the report
unfoldable pub counted : Event → ℕ → ℕ → Tally → Tally
counted e carried bytes t =
    record {
      events = t.events + 1;
      marks = t.marks + mark_one e;
      sends = t.sends + send_one e;
      carried = t.carried + carried;
      bytes = t.bytes + bytes;
    }

-- nothing that is counted is near the end of its numbers
abbrev pub Small : Tally → Type 0
Small t = (t.events < 2 ^ 32) × (t.marks < 2 ^ 32) × (t.sends < 2 ^ 32) × (t.carried < 2 ^ 32) × (t.bytes < 2 ^ 32)

-- the log is refused by its record at place p, which follows the events of cut, with this number at this place
pub data Halts (log : List ℕ) (n p : ℕ) (cut : List Event) : ℕ → ℕ → Type 0 where
  halts_4 : {q : ℕ} → record_at log p ≡ Err (refusal UnknownKind q) → Halts log n p cut 4 q
  halts_5 : {q : ℕ} → record_at log p ≡ Err (refusal CutShort q) → Halts log n p cut 5 q
  halts_rule : {r : Record} {c : Cursor} {x q : ℕ} → record_at log p ≡ Ok (Some (r, c)) → Breaks n cut p r x q → Halts log n p cut x q

-- after a turn at place p: it stands one record further on; or p is the end of the log; or the log is refused there, and nothing
-- has changed
pub data Turned (mode : Mode) (log : List ℕ) (n p : ℕ) (cut : List Event) (room counts words mail report : List ℕ) (tally : Tally) : Result (Option (Cursor × Tally)) Refusal → Type 0 where
  goes : {next : Cursor} {e : Event} {sum : Tally} → p < next.at → Stands mode log n next.at (e ∷ cut) room counts words mail report sum
      → Turned mode log n p cut room counts words mail report tally (Ok (Some (next, sum)))
  ends : Stands mode log n (length log) cut room counts words mail report tally
      → Turned mode log n p cut room counts words mail report tally (Ok None)
  stops : {f : Refusal} → Stands mode log n p cut room counts words mail report tally → Halts log n p cut (number_of f.reason) f.place
      → Turned mode log n p cut room counts words mail report tally (Err f)

-- after the pass: it stands at the end of the log, or where the log is refused
pub data Passing (mode : Mode) (log : List ℕ) (n : ℕ) (room counts words mail report : List ℕ) : Result Tally Refusal → Type 0 where
  whole : {cut : List Event} {tally : Tally} → Stands mode log n (length log) cut room counts words mail report tally
      → Passing mode log n room counts words mail report (Ok tally)
  halted : {p : ℕ} {cut : List Event} {tally : Tally} {f : Refusal} → Stands mode log n p cut room counts words mail report tally
      → Halts log n p cut (number_of f.reason) f.place → Passing mode log n room counts words mail report (Err f)
