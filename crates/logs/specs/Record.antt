-- The reader's promise: what stands at a place of a log, read off 01's table of kinds.
-- Assumes nothing.
use Rattle.std.specs.Prelude.{cond, ◌&&◌, List, ℕ, ◌+◌, ◌*◌, eqb, leb, length, get_or, Option, Some, None, Result, Ok, Err}
use Rattle.logs.specs.declared.Node.{Node}
use Rattle.logs.specs.declared.MessageNumber.{MessageNumber}
use Rattle.logs.specs.declared.Cursor.{Cursor}
use Rattle.logs.specs.declared.Record.{Record}
use Rattle.logs.specs.declared.Record.TheVariants.{Idle, Mark, Send, Receipt}
use Rattle.logs.specs.declared.Reason.{Reason}
use Rattle.logs.specs.declared.Reason.TheVariants.{NoOpening, NodeCount, UnknownKind, CutShort, NoSuchNode, ToItself, NumberTaken, MailFull, NotInFlight, ToAnother, TooManyEvents}
use Rattle.logs.specs.declared.Refusal.{Refusal}

-- ---- refusals

-- the number of a reason in 01's table of refusals
abbrev pub number_of : Reason → ℕ
number_of NoOpening = 2
number_of NodeCount = 3
number_of UnknownKind = 4
number_of CutShort = 5
number_of NoSuchNode = 6
number_of ToItself = 7
number_of NumberTaken = 8
number_of MailFull = 9
number_of NotInFlight = 10
number_of ToAnother = 11
number_of TooManyEvents = 12

abbrev pub refusal : Reason → ℕ → Refusal
refusal r p = record { reason = r; place = p }

-- ---- records

-- the answer to reading a record: it and the place past it, nothing at the end of the log, or a refusal
abbrev pub Step : Type 0
Step = Result (Option (Record × Cursor)) Refusal

-- the answer to reading the first record: the node count and the place past it, or a refusal
abbrev pub Opening : Type 0
Opening = Result (ℕ × Cursor) Refusal

-- a place in a log, as the reader hands it back
abbrev pub place : ℕ → Cursor
place p = record { at = p }

-- the node at place p: one byte
abbrev pub node_at : List ℕ → ℕ → Node
node_at log p = record { 0 = get_or log p 0 }

-- the message number at place p: two bytes, low byte first
abbrev pub number_at : List ℕ → ℕ → MessageNumber
number_at log p = record { 0 = get_or log p 0 + 256 * get_or log (p + 1) 0 }

-- the record r of so many bytes at place p, if the log has them all
unfoldable pub whole_at : List ℕ → ℕ → ℕ → Record → Step
whole_at log p size r = cond (leb (p + size) (length log)) (Ok (Some (r, place (p + size)))) (Err (refusal CutShort p))

-- the four kinds of event: how many bytes, and what they hold after the kind byte
abbrev pub idle_at : List ℕ → ℕ → Step
idle_at log p = whole_at log p 2 (Idle (node_at log (p + 1)))

abbrev pub mark_at : List ℕ → ℕ → Step
mark_at log p = whole_at log p 2 (Mark (node_at log (p + 1)))

abbrev pub send_at : List ℕ → ℕ → Step
send_at log p = whole_at log p 5 (Send (node_at log (p + 1)) (node_at log (p + 2)) (number_at log (p + 3)))

abbrev pub receipt_at : List ℕ → ℕ → Step
receipt_at log p = whole_at log p 4 (Receipt (node_at log (p + 1)) (number_at log (p + 2)))

-- What stands at place p of a log, past its first record.
unfoldable pub record_at : List ℕ → ℕ → Step
record_at log p =
    let kind = get_or log p 0 in
    cond (leb (length log) p) (Ok None)
    (cond (eqb kind 0x11) (idle_at log p)
    (cond (eqb kind 0x12) (mark_at log p)
    (cond (eqb kind 0x13) (send_at log p)
    (cond (eqb kind 0x14) (receipt_at log p)
    (Err (refusal UnknownKind p))))))

-- What stands at the start of a log: kind 0x10, then the node count, from 1 to 32.
unfoldable pub opening_of : List ℕ → Opening
opening_of log =
    let count = get_or log 1 0 in
    cond (leb 2 (length log) && eqb (get_or log 0 0) 0x10)
    (cond (leb 1 count && leb count 32) (Ok (count, place 2)) (Err (refusal NodeCount 1)))
    (Err (refusal NoOpening 0))
