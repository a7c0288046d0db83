-- 01's table "Refusal numbers", row by row, as facts about the log. proofs/Verdict.antt shows that the verdict is just
-- this: one row of the table, and no two at once.
-- Assumes nothing.
use Rattle.std.specs.Prelude.{◌≡◌, ◌≢◌, List, [], ◌∷◌, ℕ, ◌+◌, ◌<◌, ◌≤◌, length, Some, Ok, Err}
use Rattle.order.specs.Order.{Event, idle, mark, send, receipt, node_of, Flying, Allowed}
use Rattle.order.specs.Flight.{in_flight}
use Rattle.logs.specs.declared.Node.{Node}
use Rattle.logs.specs.declared.MessageNumber.{MessageNumber}
use Rattle.logs.specs.declared.Cursor.{Cursor}
use Rattle.logs.specs.declared.Record.{Record}
use Rattle.logs.specs.declared.Record.TheVariants.{Send, Receipt}
use Rattle.logs.specs.Record.{refusal, record_at, opening_of}
use Rattle.verdict.specs.Verdict.{Verdict, refused, accepted, event_of}
use Rattle.logs.specs.declared.Reason.TheVariants.{NoOpening, NodeCount, UnknownKind, CutShort}

-- The whole record at place p, for n nodes after the events of cut, breaks the rule of this number, and none that is tested
-- before it: 12, 6 (sender first), 7, 8, 9, 10, 11. The last number is the refusal's place.
pub data Breaks (n : ℕ) (cut : List Event) (p : ℕ) : Record → ℕ → ℕ → Type 0 where
  -- a 4,097th event: the kind byte
  breaks_12 : {r : Record} → 4096 ≤ length cut → Breaks n cut p r 12 p
  -- the node is not below the node count: that byte
  breaks_6 : {r : Record} → length cut < 4096 → n ≤ node_of (event_of r) → Breaks n cut p r 6 (p + 1)
  -- the destination is not below the node count: that byte
  breaks_6_to : {i j : Node} {m : MessageNumber} → length cut < 4096 → i.0 < n → n ≤ j.0 → Breaks n cut p (Send i j m) 6 (p + 2)
  -- the destination equals the sender: the destination byte
  breaks_7 : {i j : Node} {m : MessageNumber} → length cut < 4096 → i.0 < n → j.0 < n → i.0 ≡ j.0 → Breaks n cut p (Send i j m) 7 (p + 2)
  -- the message number is in flight already: its first byte
  breaks_8 : {i j : Node} {m : MessageNumber} {a b q : ℕ} → length cut < 4096 → i.0 < n → j.0 < n → i.0 ≢ j.0
      → Flying m.0 a b cut q → Breaks n cut p (Send i j m) 8 (p + 3)
  -- 128 messages are in flight already: the kind byte
  breaks_9 : {i j : Node} {m : MessageNumber} → length cut < 4096 → Allowed n cut (send i.0 j.0 m.0)
      → 128 ≤ length (in_flight cut) → Breaks n cut p (Send i j m) 9 p
  -- a receipt of a number not in flight: its first byte
  breaks_10 : {j : Node} {m : MessageNumber} → length cut < 4096 → j.0 < n
      → ((a b q : ℕ) → ¬ Flying m.0 a b cut q) → Breaks n cut p (Receipt j m) 10 (p + 2)
  -- the message is in flight to another node: the number's first byte
  breaks_11 : {j : Node} {m : MessageNumber} {a b q : ℕ} → length cut < 4096 → j.0 < n
      → Flying m.0 a b cut q → b ≢ j.0 → Breaks n cut p (Receipt j m) 11 (p + 2)

-- where the event is a send, less than 128 messages are in flight
abbrev pub Space : List Event → Event → Type 0
Space cut (idle i) = Unit {0}
Space cut (mark i) = Unit {0}
Space cut (send i j m) = length (in_flight cut) < 128
Space cut (receipt j m) = Unit {0}

-- the record breaks no rule: there is space for its event, which may follow the cut, and for its message
abbrev pub Passes : ℕ → List Event → Record → Type 0
Passes n cut r = (length cut < 4096) × Allowed n cut (event_of r) × Space cut (event_of r)

-- Every record before place p of the log is whole and passes; they are those of the cut, for n nodes.
pub data Reached (log : List ℕ) (n : ℕ) : ℕ → List Event → Type 0 where
  reached_first : {c : Cursor} → opening_of log ≡ Ok (n, c) → Reached log n c.at []
  reached_next : {p : ℕ} {cut : List Event} {r : Record} {c : Cursor}
      → Reached log n p cut → record_at log p ≡ Ok (Some (r, c)) → Passes n cut r → Reached log n c.at (event_of r ∷ cut)

-- a whole record ends just before place p of the log
pub data Ends (log : List ℕ) : ℕ → Type 0 where
  ends_first : {n : ℕ} {c : Cursor} → opening_of log ≡ Ok (n, c) → Ends log c.at
  ends_next : {p : ℕ} {r : Record} {c : Cursor} → Ends log p → record_at log p ≡ Ok (Some (r, c)) → Ends log c.at

-- a row of the table: the log is refused with this number at this place
pub data Refused (log : List ℕ) : ℕ → ℕ → Type 0 where
  -- no whole 0x10 record at the start
  refused_2 : {q : ℕ} → opening_of log ≡ Err (refusal NoOpening q) → Refused log 2 q
  -- node count 0 or above 32
  refused_3 : {q : ℕ} → opening_of log ≡ Err (refusal NodeCount q) → Refused log 3 q
  -- unknown kind, or a later 0x10
  refused_4 : {n p q : ℕ} {cut : List Event} → Reached log n p cut → record_at log p ≡ Err (refusal UnknownKind q) → Refused log 4 q
  -- record cut short
  refused_5 : {n p q : ℕ} {cut : List Event} → Reached log n p cut → record_at log p ≡ Err (refusal CutShort q) → Refused log 5 q
  -- a rule broken by a whole record
  refused_rule : {n p x q : ℕ} {cut : List Event} {r : Record} {c : Cursor}
      → Reached log n p cut → record_at log p ≡ Ok (Some (r, c)) → Breaks n cut p r x q → Refused log x q

-- the verdict that the table gives: a refusal of one of its rows, or row 0, where every record of the log passes
pub data Row (log : List ℕ) : Verdict → Type 0 where
  row_accepted : {n : ℕ} {cut : List Event} → Reached log n (length log) cut → Row log (accepted n cut)
  row_refused : {x q : ℕ} → Refused log x q → Row log (refused x q)
