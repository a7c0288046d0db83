-- Which rows of events a barn of n nodes may log, of the events alone, and the bytes of such a row. proofs/Encoded.antt
-- shows that a log is accepted exactly if it is the bytes of a lawful row.
-- Assumes nothing.
use Rattle.std.specs.Prelude.{◌≡◌, List, [], ◌∷◌, ◌++◌, ℕ, ◌/◌, ◌%◌, ◌<◌, ◌≤◌, length, get_or}
use Rattle.order.specs.Order.{Event, idle, mark, send, receipt, Sound}
use Rattle.order.specs.Flight.{in_flight}

-- such a row, the latest event first
pub record Lawful (n : ℕ) (cut : List Event) : Type 0 where
  pub some_node : 1 ≤ n
  pub few_nodes : n ≤ 32
  pub sound : Sound n cut
  pub few_events : length cut ≤ 4096
  pub few_flying : (later past : List Event) → cut ≡ later ++ past → length (in_flight past) ≤ 128

-- the numbers of the list are bytes
abbrev pub Bytes : List ℕ → Type 0
Bytes log = (i : ℕ) → get_or log i 0 < 256

-- the bytes of an event's record, after 01's table of kinds; a two-byte number is low byte first
abbrev pub record_of : Event → List ℕ
record_of (idle i) = 0x11 ∷ i ∷ []
record_of (mark i) = 0x12 ∷ i ∷ []
record_of (send i j m) = 0x13 ∷ i ∷ j ∷ m % 256 ∷ m / 256 ∷ []
record_of (receipt j m) = 0x14 ∷ j ∷ m % 256 ∷ m / 256 ∷ []

-- the bytes of a log of n nodes with these events
unfoldable pub bytes_of : ℕ → List Event → List ℕ
bytes_of n [] = 0x10 ∷ n ∷ []
bytes_of n (e ∷ past) = bytes_of n past ++ record_of e
