-- The messages in flight at the end of a cut, as a list that computes. proofs/Flight.antt shows that they are just those
-- that fly, and no number twice, so that the list's length is how many are in flight.
-- Assumes nothing.
use Rattle.std.specs.Prelude.{cond, List, [], ◌∷◌, ℕ, eqb, length}
use Rattle.order.specs.Order.{Event, idle, mark, send, receipt}

-- a message: its number, its sender, its destination, and the place of its send
pub record Message : Type 0 where
  pub number : ℕ
  pub from : ℕ
  pub to : ℕ
  pub sent : ℕ

-- the messages whose number is not m
unfoldable pub without : ℕ → List Message → List Message
without m [] = []
without m (x ∷ xs) = cond (eqb x.number m) (without m xs) (x ∷ without m xs)

-- the messages in flight at the end of the cut, the latest first
unfoldable pub in_flight : List Event → List Message
in_flight [] = []
in_flight (idle i ∷ past) = in_flight past
in_flight (mark i ∷ past) = in_flight past
in_flight (send i j m ∷ past) = record { number = m; from = i; to = j; sent = length past } ∷ without m (in_flight past)
in_flight (receipt j m ∷ past) = without m (in_flight past)
