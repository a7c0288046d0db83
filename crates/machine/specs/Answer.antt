-- What is answered of each mark and of a whole cut, and when an answer is right.
-- Assumes nothing.
use Rattle.std.specs.Prelude.{◌↔◌, Bool, cond, ℕ, zero, suc, ◌+◌, ◌<◌}
use mathlib.Core.List.{List, [], ◌∷◌, ◌++◌, Memᴰ}
use Rattle.order.specs.Order.{Event, idle, mark, send, receipt, Stamp, Numbered, Nearest}
use Rattle.machine.specs.Machine.{Entry, absent, present, State, marked}

-- of a mark: its node, its stamp, and its direct predecessors, each as a node and a number
pub record Answer : Type 0 where
  pub node : ℕ
  pub stamp : ℕ → ℕ
  pub nearest : List (ℕ × ℕ)

-- the nodes below n whose flag is set, ascending, each with its count
unfoldable pub flagged : ℕ → (ℕ → ℕ) → (ℕ → Bool) → List (ℕ × ℕ)
flagged zero count flag = []
flagged (suc k) count flag = flagged k count flag ++ cond (flag k) ((k, count k) ∷ []) []

-- a mark at i, from the state before it: the predecessors are taken before counting, the stamp after
unfoldable pub answer : ℕ → ℕ → State → Answer
answer n i s = record { node = i; stamp = (marked i s).count i; nearest = flagged n (s.count i) (s.flag i) }

-- the answers to the marks of a cut, in log order, by a machine
unfoldable pub answers : ℕ → (List Event → State) → List Event → List Answer
answers n state [] = []
answers n state (idle i ∷ past) = answers n state past
answers n state (mark i ∷ past) = answers n state past ++ (answer n i (state past) ∷ [])
answers n state (send i j m ∷ past) = answers n state past
answers n state (receipt j m ∷ past) = answers n state past

-- the nodes ascend, so none stands there twice
pub data Ascending : List (ℕ × ℕ) → Type 0 where
  ascending_nil : Ascending []
  ascending_cons : {k c : ℕ} {rest : List (ℕ × ℕ)} → ((l d : ℕ) → Memᴰ (l, d) rest → k < l) → Ascending rest → Ascending ((k, c) ∷ rest)

-- The answer says of the mark at place p what the order says: which mark it is, its stamp, and just its direct
-- predecessors, at most one for each node.
pub record Right (es : List Event) (p : ℕ) (a : Answer) : Type 0 where
  pub numbered : Numbered es a.node p (a.stamp a.node)
  pub stamped : (k : ℕ) → Stamp es p k (a.stamp k)
  pub listed : (k c : ℕ) → Memᴰ (k, c) a.nearest ↔ ((f : ℕ) × Numbered es k f c × Nearest es k f p)
  pub ascending : Ascending a.nearest

-- ---- totals

-- an entry counts one if it is there
unfoldable pub weight : Entry → ℕ
weight absent = 0
weight (present c x) = 1

-- how many of a message's first n entries it carries
unfoldable pub entries : ℕ → (ℕ → Entry) → ℕ
entries zero entry = 0
entries (suc k) entry = entries k entry + weight (entry k)

-- how many events, marks and sends a cut has, and how many entries its messages carry
pub record Totals : Type 0 where
  pub events : ℕ
  pub marks : ℕ
  pub sends : ℕ
  pub carried : ℕ

-- what an event adds to the totals
unfoldable pub more : ℕ → (ℕ → ℕ → ℕ → Entry) → Event → Totals → Totals
more n says (idle i) t = record { events = suc t.events; marks = t.marks; sends = t.sends; carried = t.carried }
more n says (mark i) t = record { events = suc t.events; marks = suc t.marks; sends = t.sends; carried = t.carried }
more n says (send i j m) t =
    record { events = suc t.events; marks = t.marks; sends = suc t.sends; carried = t.carried + entries n (says i j) }
more n says (receipt j m) t = record { events = suc t.events; marks = t.marks; sends = t.sends; carried = t.carried }

-- the totals of a cut in a barn of n nodes, where `says past i j` is the message that i sends to j after the cut `past`
unfoldable pub totals : ℕ → (List Event → ℕ → ℕ → ℕ → Entry) → List Event → Totals
totals n says [] = record { events = 0; marks = 0; sends = 0; carried = 0 }
totals n says (e ∷ past) = more n (says past) e (totals n says past)
