-- What happened before what in a log, of the log alone.
--
-- A cut of a log is a list of events, THE LATEST FIRST, so that an earlier cut of the same log is a tail of it. An event's
-- place is the number of events before it in the log, the length of the cut that it was added to, so a place means the
-- same event in every later cut. Nodes and message numbers are numbers from 0.
-- Assumes nothing.
use Rattle.std.specs.Prelude.{◌≡◌, ◌⊎◌, ◌≢◌, List, [], ◌∷◌, ℕ, suc, ◌<◌, length}

-- What a controller logs. `idle i`: an event of no interest at node i. `mark i`: a mark at node i.
-- `send i j m`: node i sends message number m to node j. `receipt j m`: node j receives message number m.
pub data Event : Type 0 where
  idle : ℕ → Event
  mark : ℕ → Event
  send : ℕ → ℕ → ℕ → Event
  receipt : ℕ → ℕ → Event

-- the node at which the event is
abbrev pub node_of : Event → ℕ
node_of (idle i) = i
node_of (mark i) = i
node_of (send i j m) = i
node_of (receipt j m) = j

-- the event is a send or a receipt of message number m
abbrev pub Names : Event → ℕ → Type 0
Names (idle i) m = ⊥
Names (mark i) m = ⊥
Names (send i j l) m = l ≡ m
Names (receipt j l) m = l ≡ m

-- the event at place p of the cut is e
pub data At : List Event → ℕ → Event → Type 0 where
  at_head : {e : Event} {past : List Event} → At (e ∷ past) (length past) e
  at_tail : {x e : Event} {past : List Event} {p : ℕ} → At past p e → At (x ∷ past) p e

-- the last event of node i in the cut is at place p
pub data Last (i : ℕ) : List Event → ℕ → Type 0 where
  last_head : {e : Event} {past : List Event} → node_of e ≡ i → Last i (e ∷ past) (length past)
  last_tail : {e : Event} {past : List Event} {p : ℕ} → node_of e ≢ i → Last i past p → Last i (e ∷ past) p

-- Message number m is in flight at the end of the cut: node i sent it to node j at place p, and no event since has named
-- the number. A receipt ends a flight; the number may then be sent again.
pub data Flying (m i j : ℕ) : List Event → ℕ → Type 0 where
  flying_head : {past : List Event} → Flying m i j (send i j m ∷ past) (length past)
  flying_tail : {e : Event} {past : List Event} {p : ℕ} → ¬ Names e m → Flying m i j past p → Flying m i j (e ∷ past) p

-- Event a directly precedes event b if they are consecutive on one node, or a is a send and b the receipt of that message.
pub data Link : List Event → ℕ → ℕ → Type 0 where
  link_node : {e : Event} {past : List Event} {a : ℕ} → Last (node_of e) past a → Link (e ∷ past) a (length past)
  link_message : {past : List Event} {m i j a : ℕ} → Flying m i j past a → Link (receipt j m ∷ past) a (length past)
  link_tail : {e : Event} {past : List Event} {a b : ℕ} → Link past a b → Link (e ∷ past) a b

-- "Before" is the closure of that.
pub data Before (es : List Event) : ℕ → ℕ → Type 0 where
  direct : {a b : ℕ} → Link es a b → Before es a b
  onward : {a b c : ℕ} → Before es a b → Link es b c → Before es a c

-- p is e or before e
abbrev pub Within : List Event → ℕ → ℕ → Type 0
Within es e p = (p ≡ e) ⊎ Before es p e

-- exactly c of the places below m have the property P
pub data Counts (P : ℕ → Type 0) : ℕ → ℕ → Type 0 where
  counts_zero : Counts P 0 0
  counts_yes : {m c : ℕ} → P m → Counts P m c → Counts P (suc m) (suc c)
  counts_no : {m c : ℕ} → ¬ P m → Counts P m c → Counts P (suc m) c

-- stamp of e at node k: the number of marks of k that are e or before e
abbrev pub Stamp : List Event → ℕ → ℕ → ℕ → Type 0
Stamp es e k c = Counts (λ p. At es p (mark k) × Within es e p) (length es) c

-- the event at place f is mark number c of node k: marks of a node are numbered from 1, in log order
abbrev pub Numbered : List Event → ℕ → ℕ → ℕ → Type 0
Numbered es k f c = At es f (mark k) × Counts (λ p. At es p (mark k)) (suc f) c

-- the event at f, of node k, is a direct predecessor of e: f is a mark before e, and no mark g has f before g and g before e
abbrev pub Nearest : List Event → ℕ → ℕ → ℕ → Type 0
Nearest es k f e = At es f (mark k) × Before es f e × ((l g : ℕ) → At es g (mark l) → Before es f g → ¬ Before es g e)

-- The event may follow the cut in a barn of n nodes: its nodes are below n; a send goes to another node, and its number
-- is not in flight; a receipt is of a message in flight to its node.
abbrev pub Allowed : ℕ → List Event → Event → Type 0
Allowed n past (idle i) = i < n
Allowed n past (mark i) = i < n
Allowed n past (send i j m) = (i < n) × (j < n) × (i ≢ j) × ((a b p : ℕ) → ¬ Flying m a b past p)
Allowed n past (receipt j m) = (j < n) × ((i : ℕ) × (p : ℕ) × Flying m i j past p)

-- a cut whose every event was allowed when it was added
pub data Sound (n : ℕ) : List Event → Type 0 where
  sound_nil : Sound n []
  sound_cons : {e : Event} {past : List Event} → Allowed n past e → Sound n past → Sound n (e ∷ past)
