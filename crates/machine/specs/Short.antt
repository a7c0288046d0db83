-- The machine of short messages, over any kind of knowledge of what the other node needs no more; and the base's
-- knowledge, the columns of bits (000, section 5.2; 01, "The steps").
-- Assumes nothing.
use Rattle.std.specs.Prelude.{Bool, true, false, ◌&&◌, cond, List, [], ◌∷◌, ℕ, zero, suc, ltb}
use Rattle.order.specs.Order.{Event, idle, mark, send, receipt}
use Rattle.machine.specs.Machine.{put, Entry, absent, present, State, start, step}

-- A kind of knowledge: what the nodes hold; whether i, about to send to j, may spare k's entry; and what an event teaches,
-- from the state before it.
pub record Knowledge : Type 1 where
  pub Held : Type 0
  pub none : Held
  pub spares : State → Held → ℕ → ℕ → ℕ → Bool
  pub learn : Event → State → Held → Held

-- the entry for a count and its flag: carried exactly when the count is above zero and the entry is not spared
unfoldable pub offer : ℕ → Bool → Bool → Entry
offer zero x spared = absent
offer (suc c) x spared = cond spared absent (present (suc c) x)

-- the machine's state, and what the nodes hold
pub record Short (K : Knowledge) : Type 0 where
  pub state : State
  pub held : K.Held

-- the entry for k of a short message that i sends to j
unfoldable pub brief : {K : Knowledge} → Short K → ℕ → ℕ → ℕ → Entry
brief {K} s i j k = offer (s.state.count i k) (s.state.flag i k) (K.spares s.state s.held i j k)

-- the machine of short messages, at the end of a cut
unfoldable pub short : (K : Knowledge) → List Event → Short K
short K [] = record { state = start; held = K.none }
short K (e ∷ past) =
    let s = short K past in
    record { state = step (brief s) e s.state; held = K.learn e s.state s.held }

-- ---- columns: bit j of the column of (i, k) says that j has brought i k's count as it now stands at i

abbrev pub Columns : Type 0
Columns = ℕ → ℕ → ℕ → Bool

-- the column of a node's count c after j's entry: a larger count starts it anew, an equal one adds j
unfoldable pub note : ℕ → ℕ → Entry → (ℕ → Bool) → ℕ → Bool
note j c absent column = column
note j c (present d y) column = cond (ltb c d) (put j true (λ l. false)) (cond (ltb d c) column (put j true column))

-- a mark empties its own column, for its count is new; a receipt notes each entry of the letter
unfoldable pub learn_columns : Event → State → Columns → Columns
learn_columns (idle i) s held = held
learn_columns (mark i) s held = put i (put i (λ j. false) (held i)) held
learn_columns (send i j m) s held = held
learn_columns (receipt i m) s held =
    put i (λ k. note (s.letter m).from (s.count i k) ((s.letter m).entry k) (held i k)) held

-- the knowledge of columns, whatever it spares
abbrev pub noting : (State → Columns → ℕ → ℕ → ℕ → Bool) → Knowledge
noting spares = record { Held = Columns; none = λ i k j. false; spares = spares; learn = learn_columns }

-- an entry is spared if its flag is set and the receiver has brought that very count
abbrev pub columns : Knowledge
columns =
    record {
      Held = Columns;
      none = λ i k j. false;
      spares = λ s held i j k. s.flag i k && held i k j;
      learn = learn_columns;
    }
