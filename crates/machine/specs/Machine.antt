-- The protocol as a machine that goes through a cut: what each node holds, what a message says, and the machine of full
-- messages (000, rules R0 to R3; 01, "The steps").
-- Assumes nothing.
use Rattle.std.specs.Prelude.{Bool, true, false, ◌&&◌, cond, List, [], ◌∷◌, ℕ, suc, max, eqb, ltb}
use Rattle.order.specs.Order.{Event, idle, mark, send, receipt}

-- f, but a at i
unfoldable pub put : {A : Type 0} → ℕ → A → (ℕ → A) → ℕ → A
put i a f j = cond (eqb i j) a (f j)

-- what a message says of a node: nothing, or a count and its flag
pub data Entry : Type 0 where
  absent : Entry
  present : ℕ → Bool → Entry

-- a message as it was sent: its sender, and its entry for each node
pub record Letter : Type 0 where
  pub from : ℕ
  pub entry : ℕ → Entry

-- node i's count and flag for each node k (`count i k`, `flag i k`), and the letter last sent under each number
pub record State : Type 0 where
  pub count : ℕ → ℕ → ℕ
  pub flag : ℕ → ℕ → Bool
  pub letter : ℕ → Letter

-- R0: all zero, and no letter says anything
unfoldable pub start : State
start = record { count = λ i k. 0; flag = λ i k. false; letter = λ m. record { from = 0; entry = λ k. absent } }

-- R1, a mark at i: its own count rises by one, its own flag is set, all its other flags are cleared
unfoldable pub marked : ℕ → State → State
marked i s =
    record {
      count = put i (put i (suc (s.count i i)) (s.count i)) s.count;
      flag = put i (put i true (λ k. false)) s.flag;
      letter = s.letter;
    }

-- the flag where counts c and d meet, with flags x and y: the larger count's; of equal counts the lesser of the two
unfoldable pub meet : ℕ → Bool → ℕ → Bool → Bool
meet c x d y = cond (ltb c d) y (cond (ltb d c) x (x && y))

-- the count, and the flag, of a receiver that had count c and flag x
unfoldable pub take_count : ℕ → Entry → ℕ
take_count c absent = c
take_count c (present d y) = max c d

unfoldable pub take_flag : ℕ → Bool → Entry → Bool
take_flag c x absent = x
take_flag c x (present d y) = meet c x d y

-- R3, node j receives the letter of number m
unfoldable pub received : ℕ → ℕ → State → State
received j m s =
    record {
      count = put j (λ k. take_count (s.count j k) ((s.letter m).entry k)) s.count;
      flag = put j (λ k. take_flag (s.count j k) (s.flag j k) ((s.letter m).entry k)) s.flag;
      letter = s.letter;
    }

-- An event, where `says i j k` is the entry for k of a message that i sends to j. A send (R2) changes no count and no flag.
unfoldable pub step : (ℕ → ℕ → ℕ → Entry) → Event → State → State
step says (idle i) s = s
step says (mark i) s = marked i s
step says (send i j m) s = record { count = s.count; flag = s.flag; letter = put m (record { from = i; entry = says i j }) s.letter }
step says (receipt j m) s = received j m s

-- a full send: all counts and flags go along
unfoldable pub whole : State → ℕ → ℕ → ℕ → Entry
whole s i j k = present (s.count i k) (s.flag i k)

-- the machine of full messages, at the end of a cut
unfoldable pub full : List Event → State
full [] = start
full (e ∷ past) = let s = full past in step (whole s) e s
