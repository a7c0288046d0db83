-- 01's shortcuts that give wrong arrows, each built and run: where it leads to another answer or another state than the
-- machines', on log A, on B, or on B and three events more. Computed.
-- Assumes nothing.
use mathlib.Core.Path.{◌≡◌, refl}
use mathlib.Core.Bool.{Bool, true, false, cond, ◌&&◌, ◌||◌}
use mathlib.Core.List.{List, [], ◌∷◌, map}
use Prim.Native.Nat.{ℕ}
use lib.Dec.{eqb, ltb}
use lib.ListN.{drop}
use Rattle.order.specs.Order.{Event, idle, mark, send, receipt}
use Rattle.order.specs.Flight.{Message, without, in_flight}
use Rattle.order.proofs.Samples.{cut_a, cut_b}
use Rattle.machine.specs.Machine.{put, Entry, absent, present, State, start, marked, meet, take_count, take_flag, received, step, whole, full}
use Rattle.machine.specs.Short.{Knowledge, offer, brief, short, Columns, note, learn_columns, columns}
use Rattle.machine.specs.Answer.{flagged, answer, answers, weight, entries, more, totals}
use Rattle.machine.proofs.Cases.{firsts, show}

-- the numbered pairs of a row
abbrev pairs : ℕ → (ℕ → ℕ) → List (ℕ × ℕ)
pairs n f = flagged n f (λ k. true)

-- ---- the shortcuts

-- the last mark of every node in the stamp
unfoldable pub every_last : ℕ → State → ℕ → List (ℕ × ℕ)
every_last n s i = flagged n (s.count i) (λ k. ltb 0 (s.count i k))

-- a known count left out although its flag is clear
abbrev pub hasty : Knowledge
hasty = record { Held = Columns; none = λ i k j. false; spares = λ s held i j k. held i k j; learn = learn_columns }

-- predecessors listed after the own count has risen
unfoldable pub late : ℕ → State → ℕ → List (ℕ × ℕ)
late n s i = flagged n ((marked i s).count i) ((marked i s).flag i)

-- an overtaken message treated as a fault: the receipt of number m at j finds an older message from the same sender there
unfoldable pub of_number : (Message → ℕ) → ℕ → List Message → ℕ
of_number part m [] = 0
of_number part m (x ∷ xs) = cond (eqb x.number m) (part x) (of_number part m xs)

unfoldable pub older : ℕ → ℕ → ℕ → List Message → Bool
older i j p [] = false
older i j p (x ∷ xs) = (eqb x.from i && (eqb x.to j && ltb x.sent p)) || older i j p xs

unfoldable pub overtakes : List Event → Bool
overtakes [] = false
overtakes (idle i ∷ past) = overtakes past
overtakes (mark i ∷ past) = overtakes past
overtakes (send i j m ∷ past) = overtakes past
overtakes (receipt j m ∷ past) =
    let flying = in_flight past in
    older (of_number (λ x. x.from) m flying) j (of_number (λ x. x.sent) m flying) flying || overtakes past

-- relying on order: the message that comes last is taken for the newest
unfoldable pub last_wins : List Event → State
last_wins [] = start
last_wins (idle i ∷ past) = last_wins past
last_wins (mark i ∷ past) = marked i (last_wins past)
last_wins (send i j m ∷ past) = step (whole (last_wins past)) (send i j m) (last_wins past)
last_wins (receipt j m ∷ past) =
    let s = last_wins past in
    record {
      count = put j (λ k. take_count 0 ((s.letter m).entry k)) s.count;
      flag = put j (λ k. take_flag 0 false ((s.letter m).entry k)) s.flag;
      letter = s.letter;
    }

-- what is known of a receiver kept after the count has risen
unfoldable pub note_old : ℕ → ℕ → Entry → (ℕ → Bool) → ℕ → Bool
note_old j c absent column = column
note_old j c (present d y) column = cond (ltb d c) column (put j true column)

unfoldable pub learn_old : Event → State → Columns → Columns
learn_old (idle i) s held = held
learn_old (mark i) s held = held
learn_old (send i j m) s held = held
learn_old (receipt i m) s held = put i (λ k. note_old (s.letter m).from (s.count i k) ((s.letter m).entry k) (held i k)) held

abbrev pub stale : Knowledge
stale = record { Held = Columns; none = λ i k j. false; spares = λ s held i j k. s.flag i k && held i k j; learn = learn_old }

-- ---- and what they answer

-- what the machines answer, and what the shortcut does
pub record Row : Type 0 where
  pub right : List (ℕ × ℕ)
  pub wrong : List (ℕ × ℕ)

abbrev row : List (ℕ × ℕ) → List (ℕ × ℕ) → Row
row right wrong = record { right = right; wrong = wrong }

-- the predecessors that a row of counts and flags lists
abbrev listed : ℕ → State → ℕ → List (ℕ × ℕ)
listed n s i = flagged n (s.count i) (s.flag i)

-- log B, and then node 0 tells node 1, which marks
abbrev pub cut_c : List Event
cut_c = mark 1 ∷ receipt 1 4 ∷ send 0 1 4 ∷ cut_b

abbrev pub ran : List Row
ran =
    row (listed 3 (full (drop 1 cut_a)) 2) (every_last 3 (full (drop 1 cut_a)) 2)
    ∷ row (listed 2 (short columns (drop 2 cut_b)).state 0) (listed 2 (short hasty (drop 2 cut_b)).state 0)
    ∷ row (listed 3 (full []) 0) (late 3 (full []) 0)
    ∷ row (pairs 2 ((full cut_b).count 0)) (pairs 2 ((last_wins cut_b).count 0))
    ∷ row (pairs 2 ((short columns cut_c).state.count 1)) (pairs 2 ((short stale cut_c).state.count 1))
    ∷ []

-- In turn: A's mark 2.1 from 0.1 too; B's mark 0.2 from 0.1 too; A's mark 0.1 from itself; after B node 0 with 1 0 for 2 1; and
-- after B and three events more mark 1.2 stamped 1 2 for 2 2.
pub shortcuts_differ : ran
    ≡ row ((1, 1) ∷ []) ((0, 1) ∷ (1, 1) ∷ [])
    ∷ row ((1, 1) ∷ []) ((0, 1) ∷ (1, 1) ∷ [])
    ∷ row [] ((0, 1) ∷ [])
    ∷ row ((0, 2) ∷ (1, 1) ∷ []) ((0, 1) ∷ (1, 0) ∷ [])
    ∷ row ((0, 2) ∷ (1, 2) ∷ []) ((0, 1) ∷ (1, 2) ∷ [])
    ∷ []
unfolding every_last late last_wins flagged full whole step start marked received meet take_count take_flag put short brief offer note learn_columns note_old learn_old
shortcuts_differ = refl

-- B has a message that overtakes, and is accepted; to call it a fault would refuse B
pub overtaken_in_B : (overtakes cut_a ≡ false) × (overtakes cut_b ≡ true)
unfolding overtakes older of_number in_flight without
overtaken_in_B = (refl, refl)

-- On B itself what is kept too long changes what node 0 holds node 1 to know of its second mark, which no message has told.
pub stale_on_B : ((short stale cut_b).held 0 0 1 ≡ true) × ((short columns cut_b).held 0 0 1 ≡ false)
unfolding step start marked received meet take_count take_flag put short brief offer note learn_columns note_old learn_old
stale_on_B = (refl, refl)

-- and no stamp, no arrow and no carried entry of A or B shows it; nor do their stamps and arrows show who relies on order
pub unseen : (map (show 3) (answers 3 (λ es. (short stale es).state) cut_a) ≡ map (show 3) (answers 3 full cut_a))
    × (map (show 2) (answers 2 (λ es. (short stale es).state) cut_b) ≡ map (show 2) (answers 2 full cut_b))
    × (totals 3 (λ past. brief (short stale past)) cut_a ≡ totals 3 (λ past. brief (short columns past)) cut_a)
    × (totals 2 (λ past. brief (short stale past)) cut_b ≡ totals 2 (λ past. brief (short columns past)) cut_b)
    × (map (show 3) (answers 3 last_wins cut_a) ≡ map (show 3) (answers 3 full cut_a))
    × (map (show 2) (answers 2 last_wins cut_b) ≡ map (show 2) (answers 2 full cut_b))
unfolding answers answer flagged firsts totals more weight entries last_wins full whole step start marked received meet take_count take_flag put short brief offer note learn_columns note_old learn_old
unseen = (refl, refl, refl, refl, refl, refl)
