-- 01's worked examples, computed: stamps and direct predecessors of logs A and B by either machine, and what the short
-- messages of each carry; and two logs on which the rule's word "exactly as it now stands" decides.
-- Assumes nothing.
use mathlib.Core.Path.{◌≡◌, refl}
use mathlib.Core.Bool.{true, false}
use mathlib.Core.List.{List, [], ◌∷◌, ◌++◌, map}
use Prim.Native.Nat.{ℕ, zero, suc}
use lib.ListN.{drop}
use Rattle.order.specs.Order.{Event, idle, mark, send, receipt}
use Rattle.order.proofs.Samples.{cut_a, cut_b}
use Rattle.machine.specs.Machine.{put, absent, present, State, start, marked, meet, take_count, take_flag, received, step, whole, full}
use Rattle.machine.specs.Short.{offer, brief, short, note, learn_columns, columns}
use Rattle.machine.specs.Answer.{Answer, flagged, answer, answers, weight, entries, Totals, more, totals}

-- the first n values of a function
unfoldable pub firsts : ℕ → (ℕ → ℕ) → List ℕ
firsts zero f = []
firsts (suc k) f = firsts k f ++ (f k ∷ [])

-- how many entries each send carries, in log order
unfoldable pub loads : ℕ → List Event → List ℕ
loads n [] = []
loads n (idle i ∷ past) = loads n past
loads n (mark i ∷ past) = loads n past
loads n (send i j m ∷ past) = loads n past ++ (entries n (brief (short columns past) i j) ∷ [])
loads n (receipt j m ∷ past) = loads n past

-- an answer, its stamp written out
pub record Shown : Type 0 where
  pub node : ℕ
  pub stamp : List ℕ
  pub nearest : List (ℕ × ℕ)

abbrev pub show : ℕ → Answer → Shown
show n a = record { node = a.node; stamp = firsts n a.stamp; nearest = a.nearest }

abbrev shown : ℕ → List ℕ → List (ℕ × ℕ) → Shown
shown i stamp nearest = record { node = i; stamp = stamp; nearest = nearest }

-- a cut, the answers to its marks, and what its sends carry when short
pub record Case : Type 0 where
  pub nodes : ℕ
  pub cut : List Event
  pub marks : List Shown
  pub carried : List ℕ
  pub all : Totals

abbrev case : ℕ → List Event → List Shown → List ℕ → Totals → Case
case n es marks carried all = record { nodes = n; cut = es; marks = marks; carried = carried; all = all }

abbrev sum : ℕ → ℕ → ℕ → ℕ → Totals
sum e m s c = record { events = e; marks = m; sends = s; carried = c }

abbrev two_marks : Case
two_marks = case 1 (mark 0 ∷ mark 0 ∷ []) (shown 0 (1 ∷ []) [] ∷ shown 0 (2 ∷ []) ((0, 1) ∷ []) ∷ []) [] (sum 2 2 0 0)

abbrev log_a : Case
log_a =
    case 3 cut_a
    (shown 0 (1 ∷ 0 ∷ 0 ∷ []) [] ∷ shown 1 (1 ∷ 1 ∷ 0 ∷ []) ((0, 1) ∷ []) ∷ shown 2 (1 ∷ 1 ∷ 1 ∷ []) ((1, 1) ∷ []) ∷ [])
    (1 ∷ 1 ∷ 2 ∷ []) (sum 9 3 3 4)

abbrev log_b : Case
log_b =
    case 2 cut_b
    (shown 0 (1 ∷ 0 ∷ []) [] ∷ shown 1 (1 ∷ 1 ∷ []) ((0, 1) ∷ []) ∷ shown 0 (2 ∷ 1 ∷ []) ((1, 1) ∷ []) ∷ [])
    (1 ∷ 0 ∷ 2 ∷ []) (sum 9 3 3 3)

-- node 0's mark is told to nodes 1 and 2, and then by 1 to 2, an equal count: 2 need not tell 1
abbrev twice_told : Case
twice_told =
    case 3 (send 2 1 4 ∷ receipt 2 3 ∷ send 1 2 3 ∷ receipt 2 2 ∷ receipt 1 1 ∷ send 0 2 2 ∷ send 0 1 1 ∷ mark 0 ∷ [])
    (shown 0 (1 ∷ 0 ∷ 0 ∷ []) [] ∷ [])
    (1 ∷ 1 ∷ 1 ∷ 0 ∷ []) (sum 8 1 4 3)

-- node 0 tells node 1 of its first mark, and node 2 of its second, which 2 tells 1, a larger count: 1 has to tell 0
abbrev outdated : Case
outdated =
    case 3 (send 1 0 4 ∷ receipt 1 3 ∷ send 2 1 3 ∷ receipt 2 2 ∷ send 0 2 2 ∷ mark 0 ∷ receipt 1 1 ∷ send 0 1 1 ∷ mark 0 ∷ [])
    (shown 0 (1 ∷ 0 ∷ 0 ∷ []) [] ∷ shown 0 (2 ∷ 0 ∷ 0 ∷ []) ((0, 1) ∷ []) ∷ [])
    (1 ∷ 1 ∷ 1 ∷ 1 ∷ []) (sum 9 2 4 4)

abbrev pub cases : List Case
cases = case 1 [] [] [] (sum 0 0 0 0) ∷ two_marks ∷ log_a ∷ log_b ∷ twice_told ∷ outdated ∷ []

-- the same by a machine
abbrev run : (List Event → State) → Case → Case
run state r =
    case r.nodes r.cut (map (show r.nodes) (answers r.nodes state r.cut)) (loads r.nodes r.cut)
    (totals r.nodes (λ past. brief (short columns past)) r.cut)

pub cases_hold : (map (run full) cases ≡ cases) × (map (run (λ es. (short columns es).state)) cases ≡ cases)
unfolding firsts loads answers answer flagged weight entries more totals full whole step start marked received meet take_count take_flag put short brief offer note learn_columns
cases_hold = (refl, refl)

-- A's third message: 0's count with its flag clear, 1's count, and nothing of 2
pub third_of_A : (brief (short columns (drop 4 cut_a)) 1 2 0 ≡ present 1 false) × (brief (short columns (drop 4 cut_a)) 1 2 1 ≡ present 1 true)
    × (brief (short columns (drop 4 cut_a)) 1 2 2 ≡ absent)
unfolding step start marked received meet take_count take_flag put short brief offer note learn_columns
third_of_A = (refl, refl, refl)
