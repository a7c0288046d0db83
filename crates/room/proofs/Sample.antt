-- What the work room has to hold of log A after its sixth event, with two letters under way, computed; docs/LAYOUT.md shows it.
-- Assumes nothing.
use mathlib.Core.Path.{◌≡◌, refl}
use mathlib.Core.Bool.{true, false}
use mathlib.Core.List.{List, [], ◌∷◌, map}
use Prim.Native.Nat.{ℕ}
use lib.ListN.{drop}
use Rattle.order.proofs.Samples.{cut_a}
use Rattle.machine.specs.Machine.{put, start, marked, take_count, take_flag, meet, received, step}
use Rattle.machine.specs.Short.{offer, brief, short, note, learn_columns}
use Rattle.room.specs.declared.Mode.TheVariants.{Short}
use Rattle.room.specs.Slots.{slot_at, fill, vacate, slots}
use Rattle.room.specs.Room.{Barn, barn, element}

-- three nodes; node 0 has marked and told both others, node 1 has received and marked and tells node 2
abbrev sixth : Barn
sixth = barn Short (drop 3 cut_a)

abbrev nodes : List ℕ
nodes = 0 ∷ 1 ∷ 2 ∷ []

-- the rows of counts, and of flags
pub sample_rows : (map (λ i. map (sixth.state.count i) nodes) nodes ≡ (1 ∷ 0 ∷ 0 ∷ []) ∷ (1 ∷ 1 ∷ 0 ∷ []) ∷ (0 ∷ 0 ∷ 0 ∷ []) ∷ [])
    × (map (λ i. map (sixth.state.flag i) nodes) nodes
    ≡ (true ∷ false ∷ false ∷ []) ∷ (false ∷ true ∷ false ∷ []) ∷ (false ∷ false ∷ false ∷ []) ∷ [])
unfolding barn short step brief offer put start marked received take_count take_flag meet learn_columns note
sample_rows = (refl, refl)

-- node 0 has brought node 1 its count of node 0; nobody has brought anything else
pub sample_columns : map (λ i. map (λ k. map (sixth.known i k) nodes) nodes) nodes
    ≡ ((false ∷ false ∷ false ∷ []) ∷ (false ∷ false ∷ false ∷ []) ∷ (false ∷ false ∷ false ∷ []) ∷ [])
    ∷ ((true ∷ false ∷ false ∷ []) ∷ (false ∷ false ∷ false ∷ []) ∷ (false ∷ false ∷ false ∷ []) ∷ [])
    ∷ ((false ∷ false ∷ false ∷ []) ∷ (false ∷ false ∷ false ∷ []) ∷ (false ∷ false ∷ false ∷ []) ∷ []) ∷ []
unfolding barn short step brief offer put start marked received take_count take_flag meet learn_columns note
sample_columns = refl

-- number 3 lies in slot 0, which number 1 has left, and number 2 in slot 1; slot 2 is free
pub sample_letters : map (λ s. map (element 3 sixth.state.letter (slot_at sixth.mail s)) (0 ∷ 1 ∷ 2 ∷ 3 ∷ 4 ∷ 5 ∷ 6 ∷ [])) nodes
    ≡ (2 ∷ 2 ∷ 3 ∷ 2 ∷ 3 ∷ 0 ∷ 0 ∷ []) ∷ (1 ∷ 2 ∷ 2 ∷ 3 ∷ 0 ∷ 0 ∷ 0 ∷ []) ∷ (0 ∷ 0 ∷ 0 ∷ 0 ∷ 0 ∷ 0 ∷ 0 ∷ []) ∷ []
unfolding barn short step brief offer put start marked received take_count take_flag meet learn_columns note slots fill vacate element
sample_letters = refl
