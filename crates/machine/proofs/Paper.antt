-- Where the paper's own matrix M would know more than 01's rule allows: its diagonal, and what it starts with. Computed on
-- one cut.
-- Assumes nothing.
use mathlib.Core.Path.{◌≡◌, refl}
use mathlib.Core.Bool.{Bool, true, false, ◌&&◌, cond}
use mathlib.Core.List.Memᴰ
use mathlib.Core.List.{List, [], ◌∷◌}
use Prim.Native.Nat.{ℕ}
use native.Mathlib.Omega.{arith}
use lib.Dec.{ltb}
use Rattle.order.specs.Order.{Event, idle, mark, send, receipt, Sound, sound_nil, sound_cons, flying_head}
use Rattle.order.specs.Flight.{without, in_flight}
use Rattle.order.proofs.Flight.{flying_listed}
use Rattle.machine.specs.Machine.{put, Entry, absent, present, State, start, marked, meet, take_count, take_flag, received, step}
use Rattle.machine.specs.Short.{Knowledge, offer, brief, short, Columns, note, learn_columns, columns}
use Rattle.machine.specs.History.{Due}
use Rattle.machine.proofs.ShortMessages.{carried_exactly}

-- M3 for one entry of a letter from j to i, M's column of (i, k): a larger count clears all but i's, k's and j's own bits
unfoldable pub note_m : ℕ → ℕ → ℕ → ℕ → Entry → (ℕ → Bool) → ℕ → Bool
note_m i j k c absent column = column
note_m i j k c (present d y) column =
    cond (ltb c d) (put j true (put i (column i) (put k (column k) (λ l. false)))) (cond (ltb d c) column (put j true column))

unfoldable pub learn_m : Event → State → Columns → Columns
learn_m (idle i) s held = held
learn_m (mark i) s held = put i (put i (put i (held i i i) (λ j. false)) (held i)) held
learn_m (send i j m) s held = held
learn_m (receipt i m) s held = put i (λ k. note_m i (s.letter m).from k (s.count i k) ((s.letter m).entry k) (held i k)) held

-- the paper's rules M0 to M3: every bit is set at the start
abbrev pub matrix : Knowledge
matrix =
    record {
      Held = Columns;
      none = λ i k j. true;
      spares = λ s held i j k. s.flag i k && held i k j;
      learn = learn_m;
    }

-- node 1 marks and tells node 2, node 2 tells node 0: node 0 has node 1's count, and not from node 1
abbrev pub roundabout : List Event
roundabout = receipt 0 1 ∷ send 2 0 1 ∷ receipt 2 0 ∷ send 1 2 0 ∷ mark 1 ∷ []

pub roundabout_sound : Sound 3 roundabout
unfolding in_flight without
roundabout_sound =
    sound_cons {e = receipt 0 1} (omega arith, (2, 3, flying_head))
    (sound_cons {e = send 2 0 1} (omega arith, omega arith, (λ z. omega arith), λ a b p f. Memᴰ.not-nil (flying_listed f))
    (sound_cons {e = receipt 2 0} (omega arith, (1, 1, flying_head))
    (sound_cons {e = send 1 2 0} (omega arith, omega arith, (λ z. omega arith), λ a b p f. Memᴰ.not-nil (flying_listed f))
    (sound_cons {e = mark 1} {past = []} (omega arith) sound_nil))))

-- The diagonal: about to send to node 1, M lets node 0 leave out node 1's own count; the rule carries it.
pub diagonal : (brief (short matrix roundabout) 0 1 1 ≡ absent) × (brief (short columns roundabout) 0 1 1 ≡ present 1 true)
unfolding short brief offer step start marked received meet take_count take_flag put note_m learn_m note learn_columns
diagonal = (refl, refl)

-- and the sentence asks for it: node 1 has brought node 0 nothing
pub diagonal_due : Due columns roundabout 0 1 1 1 true
diagonal_due = (carried_exactly roundabout_sound 0 1 1 1 true).0 diagonal.1

-- The start: M holds node 0 to know that node 1 has node 2's count, when nothing was sent at all. It is 0, so none of the two
-- would carry it.
pub at_start : ((short matrix []).held 0 2 1 ≡ true) × ((short columns []).held 0 2 1 ≡ false)
    × (brief (short matrix []) 0 1 2 ≡ absent) × (brief (short columns []) 0 1 2 ≡ absent)
unfolding short brief offer start
at_start = (refl, refl, refl, refl)
