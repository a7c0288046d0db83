-- What the steps make of the three slices, element by element; and that they follow the machine.
-- Assumes nothing.
use Rattle.std.specs.Prelude.{◌≡◌, ◌≢◌, List, ◌∷◌, ℕ, suc, ◌+◌, ◌-◌, ◌*◌, ◌^◌, ◌<◌, ◌≤◌, get_or, set}
use Rattle.order.specs.Order.{Event, idle, mark, send, receipt}
use Rattle.verdict.specs.Lawful.{Lawful}
use Rattle.machine.specs.Answer.{entries}
use Rattle.room.specs.declared.Mode.{Mode}
use Rattle.room.specs.declared.Mode.TheVariants.{Full, Short}
use Rattle.cells.specs.declared.Cell.{Cell}
use Rattle.room.specs.Modes.{says, spared_bits}
use Rattle.room.specs.Slots.{slot_for}
use Rattle.cells.specs.Cells.{code_of, entry_of, said_of, merged}
use Rattle.room.specs.Room.{barn, count_at, flag_at, column_at, Holds, Outside}

-- what node i holds of node k
abbrev pub held : ℕ → List ℕ → List ℕ → ℕ → ℕ → Cell
held n counts words i k = record { count = count_at n counts i k; column = column_at n words i k; direct = flag_at words i k }

-- a mark at node i: its own count rises, of its flags its own alone is set, its own column is cleared, and nothing else changes
pub record Marked (n i : ℕ) (counts words counts' words' : List ℕ) : Type 0 where
  pub counts_are : counts' ≡ set counts (n * i + i) (suc (count_at n counts i i))
  pub words_are : words' ≡ set (set words i (2 ^ i)) (32 + n * i + i) 0

-- Node i's letter to j, numbered m, stands in the slot, with what is said of each of i's cells. No other slot changes.
pub record Posted (n i j m slot spared : ℕ) (counts words mail mail' : List ℕ) : Type 0 where
  pub from : get_or mail' (35 * slot) 0 ≡ suc i
  pub to : get_or mail' (35 * slot + 1) 0 ≡ j
  pub number : get_or mail' (35 * slot + 2) 0 ≡ m
  pub written : (k : ℕ) → k < n → get_or mail' (35 * slot + 3 + k) 0 ≡ code_of (said_of spared (held n counts words i k))
  pub mail_else : (p : ℕ) → Outside (35 * slot) (3 + n) p → get_or mail' p 0 ≡ get_or mail p 0

-- how many entries node i's message to j is counted to carry: n if it is full, else as many as are said
abbrev pub sent_entries : Mode → ℕ → ℕ → ℕ → List ℕ → List ℕ → ℕ
sent_entries Full n i j counts words = n
sent_entries Short n i j counts words = entries n (λ k. said_of (2 ^ j) (held n counts words i k))

-- a send in either mode: its letter is posted, and so many entries went along
pub record Sent (mode : Mode) (n i j m slot : ℕ) (counts words mail mail' : List ℕ) (carried : ℕ) : Type 0 where
  pub posted : Posted n i j m slot (spared_bits mode j) counts words mail mail'
  pub counted : carried ≡ sent_entries mode n i j counts words

-- Node i takes the letter of a slot: each of its cells is merged with the letter's entry, by the bit of the sender that the
-- slot names, and the letter is then zero. No other node's row, flags or columns change, and no other slot.
pub record Received (n i slot : ℕ) (counts words mail counts' words' mail' : List ℕ) : Type 0 where
  pub cells : (k : ℕ) → k < n
      → held n counts' words' i k ≡ merged (2 ^ (get_or mail (35 * slot) 0 - 1)) (entry_of (get_or mail (35 * slot + 3 + k) 0)) (held n counts words i k)
  pub flags_above : (k : ℕ) → n ≤ k → flag_at words' i k ≡ flag_at words i k
  pub counts_else : (p : ℕ) → Outside (n * i) n p → get_or counts' p 0 ≡ get_or counts p 0
  pub words_else : (p : ℕ) → p ≢ i → Outside (32 + n * i) n p → get_or words' p 0 ≡ get_or words p 0
  pub freed : (x : ℕ) → x < 3 + n → get_or mail' (35 * slot + x) 0 ≡ 0
  pub mail_else : (p : ℕ) → Outside (35 * slot) (3 + n) p → get_or mail' p 0 ≡ get_or mail p 0

-- ---- the machine's step

-- how many entries an event after the cut is counted to carry
abbrev pub carried_by : Mode → ℕ → List Event → Event → ℕ
carried_by mode n cut (idle i) = 0
carried_by mode n cut (mark i) = 0
carried_by mode n cut (send i j m) = entries n (says mode cut i j)
carried_by mode n cut (receipt j m) = 0

-- the slices hold the barn after the cut, the event may follow the cut, and the slot is the event's
pub record Ready (mode : Mode) (n : ℕ) (cut : List Event) (e : Event) (slot : ℕ) (counts words mail : List ℕ) : Type 0 where
  pub lawful : Lawful n (e ∷ cut)
  pub place : slot ≡ slot_for cut e
  pub holds : Holds n (barn mode cut) counts words mail

-- whatever cut the slices held, they now hold that cut with the event, and so many entries went along
abbrev pub Follows : Mode → ℕ → Event → ℕ → (counts words mail counts' words' mail' : List ℕ) → ℕ → Type 0
Follows mode n e slot counts words mail counts' words' mail' carried =
    (cut : List Event) → Ready mode n cut e slot counts words mail
    → Holds n (barn mode (e ∷ cut)) counts' words' mail' × (carried ≡ carried_by mode n cut e)
