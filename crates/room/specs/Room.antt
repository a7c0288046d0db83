-- The work room: which state of a machine, for n nodes, the contents of the three slices are, element by element
-- (docs/LAYOUT.md). proofs/OneRoom.antt shows that a state has one room.
-- Assumes nothing.
use Rattle.std.specs.Prelude.{◌≡◌, ◌⊎◌, Bool, ◌&&◌, cond, List, ◌++◌, ℕ, zero, suc, ◌+◌, ◌*◌, ◌<◌, ◌≤◌, ltb, leb, length, get_or, drop, replicate}
use Rattle.std.proofs.Math.Option.{none, some}
use Rattle.order.specs.Order.{Event}
use Rattle.machine.specs.Machine.{Letter, State}
use Rattle.machine.specs.Short.{short, Columns}
use Rattle.bits.specs.Bits.{bit}
use Rattle.cells.specs.Cells.{code_of}
use Rattle.room.specs.declared.Mode.{Mode}
use Rattle.room.specs.Modes.{knowledge}
use Rattle.room.specs.Slots.{Slot, slot_at, slots}

-- what there is to hold: the machine's state, what is known, and where each message lies
pub record Barn : Type 0 where
  pub state : State
  pub known : Columns
  pub mail : List Slot

-- a barn at the end of a cut
unfoldable pub barn : Mode → List Event → Barn
barn mode cut = let s = short (knowledge mode) cut in record { state = s.state; known = s.held; mail = slots cut }

-- ---- rows, flags and columns

-- node i's count of k, its flag and its column, as the room has them
abbrev pub count_at : ℕ → List ℕ → ℕ → ℕ → ℕ
count_at n counts i k = get_or counts (n * i + k) 0

abbrev pub flag_at : List ℕ → ℕ → ℕ → Bool
flag_at words i k = bit (get_or words i 0) k

abbrev pub column_at : ℕ → List ℕ → ℕ → ℕ → ℕ
column_at n words i k = get_or words (32 + n * i + k) 0

pub record Rows (n : ℕ) (b : Barn) (counts words : List ℕ) : Type 0 where
  pub counts_size : length counts ≡ 1024
  pub words_size : length words ≡ 1056
  -- node i's row of counts starts at n * i
  pub counted : (i k : ℕ) → i < n → k < n → count_at n counts i k ≡ b.state.count i k
  -- its flags stand at i
  pub flagged : (i k : ℕ) → i < n → flag_at words i k ≡ (ltb k n && b.state.flag i k)
  -- its column for k at 32 + n * i + k
  pub noted : (i k j : ℕ) → i < n → k < n → bit (column_at n words i k) j ≡ (ltb j n && b.known i k j)
  -- all else is zero
  pub counts_rest : (p : ℕ) → n * n ≤ p → get_or counts p 0 ≡ 0
  pub flags_rest : (i : ℕ) → n ≤ i → i < 32 → get_or words i 0 ≡ 0
  pub words_rest : (p : ℕ) → 32 + n * n ≤ p → get_or words p 0 ≡ 0

-- ---- letters

-- Element x of a slot: the sender's number and one more, the destination, the message number, then the letter's entry for
-- each node. A free slot is all zero.
unfoldable pub element : ℕ → (ℕ → Letter) → Slot → ℕ → ℕ
element n letter none x = 0
element n letter (some m) zero = suc m.from
element n letter (some m) (suc zero) = m.to
element n letter (some m) (suc (suc zero)) = m.number
element n letter (some m) (suc (suc (suc k))) = cond (ltb k n) (code_of ((letter m.number).entry k)) 0

-- slot s starts at 35 * s
pub record Letters (n : ℕ) (b : Barn) (mail : List ℕ) : Type 0 where
  pub mail_size : length mail ≡ 4480
  pub laid : (s x : ℕ) → s < 128 → x < 35 → get_or mail (35 * s + x) 0 ≡ element n b.state.letter (slot_at b.mail s) x

-- the three slices hold the barn
pub record Holds (n : ℕ) (b : Barn) (counts words mail : List ℕ) : Type 0 where
  pub rows : Rows n b counts words
  pub letters : Letters n b mail

-- place p is not among the k places from a on
abbrev pub Outside : ℕ → ℕ → ℕ → Type 0
Outside a k p = (p < a) ⊎ (a + k ≤ p)

-- ---- clearing

-- the slices are large enough for the work room
abbrev pub fits : List ℕ → List ℕ → List ℕ → Bool
fits counts words mail = leb 1024 (length counts) && (leb 1056 (length words) && leb 4480 (length mail))

-- the first elements are zero, so many of them
abbrev pub zeroed : ℕ → List ℕ → List ℕ
zeroed size xs = replicate size 0 ++ drop size xs

-- slices that are large enough have zeros in front and are as they were behind; others are as they were
pub record Cleared (counts words mail counts' words' mail' : List ℕ) (done : Bool) : Type 0 where
  pub answer : done ≡ fits counts words mail
  pub counts_are : counts' ≡ cond done (zeroed 1024 counts) counts
  pub words_are : words' ≡ cond done (zeroed 1056 words) words
  pub mail_is : mail' ≡ cond done (zeroed 4480 mail) mail
