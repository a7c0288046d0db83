-- The report's bytes: a group for each mark, in log order (01, "The report").
-- Assumes nothing.
use Rattle.std.specs.Prelude.{◌≡◌, cond, List, [], ◌∷◌, ◌++◌, ℕ, zero, suc, ◌+◌, ◌/◌, ◌%◌, ◌≤◌, leb, length, get_or, take, drop}
use Rattle.bits.specs.Bits.{bit}
use Rattle.machine.specs.Machine.{put}
use Rattle.machine.specs.Answer.{Answer, flagged}
use Rattle.groups.specs.declared.Kind.{Kind}
use Rattle.groups.specs.declared.Kind.TheVariants.{Mark, Count, Cause}

-- the byte of each kind
abbrev pub byte_of : Kind → ℕ
byte_of Mark = 0x21
byte_of Count = 0x22
byte_of Cause = 0x23

-- a record of four bytes: its kind, a node, and a number, low byte first
abbrev pub four_bytes : ℕ → ℕ → ℕ → List ℕ
four_bytes kind k c = kind ∷ k ∷ c % 256 ∷ c / 256 ∷ []

-- 0x22 with node k's count; nothing for a count of zero
unfoldable pub stamp_record : ℕ → ℕ → List ℕ
stamp_record k zero = []
stamp_record k (suc c) = four_bytes 0x22 k (suc c)

-- a stamp's records for the nodes below n, ascending
unfoldable pub stamp_records : ℕ → (ℕ → ℕ) → List ℕ
stamp_records zero stamp = []
stamp_records (suc k) stamp = stamp_records k stamp ++ stamp_record k (stamp k)

-- 0x23 for each direct predecessor, in the order of the list
unfoldable pub cause_records : List (ℕ × ℕ) → List ℕ
cause_records [] = []
cause_records (x ∷ rest) = four_bytes 0x23 x.0 x.1 ++ cause_records rest

-- 0x21, the mark's node, its number, and how many direct predecessors it has; then its stamp and its predecessors
unfoldable pub group_of : ℕ → Answer → List ℕ
group_of n a =
    four_bytes 0x21 a.node (a.stamp a.node) ++ (length a.nearest ∷ [])
    ++ (stamp_records n a.stamp ++ cause_records a.nearest)

-- the groups of the answers, one after the other
unfoldable pub groups_of : ℕ → List Answer → List ℕ
groups_of n [] = []
groups_of n (a ∷ rest) = group_of n a ++ groups_of n rest

-- ---- writing

-- the stamp of a mark at node i, from its row before the mark: the mark itself is counted
abbrev pub stamp_of : ℕ → List ℕ → ℕ → ℕ
stamp_of i row = put i (suc (get_or row i 0)) (λ k. get_or row k 0)

-- what is answered of a mark at node i, from its row and its flags before the mark
unfoldable pub row_answer : ℕ → List ℕ → ℕ → Answer
row_answer i row flags =
    record {
      node = i;
      stamp = stamp_of i row;
      nearest = flagged (length row) (λ k. get_or row k 0) (bit flags);
    }

-- the room with the bytes laid over it from a place on
abbrev pub laid : ℕ → List ℕ → List ℕ → List ℕ
laid at bytes room = take at room ++ bytes ++ drop (at + length bytes) room

-- the bytes lie over the room from a place on, all of them within it, and `past` is the place past them
pub record Laid (at : ℕ) (bytes room room' : List ℕ) (past : ℕ) : Type 0 where
  pub past_is : past ≡ at + length bytes
  pub within : past ≤ length room
  pub room_is : room' ≡ laid at bytes room

-- the room with the bytes written from a place on, if it has space for them there; else as it was
abbrev pub written : ℕ → List ℕ → List ℕ → List ℕ
written at bytes room = cond (leb (at + length bytes) (length room)) (laid at bytes room) room

-- the bytes are written where there is space, and their number comes back in any case
pub record Written (at : ℕ) (bytes room room' : List ℕ) (size : ℕ) : Type 0 where
  pub size_is : size ≡ length bytes
  pub room_is : room' ≡ written at bytes room
