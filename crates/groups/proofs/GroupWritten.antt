-- A group as the code makes it: its size from the counted flags, and its bytes from the three runs that are written side by side.
-- Assumes nothing.
use mathlib.Core.Path.{◌≡◌, sym, ◌∙◌}
use mathlib.Core.Bool.{false}
use mathlib.Core.List.{List, [], ◌∷◌, ◌++◌}
use Prim.Native.Nat.{ℕ, ◌+◌, ◌*◌, ◌≤◌, ◌<◌}
use native.Mathlib.Omega.{arith}
use borrow.Author.Tests.{le-leb, lt-leb}
use lib.ListN.{length, get_or}
use Rattle.bits.specs.Bits.{bit, set_below}
use Rattle.machine.specs.Answer.{flagged}
use Rattle.groups.specs.Groups.{four_bytes, stamp_records, cause_records, stamp_of, group_of, row_answer, Laid, Written}
use Rattle.groups.proofs.Laying.{and_then}
use Rattle.groups.proofs.GroupSizes.{causes_set, group_size}

-- bytes that do not fit are not written
pub unwritten : {bytes room : List ℕ} {size : ℕ} → size ≡ length bytes → length room < size → Written 0 bytes room room size
unwritten {bytes} {room} e h =
    record { size_is = e; room_is = rw (lt-leb (0 + length bytes) (length room) (omega arith)) }

-- bytes that fit are
written : {bytes room room' : List ℕ} {size past : ℕ} → size ≡ length bytes → size ≤ length room
    → Laid 0 bytes room room' past → Written 0 bytes room room' size
written {bytes} {room} e h laid =
    record { size_is = e; room_is = rw (le-leb (0 + length bytes) (length room) (omega arith)) laid.room_is }

module _ (i : ℕ) (row : List ℕ) (flags : ℕ) (few : length row ≤ 32) (clear : (k : ℕ) → length row ≤ k → bit flags k ≡ false) where
  -- the size as the code counts it
  pub size_counted : {size causes : ℕ} → size ≡ length (stamp_records (length row) (stamp_of i row)) → causes ≡ set_below 32 flags
      → 5 + size + 4 * causes ≡ length (group_of (length row) (row_answer i row flags))
  unfolding row_answer
  size_counted sized counted =
      omega (arith, sized, counted, group_size (length row) (row_answer i row flags), causes_set row flags few clear)

  -- the head, the stamp and the predecessors, one behind the other: they are what the lent room holds in the end
  pub group_written : {number causes size stamps at past : ℕ} {room room₁ room₂ room₃ room' : List ℕ}
      → number ≡ stamp_of i row i → causes ≡ set_below 32 flags
      → size ≡ length (group_of (length row) (row_answer i row flags)) → size ≤ length room
      → Laid 0 (four_bytes 0x21 i number ++ (causes ∷ [])) room room₁ stamps
      → Laid stamps (stamp_records (length row) (stamp_of i row)) room₁ room₂ at
      → Laid at (cause_records (flagged (length row) (λ k. get_or row k 0) (bit flags))) room₂ room₃ past → room' ≡ room₃
      → Written 0 (group_of (length row) (row_answer i row flags)) room room' size
  unfolding group_of row_answer
  group_written numbered counted sized fits head stamp causes left =
      rw left (written sized fits (and_then (rw (numbered, counted ∙ sym (causes_set row flags few clear)) at head) (and_then stamp causes)))
