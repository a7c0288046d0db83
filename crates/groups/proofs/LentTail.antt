-- A room whose tail was lent to be written: what stands in the tail stands in the room, since the tail is all that follows the place.
-- Assumes nothing.
use mathlib.Core.Path.{◌≡◌, sym, ap, ◌∙◌}
use mathlib.Core.Bool.{cond}
use mathlib.Core.List.{List, ◌++◌, append_assoc, append-nil}
use Prim.Native.Nat.{ℕ, ◌+◌, ◌-◌, ◌≤◌}
use native.Mathlib.Nat.{zero-add}
use native.Mathlib.Decide.{dec_le}
use native.Mathlib.Omega.{arith}
use borrow.Author.Tests.{le-leb, lt-leb}
use borrow.Rule.Slice.PartMut.{mid_of, put_mid}
use lib.Dec.{leb}
use lib.ListN.{length, take, drop, length-drop, take-append-drop, drop_of_length-le}
use lib.Seq.{take_all, drop-drop}
use Rattle.groups.specs.Groups.{laid, Written}

module _ (at k : ℕ) (bytes room : List ℕ) (within : at ≤ length room) (all : k ≡ length room - at) where
  -- how long the tail is
  tail_length : length (drop at room) ≡ k
  tail_length = length-drop at room ∙ sym all

  -- the tail is all that follows
  tail_is : mid_of at k room ≡ drop at room
  tail_is = take_all k (drop at room) (omega (arith, tail_length))

  -- so a tail that comes back ends the room
  back_is : (rest : List ℕ) → put_mid at k room rest ≡ take at room ++ rest
  back_is rest = rw (drop_of_length-le (drop at room) {i = k} (omega (arith, tail_length)), append-nil rest)

  -- what was laid over the tail is laid over the room, if there was space
  pub laid_part : (rest : List ℕ)
      → rest ≡ cond (leb (0 + length bytes) (length (mid_of at k room))) (laid 0 bytes (mid_of at k room)) (mid_of at k room)
      → put_mid at k room rest ≡ cond (leb (at + length bytes) (length room)) (laid at bytes room) room
  laid_part rest e = back_is rest ∙ ap (λ (r : List ℕ). take at room ++ r) (rw tail_is at e) ∙ go (dec_le (at + length bytes) (length room))
    where
      go : Dec (at + length bytes ≤ length room)
          → take at room ++ cond (leb (0 + length bytes) (length (drop at room))) (laid 0 bytes (drop at room)) (drop at room)
          ≡ cond (leb (at + length bytes) (length room)) (laid at bytes room) room
      go (yes h) =
          rw (
            le-leb (0 + length bytes) (length (drop at room)) (omega (arith, tail_length)),
            le-leb (at + length bytes) (length room) h,
            drop-drop (0 + length bytes) at room,
            zero-add (length bytes),
          )
          (sym (append_assoc (take at room) bytes (drop (at + length bytes) room)))
      go (no h) =
          rw (
            lt-leb (0 + length bytes) (length (drop at room)) (omega (arith, tail_length)),
            lt-leb (at + length bytes) (length room) (omega arith),
          )
          (take-append-drop at room)

  -- and so said of what a callee has written to the tail
  pub written_part : {rest : List ℕ} {size : ℕ} → Written 0 bytes (mid_of at k room) rest size
      → Written at bytes room (put_mid at k room rest) size
  written_part {rest} w = record { size_is = w.size_is; room_is = laid_part rest w.room_is }
