-- A room whose front was zeroed: its front is all zero, what lies behind is as it was, and it is as long as it must be.
-- Assumes nothing.
use mathlib.Core.Path.{◌≡◌}
use mathlib.Core.List.{List, ◌++◌}
use Prim.Native.Nat.{ℕ, ◌≤◌}
use native.Mathlib.Omega.{arith}
use lib.ListN.{length, take, drop, replicate, length-append, length-replicate}
use lib.Seq.{take_at, drop_at, length-take-le}
use Rattle.room.specs.Room.{zeroed}

-- a front that is filled with zeros
pub zeroed_filled : (size : ℕ) (room front : List ℕ) → size ≤ length room → front ≡ replicate (length (take size room)) 0 → front ++ drop size room ≡ zeroed size room
zeroed_filled size room front fits filled = rw (filled, length-take-le size room fits)

pub zeroed_front : (size : ℕ) (room : List ℕ) → take size (zeroed size room) ≡ replicate size 0
zeroed_front size room = take_at (replicate size 0) (drop size room) size (length-replicate size 0)

pub zeroed_behind : (size : ℕ) (room : List ℕ) → drop size (zeroed size room) ≡ drop size room
zeroed_behind size room = drop_at (replicate size 0) (drop size room) size (length-replicate size 0)

pub zeroed_length : (size : ℕ) (room : List ℕ) → size ≤ length (zeroed size room)
zeroed_length size room = omega (arith, length-append (replicate size 0) (drop size room), length-replicate {A = ℕ} size 0)
