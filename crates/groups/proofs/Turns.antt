-- A loop that writes a list of bytes turn by turn: what a turn writes has its place in the room, and stands behind what stood there.
-- Assumes nothing.
use mathlib.Core.Path.{◌≡◌}
use mathlib.Core.List.{List, ◌++◌}
use Prim.Native.Nat.{ℕ, suc, ◌+◌, ◌≤◌, ◌<◌}
use native.Mathlib.Numerals.{add-one}
use native.Mathlib.Decide.{le_ind}
use native.Mathlib.Omega.{arith}
use lib.ListN.{length, length-append}
use Rattle.groups.specs.Groups.{Laid}
use Rattle.groups.proofs.Laying.{and_then}

-- `done k` is what stands there after k turns, and `turn k` is what the next one adds
pub record Grows (done turn : ℕ → List ℕ) : Type 0 where
  pub more : (k : ℕ) → done (k + 1) ≡ done k ++ turn k

module _ {done turn : ℕ → List ℕ} (grows : Grows done turn) where
  -- what a turn adds is within what all turns write
  turn_within : (n k : ℕ) → k < n → length (done k) + length (turn k) ≤ length (done n)
  turn_within n k h =
      le_ind (λ m. length (done k) + length (turn k) ≤ length (done m)) (omega (arith, longer k)) (λ m l rec. omega (arith, longer m)) n h
    where
      longer : (m : ℕ) → length (done (suc m)) ≡ length (done m) + length (turn m)
      longer m = rw (← add-one m, grows.more m) (length-append (done m) (turn m))

  module _ (n from : ℕ) (room₀ : List ℕ) (fits : from + length (done n) ≤ length room₀) {k at : ℕ} {room : List ℕ} where
    -- there is space for what a turn adds
    pub turn_fits : k < n → length room ≡ length room₀ → Laid from (done k) room₀ room at → at + length (turn k) ≤ length room
    turn_fits h same laid = omega (arith, turn_within n k h, laid.past_is)

    -- and what it adds is laid with what stood there
    pub turn_done : {room' : List ℕ} {at' : ℕ} → Laid from (done k) room₀ room at → Laid at (turn k) room room' at'
        → Laid from (done (k + 1)) room₀ room' at'
    turn_done laid next = rw (grows.more k) (and_then laid next)
