-- Bit k of a number, and what the functions on words of flags say of it.
-- Assumes nothing.
use Rattle.std.specs.Prelude.{◌≡◌, Bool, not, cond, ℕ, zero, suc, ◌+◌, ◌/◌, ◌%◌, ◌^◌, eqb}
use Rattle.std.specs.Int.Bits.{bit_and}

-- whether bit k of x is set
unfoldable pub bit : ℕ → ℕ → Bool
bit x k = eqb (x / 2 ^ k % 2) 1

-- r is x with bit k at b: every other bit is as it was
pub record Put (x k : ℕ) (b : Bool) (r : ℕ) : Type 0 where
  pub bits : (m : ℕ) → bit r m ≡ cond (eqb k m) b (bit x m)

-- some bit is set in both words
unfoldable pub meets : ℕ → ℕ → Bool
meets x y = not (eqb (bit_and x y) 0)

-- how many of the first n bits of x are set
unfoldable pub set_below : ℕ → ℕ → ℕ
set_below zero x = 0
set_below (suc n) x = set_below n x + cond (bit x n) 1 0
