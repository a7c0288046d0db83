-- Where rows and slots lie: they do not overlap and they fit, since a row starts where the one before it ends.
-- Assumes nothing.
use mathlib.Core.Path.{◌≡◌, sym}
use mathlib.Core.Logic.{inl, inr, ◌≢◌}
use Prim.Native.Nat.{ℕ, zero, suc, ◌+◌, ◌*◌, ◌/◌, ◌%◌, ◌<◌, ◌≤◌}
use native.Mathlib.Nat.{mul-le-mul, mul-le-mul_left, div-add-mod, mod-lt, div-lt_iff_lt-mul}
use native.Mathlib.Decide.{dec_lt}
use native.Mathlib.Omega.{arith}
use Rattle.room.specs.Room.{Outside}

-- of rows of n places, one ends before a later one starts
pub row_step : (n a b : ℕ) → a < b → n * a + n ≤ n * b
row_step n a b h = omega (arith, mul-le-mul_left n h)

-- n rows fit into n * n places
pub row_fits : (n i : ℕ) → i < n → n * i + n ≤ n * n
row_fits n i = row_step n i n

-- and so each of the rows of a barn ends within 1024 places
pub row_within : (n i : ℕ) → n ≤ 32 → i < n → n * i + n ≤ 1024
row_within n i few h = omega (arith, row_fits n i h, mul-le-mul few few)

-- a place of another row is outside row i
pub other_row : (n i o k : ℕ) → o ≢ i → k < n → Outside (n * i) n (n * o + k)
other_row n i o k other h = go (dec_lt o i)
  where
    go : Dec (o < i) → Outside (n * i) n (n * o + k)
    go (yes l) = inl (omega (arith, row_step n o i l))
    go (no l) = inr (omega (arith, row_step n i o (omega arith)))

-- a place of another slot is outside the first k places of slot s
pub other_slot : (s t x k : ℕ) → t ≢ s → x < 35 → k ≤ 35 → Outside (35 * s) k (35 * t + x)
other_slot s t x k other h few = go (dec_lt t s)
  where
    go : Dec (t < s) → Outside (35 * s) k (35 * t + x)
    go (yes l) = inl (omega arith)
    go (no l) = inr (omega arith)

-- each of the n * n places is in a row
pub row_of : (n p : ℕ) → p < n * n → (i : ℕ) × (k : ℕ) × (i < n) × (k < n) × (p ≡ n * i + k)
row_of n p h = (p / n, p % n, (div-lt_iff_lt-mul (some n h)).1 h, mod-lt p (some n h), sym (div-add-mod p n))
  where
    some : (n : ℕ) → p < n * n → 0 < n
    some zero h = absurd (omega arith)
    some (suc n) h = omega arith
