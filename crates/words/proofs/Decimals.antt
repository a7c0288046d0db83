-- A number in decimal: its digits do not depend on how many are allowed, so each is the digits of a tenth and one more.
-- Assumes nothing.
use mathlib.Core.Path.{◌≡◌, refl, ap, ◌∙◌}
use mathlib.Core.Bool.{Bool, true, false, cond}
use mathlib.Core.List.{List, [], ◌∷◌, ◌++◌}
use Prim.Native.Nat.{ℕ, zero, suc, ◌+◌, ◌/◌, ◌%◌, ◌^◌, ◌≤◌, ◌<◌}
use native.Mathlib.Omega.{arith}
use lib.Dec.{ltb}
use lib.ListN.{length, length-append}
use borrow.Author.Tests.{lt-ltb, le-ltb, ltb-false}
use Rattle.words.specs.Words.{digit, digits, decimal}

-- any number of digits that suffices gives the same
same_digits : (most other n : ℕ) → n < most → n < other → digits most n ≡ digits other n
unfolding digits
same_digits zero other n h k = absurd (omega arith)
same_digits (suc most) zero n h k = absurd (omega arith)
same_digits (suc most) (suc other) n h k = go _ refl (λ l. same_digits most other (n / 10) (omega arith) (omega arith))
  where
    go : (b : Bool) → ltb n 10 ≡ b → (10 ≤ n → digits most (n / 10) ≡ digits other (n / 10))
        → cond b (digit n ∷ []) (digits most (n / 10) ++ (digit (n % 10) ∷ [])) ≡ cond b (digit n ∷ []) (digits other (n / 10) ++ (digit (n % 10) ∷ []))
    go true e more = refl
    go false e more = ap (λ (l : List ℕ). l ++ (digit (n % 10) ∷ [])) (more (ltb-false n 10 e))

-- a number below ten is one digit
pub decimal_one : (n : ℕ) → n < 10 → decimal n ≡ digit n ∷ []
unfolding decimal digits
decimal_one n h = rw (lt-ltb n 10 h)

-- any other is its tenth and its last digit
pub decimal_more : (n : ℕ) → 10 ≤ n → decimal n ≡ decimal (n / 10) ++ (digit (n % 10) ∷ [])
unfolding decimal digits
decimal_more n h = rw (le-ltb n 10 h) (ap (λ (l : List ℕ). l ++ (digit (n % 10) ∷ [])) (same_digits n (suc (n / 10)) (n / 10) (omega arith) (omega arith)))

-- so it has one digit more than its tenth
pub decimal_longer : (n : ℕ) → 10 ≤ n → length (decimal n) ≡ length (decimal (n / 10)) + 1
decimal_longer n h = ap length (decimal_more n h) ∙ length-append (decimal (n / 10)) (digit (n % 10) ∷ [])

-- what laying a number digit by digit goes by
pub ruleset decimals = (decimal_one, decimal_more, decimal_longer)

-- a number below a power of ten has no more digits than that power
digits_bound : (k most n : ℕ) → n < 10 ^ suc k → length (digits most n) ≤ suc k
unfolding digits
digits_bound k zero n h = omega arith
digits_bound k (suc most) n h = go k h _ refl (λ k. digits_bound k most (n / 10))
  where
    go : (k : ℕ) → n < 10 ^ suc k → (b : Bool) → ltb n 10 ≡ b → ((k : ℕ) → n / 10 < 10 ^ suc k → length (digits most (n / 10)) ≤ suc k)
        → length (cond b (digit n ∷ []) (digits most (n / 10) ++ (digit (n % 10) ∷ []))) ≤ suc k
    go k l true e fewer = omega arith
    go zero l false e fewer = omega (arith, ltb-false n 10 e)
    go (suc k) l false e fewer =
        omega (arith, fewer k (omega arith), length-append (digits most (n / 10)) (digit (n % 10) ∷ []))

-- sixteen bits are at most five digits
pub short_decimal : (n : ℕ) → n < 65536 → length (decimal n) ≤ 5
unfolding decimal
short_decimal n h = digits_bound 4 (suc n) n (omega arith)

-- sixty-four bits are at most twenty
pub long_decimal : (n : ℕ) → n < 2 ^ 64 → length (decimal n) ≤ 20
unfolding decimal
long_decimal n h = digits_bound 19 (suc n) n (omega arith)
