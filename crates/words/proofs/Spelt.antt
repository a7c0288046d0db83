-- What `decimal` writes is right: read as digits it gives the number back, and the first digit is no zero but of 0 itself.
-- Assumes nothing.
use mathlib.Core.Path.{◌≡◌, refl, ◌∙◌}
use mathlib.Core.Bool.{Bool, true, false, cond}
use mathlib.Core.List.{List, [], ◌∷◌, ◌++◌}
use Prim.Native.Nat.{ℕ, zero, suc, ◌+◌, ◌-◌, ◌*◌, ◌/◌, ◌%◌, ◌<◌, ◌≤◌}
use native.Mathlib.Omega.{arith}
use lib.Dec.{ltb}
use lib.ListN.{length, get_or, length-append, get_or-append}
use borrow.Author.Tests.{ltb-false}
use Rattle.words.specs.Words.{digit, digits, decimal}

-- the number that digits spell behind one that is read already
unfoldable pub spelt : ℕ → List ℕ → ℕ
spelt n [] = n
spelt n (c ∷ rest) = spelt (10 * n + (c - 48)) rest

-- one digit more
spelt_more : (n : ℕ) (xs : List ℕ) (c : ℕ) → spelt n (xs ++ (c ∷ [])) ≡ 10 * spelt n xs + (c - 48)
unfolding spelt
spelt_more n [] c = refl
spelt_more n (x ∷ xs) c = spelt_more (10 * n + (x - 48)) xs c

digits_spell : (most n : ℕ) → n < most → spelt 0 (digits most n) ≡ n
unfolding digits spelt
digits_spell zero n h = omega arith
digits_spell (suc most) n h = go _ refl (λ l. digits_spell most (n / 10) (omega arith))
  where
    go : (b : Bool) → ltb n 10 ≡ b → (10 ≤ n → spelt 0 (digits most (n / 10)) ≡ n / 10)
        → spelt 0 (cond b (digit n ∷ []) (digits most (n / 10) ++ (digit (n % 10) ∷ []))) ≡ n
    go true e tenth = omega arith
    go false e tenth = spelt_more 0 (digits most (n / 10)) (digit (n % 10)) ∙ omega (arith, tenth (ltb-false n 10 e))

-- the digits of a number spell it
pub decimal_spells : (n : ℕ) → spelt 0 (decimal n) ≡ n
unfolding decimal
decimal_spells n = digits_spell (suc n) n (omega arith)

first_digit : (most n : ℕ) → n < most → 0 < n → (48 < get_or (digits most n) 0 0) × (0 < length (digits most n))
unfolding digits
first_digit zero n h k = absurd (omega arith)
first_digit (suc most) n h k = go _ refl (λ l. first_digit most (n / 10) (omega arith) (omega arith))
  where
    go : (b : Bool) → ltb n 10 ≡ b → (10 ≤ n → (48 < get_or (digits most (n / 10)) 0 0) × (0 < length (digits most (n / 10))))
        → let l = cond b (digit n ∷ []) (digits most (n / 10) ++ (digit (n % 10) ∷ [])) in (48 < get_or l 0 0) × (0 < length l)
    go true e tenth = omega arith
    go false e tenth =
        let (first, some) = tenth (ltb-false n 10 e) in
        let last = digit (n % 10) ∷ [] in
        (rw (get_or-append (digits most (n / 10)) last 0 0 some) first, omega (arith, length-append (digits most (n / 10)) last))

-- no zero stands in front
pub no_zero_first : (n : ℕ) → 0 < n → 48 < get_or (decimal n) 0 0
unfolding decimal
no_zero_first n h = (first_digit (suc n) n (omega arith) h).0
