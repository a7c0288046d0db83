-- The laws of bits: a bit is a digit of a number at base 2, and so each law is one of std's on such digits, which are 0 or 1.
-- Assumes nothing.
use mathlib.Core.Path.{◌≡◌, refl, sym, ap, ◌∙◌}
use mathlib.Core.Logic.{◌↔◌}
use mathlib.Core.Bool.{Bool, true, false, not, ◌&&◌, ◌||◌, cond, true≢false, and-eq-true_iff}
use Prim.Native.Nat.{ℕ, zero, suc, ◌+◌, ◌-◌, ◌/◌, ◌%◌, ◌^◌, ◌≤◌, ◌<◌}
use native.Mathlib.Nat.{add_assoc}
use native.Mathlib.Numerals.{add-one}
use native.Mathlib.Decide.{dec_lt}
use native.Mathlib.Omega.{arith}
use borrow.Author.Tests.{ne_eqb, eqb-false, not-true}
use lib.Dec.{eqb}
use lib.Arith.{lt-one, bin_ind}
use lib.Pow.{shr_lt}
use lib.Bits.{bit_and, bit_or, and_zero_r}
use lib.Count.{ones, ones_step, ones-ones}
use Rattle.std.proofs.lemmas.Bool.Decides.{nat_tests}
use Rattle.std.specs.Int.{w32}
use lib.Pow.{pow-lt}
use Rattle.std.proofs.lemmas.Nat.Bits.{bit_at_lowest, bit_at-suc, bit_at-zero, bit_at_and, bit_at_or, bit_at-pow_same, bit_at-pow_other, bit_at-lt, bit_at_not, bit_at_above, and_pow, same_from_bits}
use Rattle.bits.specs.Bits.{bit, Put, meets, set_below}

pub bit_zero : (k : ℕ) → bit 0 k ≡ false
unfolding bit
bit_zero k = rw (bit_at-zero k)

pub bit_one : (k m : ℕ) → bit (2 ^ k) m ≡ eqb k m
unfolding bit
bit_one k m = grind (arith, nat_tests, bit_at-pow_same k, bit_at-pow_other k m)

pub bit-bit_or : (x y k : ℕ) → bit (bit_or x y) k ≡ (bit x k || bit y k)
unfolding bit
bit-bit_or x y k = grind (arith, nat_tests, bit_at_or x y k, bit_at-lt x k, bit_at-lt y k)

pub bit-bit_and : (x y k : ℕ) → bit (bit_and x y) k ≡ (bit x k && bit y k)
unfolding bit
bit-bit_and x y k = grind (arith, nat_tests, bit_at_and x y k, bit_at-lt x k, bit_at-lt y k)

pub bit_or_one : (x k m : ℕ) → bit (bit_or x (2 ^ k)) m ≡ cond (eqb k m) true (bit x m)
bit_or_one x k m = grind (arith, nat_tests, bit-bit_or x (2 ^ k) m, bit_one k m)

-- what `word | flag` is
pub set_puts : (x k flag : ℕ) → flag ≡ 2 ^ k → Put x k true (bit_or x flag)
set_puts x k flag e = rw e (record { bits = bit_or_one x k })

bit_cleared : (x k m flag : ℕ) → x < 2 ^ 32 → k < 32 → flag ≡ 2 ^ k → bit (bit_and x (4294967295 - flag)) m ≡ cond (eqb k m) false (bit x m)
unfolding bit
bit_cleared x k m flag small below e = go (dec_lt m 32)
  where
    go : Dec (m < 32) → bit (bit_and x (4294967295 - flag)) m ≡ cond (eqb k m) false (bit x m)
    go (yes h) =
        let others = bit_at_not w32 flag m (rw e (pow-lt below)) h in
        grind (arith, nat_tests, bit_at_and x (4294967295 - flag) m, bit_at-lt x m, bit_at-pow_same k, bit_at-pow_other k m)
    go (no h) =
        let above = bit_at_above x 32 m small (omega arith) in
        grind (arith, nat_tests, bit_at_and x (4294967295 - flag) m)

-- what `word & !flag` is
pub clear_puts : (x k flag : ℕ) → x < 2 ^ 32 → k < 32 → flag ≡ 2 ^ k → Put x k false (bit_and x (4294967295 - flag))
clear_puts x k flag small below e = record { bits = λ m. bit_cleared x k m flag small below e }

pub same_bits : (x y : ℕ) → ((k : ℕ) → bit x k ≡ bit y k) → x ≡ y
unfolding bit
same_bits x y same = same_from_bits x y (λ k. grind (arith, nat_tests, same k, bit_at-lt x k, bit_at-lt y k))

pub put_unique : {x k : ℕ} {b : Bool} {r s : ℕ} → Put x k b r → Put x k b s → r ≡ s
put_unique {r = r} {s = s} p q = same_bits r s (λ m. p.bits m ∙ sym (q.bits m))

-- ---- a bit that is set in both words

pub meets_none : (x : ℕ) → meets x 0 ≡ false
unfolding meets
meets_none x = rw (and_zero_r x)

-- a number that is not 0 has a bit that is set
some_bit : (x : ℕ) → 0 < x → (k : ℕ) × (bit x k ≡ true)
unfolding bit
some_bit =
    bin_ind (λ (x : ℕ). 0 < x → (k : ℕ) × (bit x k ≡ true)) (λ h. absurd (omega arith)) (λ x rest h. step x rest h (dec_lt 0 (x / 2)))
  where
    step : (x : ℕ) → (0 < x / 2 → (k : ℕ) × (bit (x / 2) k ≡ true)) → 0 < x → Dec (0 < x / 2) → (k : ℕ) × (bit x k ≡ true)
    step x rest h (yes more) = let found = rest more in (suc found.0, rw (bit_at-suc x found.0) found.1)
    step x rest h (no none) = let one : x ≡ 1 = omega arith in (0, rw one refl)

pub meets_exact : (x y : ℕ) → (meets x y ≡ true) ↔ ((k : ℕ) × (bit x k ≡ true) × (bit y k ≡ true))
unfolding meets
meets_exact x y = (there, back)
  where
    there : meets x y ≡ true → (k : ℕ) × (bit x k ≡ true) × (bit y k ≡ true)
    there h =
        let some = eqb-false (bit_and x y) 0 (not-true (eqb (bit_and x y) 0) h) in
        let found = some_bit (bit_and x y) (omega arith) in
        let both = (and-eq-true_iff (bit x found.0) (bit y found.0)).0 (sym (bit-bit_and x y found.0) ∙ found.1) in
        (found.0, both.0, both.1)

    back : (k : ℕ) × (bit x k ≡ true) × (bit y k ≡ true) → meets x y ≡ true
    back h =
        let both = bit-bit_and x y h.0 ∙ (and-eq-true_iff (bit x h.0) (bit y h.0)).1 (h.1, h.2) in
        ap not (ne_eqb (bit_and x y) 0 (λ none. true≢false (sym both ∙ rw none (bit_zero h.0))))

pub meets_one : (x k : ℕ) → meets x (2 ^ k) ≡ bit x k
unfolding meets bit
meets_one x k = grind (arith, nat_tests, and_pow x k, bit_at-lt x k)

-- ---- how many bits are set

-- a flag as a digit
pub digit_small : (b : Bool) → cond b 1 0 ≤ 1
digit_small true = omega arith
digit_small false = omega arith

lowest_count : (x : ℕ) → cond (bit x 0) 1 0 ≡ x % 2
unfolding bit
lowest_count x = grind (arith, nat_tests, bit_at_lowest x)

set_step : (n x : ℕ) → set_below (suc n) x ≡ x % 2 + set_below n (x / 2)
unfolding set_below bit
set_step zero x = omega (arith, lowest_count x)
set_step (suc n) x = rw (set_step n x, bit_at-suc x n) (add_assoc (x % 2) (set_below n (x / 2)) _)

-- the set digits of a number of n bits
pub ones_set : (n x : ℕ) → x < 2 ^ n → ones x ≡ set_below n x
unfolding set_below
ones_set zero x h = rw (lt-one h) (ones-ones 0)
ones_set (suc n) x h =
    let half : x / 2 < 2 ^ n = shr_lt n 1 (rw (← add-one n) at h) in
    ones_step x ∙ rw (ones_set n (x / 2) half) (sym (set_step n x))
