-- How many bytes a group has: five, four for each node in the stamp, and four for each direct predecessor, which are the set
-- flags. Each by adding up node after node.
-- Assumes nothing.
use mathlib.Core.Path.{◌≡◌, refl, sym, ◌∙◌}
use mathlib.Core.Bool.{Bool, true, false, cond}
use mathlib.Core.List.{List, [], ◌∷◌}
use Prim.Native.Nat.{ℕ, zero, suc, ◌+◌, ◌*◌, ◌≤◌}
use native.Mathlib.Decide.{le_ind}
use native.Mathlib.Omega.{arith}
use lib.ListN.{length, get_or, length-append}
use Rattle.bits.specs.Bits.{bit, set_below}
use Rattle.bits.proofs.Laws.{digit_small}
use Rattle.machine.specs.Machine.{State}
use Rattle.machine.specs.Answer.{Answer, flagged, answer}
use Rattle.groups.specs.Groups.{stamp_record, stamp_records, cause_records, group_of}
use Rattle.groups.proofs.Records.{stamp_some, stamp_none, stamps_grow, cause_at, causes_length}

-- one pair or none
cond_length : (b : Bool) (x : ℕ × ℕ) → length (cond b (x ∷ []) []) ≡ cond b 1 0
cond_length true x = refl
cond_length false x = refl

-- ---- the stamp

-- a node has four bytes or none
stamp_size : (k c : ℕ) → length (stamp_record k c) ≤ 4
unfolding stamp_record
stamp_size k zero = omega arith
stamp_size k (suc c) = omega arith

-- and a stamp at most four for each node
pub stamps_size : (n : ℕ) (stamp : ℕ → ℕ) → length (stamp_records n stamp) ≤ 4 * n
unfolding stamp_records
stamps_size zero stamp = omega arith
stamps_size (suc n) stamp =
    rw (length-append (stamp_records n stamp) (stamp_record n (stamp n))) (omega (arith, stamps_size n stamp, stamp_size n (stamp n)))

-- the next node's record adds its bytes
pub stamps_longer : (stamp : ℕ → ℕ) (k : ℕ) → length (stamp_records (k + 1) stamp) ≡ length (stamp_records k stamp) + length (stamp_record k (stamp k))
stamps_longer stamp k = rw ((stamps_grow stamp).more k) (length-append (stamp_records k stamp) (stamp_record k (stamp k)))

-- what the counting of a stamp's bytes goes by
pub ruleset stamp_sizes = (stamps_longer, stamp_some, stamp_none, stamps_size)

-- ---- the direct predecessors

-- at most one for each node
flagged_size : (n : ℕ) (count : ℕ → ℕ) (flag : ℕ → Bool) → length (flagged n count flag) ≤ n
unfolding flagged
flagged_size zero count flag = omega arith
flagged_size (suc n) count flag =
    rw (length-append (flagged n count flag) (cause_at count flag n), cond_length (flag n) (n, count n))
    (omega (arith, flagged_size n count flag, digit_small (flag n)))

-- as many as there are set flags
flagged_set : (n : ℕ) (count : ℕ → ℕ) (flags : ℕ) → length (flagged n count (bit flags)) ≡ set_below n flags
unfolding flagged set_below
flagged_set zero count flags = refl
flagged_set (suc n) count flags =
    rw (length-append (flagged n count (bit flags)) (cause_at count (bit flags) n), cond_length (bit flags n) (n, count n), flagged_set n count flags)

-- at most n of the first n flags are set
pub set_size : (n flags : ℕ) → set_below n flags ≤ n
set_size n flags = rw (← flagged_set n (λ k. 0) flags) (flagged_size n (λ k. 0) (bit flags))

-- clear flags behind the others do not count
set_clear : (n m flags : ℕ) → ((k : ℕ) → n ≤ k → bit flags k ≡ false) → n ≤ m → set_below m flags ≡ set_below n flags
unfolding set_below
set_clear n m flags clear = le_ind (λ m. set_below m flags ≡ set_below n flags) refl (λ k h rec. rw (clear k h, rec) (omega arith)) m

-- so the predecessors are as many as all set flags of the word
pub causes_set : (row : List ℕ) (flags : ℕ) → length row ≤ 32 → ((k : ℕ) → length row ≤ k → bit flags k ≡ false)
    → length (flagged (length row) (λ k. get_or row k 0) (bit flags)) ≡ set_below 32 flags
causes_set row flags few clear = flagged_set (length row) (λ k. get_or row k 0) flags ∙ sym (set_clear (length row) 32 flags clear few)

-- ---- a group

-- the sum
pub group_size : (n : ℕ) (a : Answer) → length (group_of n a) ≡ 5 + length (stamp_records n a.stamp) + 4 * length a.nearest
unfolding group_of
group_size n a =
    omega (arith, length-append (stamp_records n a.stamp) (cause_records a.nearest), causes_length a.nearest)

-- no group is empty
pub group_some : (n : ℕ) (a : Answer) → 5 ≤ length (group_of n a)
group_some n a = omega (arith, group_size n a)

-- each of 32 nodes in the stamp, and each a direct predecessor
pub group_most : (n i : ℕ) (s : State) → n ≤ 32 → length (group_of n (answer n i s)) ≤ 261
unfolding answer
group_most n i s few =
    omega (arith, group_size n (answer n i s), stamps_size n (answer n i s).stamp, flagged_size n (s.count i) (s.flag i))
