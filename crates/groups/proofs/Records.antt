-- The records of a stamp and of predecessors, node after node: one more node, and how many bytes there are.
-- Assumes nothing.
use mathlib.Core.Path.{◌≡◌, refl}
use mathlib.Core.Bool.{Bool, cond}
use mathlib.Core.List.{List, [], ◌∷◌, ◌++◌}
use Prim.Native.Nat.{ℕ, zero, suc, ◌*◌, ◌≤◌, ◌<◌}
use native.Mathlib.Numerals.{add-one}
use native.Mathlib.Omega.{arith}
use lib.ListN.{length}
use Rattle.machine.specs.Answer.{flagged}
use Rattle.groups.specs.Groups.{four_bytes, stamp_record, stamp_records, cause_records}
use Rattle.groups.proofs.Turns.{Grows}

-- ---- the stamp

-- a stamp above zero has a record
pub stamp_some : (k c : ℕ) → 0 < c → stamp_record k c ≡ four_bytes 0x22 k c
unfolding stamp_record
stamp_some k zero h = absurd (omega arith)
stamp_some k (suc c) h = refl

-- and one of zero has none
pub stamp_none : (k c : ℕ) → c ≤ 0 → stamp_record k c ≡ []
unfolding stamp_record
stamp_none k zero h = refl
stamp_none k (suc c) h = absurd (omega arith)

-- the next node's record comes behind the others
pub stamps_grow : (stamp : ℕ → ℕ) → Grows (λ k. stamp_records k stamp) (λ k. stamp_record k (stamp k))
unfolding stamp_records
stamps_grow stamp = record { more = λ k. rw (add-one k) }

-- ---- the predecessors

-- the records of two lists, one behind the other
causes_append : (xs ys : List (ℕ × ℕ)) → cause_records (xs ++ ys) ≡ cause_records xs ++ cause_records ys
unfolding cause_records
causes_append [] ys = refl
causes_append (x ∷ xs) ys = rw (causes_append xs ys)

-- each has four bytes
pub causes_length : (xs : List (ℕ × ℕ)) → length (cause_records xs) ≡ 4 * length xs
unfolding cause_records
causes_length [] = refl
causes_length (x ∷ xs) = omega (arith, causes_length xs)

-- the predecessor at node k, if there is one
abbrev pub cause_at : (ℕ → ℕ) → (ℕ → Bool) → ℕ → List (ℕ × ℕ)
cause_at count flag k = cond (flag k) ((k, count k) ∷ []) []

-- the next node's record comes behind the others
pub causes_grow : (count : ℕ → ℕ) (flag : ℕ → Bool)
    → Grows (λ k. cause_records (flagged k count flag)) (λ k. cause_records (cause_at count flag k))
unfolding flagged
causes_grow count flag = record { more = λ k. rw (add-one k) (causes_append (flagged k count flag) (cause_at count flag k)) }
