-- The groups of a report: one more mark adds its group at the end, and a group looks only at what is held of the nodes of the barn.
-- The first mark after mark, the second node after node.
-- Assumes nothing.
use mathlib.Core.Path.{◌≡◌, refl, sym, ap, ap₂, ◌∙◌}
use mathlib.Core.Bool.{Bool, cond}
use mathlib.Core.List.{List, [], ◌∷◌, ◌++◌, append_assoc, append-nil}
use Prim.Native.Nat.{ℕ, zero, suc, ◌<◌}
use native.Mathlib.Omega.{arith}
use lib.ListN.{length, get_or}
use Rattle.bits.specs.Bits.{bit}
use Rattle.machine.specs.Machine.{State, put, marked}
use Rattle.machine.specs.Answer.{Answer, flagged, answer}
use Rattle.machine.proofs.Small.{put_same, put_both}
use Rattle.groups.specs.Groups.{stamp_record, stamp_records, group_of, groups_of, stamp_of, row_answer}

-- ---- groups one after the other

-- the groups of two runs of answers
pub groups_append : (n : ℕ) (told more : List Answer) → groups_of n (told ++ more) ≡ groups_of n told ++ groups_of n more
unfolding groups_of
groups_append n [] more = refl
groups_append n (a ∷ told) more =
    ap (λ (l : List ℕ). group_of n a ++ l) (groups_append n told more) ∙ sym (append_assoc (group_of n a) (groups_of n told) (groups_of n more))

-- one more mark: its group comes last
pub groups_more : (n : ℕ) (before : List Answer) (a : Answer) → groups_of n (before ++ (a ∷ [])) ≡ groups_of n before ++ group_of n a
unfolding groups_of
groups_more n before a = groups_append n before (a ∷ []) ∙ ap (λ (l : List ℕ). groups_of n before ++ l) (append-nil (group_of n a))

-- ---- the same group

-- stamps that agree below n
stamps_same : (n : ℕ) (f g : ℕ → ℕ) → ((k : ℕ) → k < n → f k ≡ g k) → stamp_records n f ≡ stamp_records n g
unfolding stamp_records
stamps_same zero f g h = refl
stamps_same (suc n) f g h = ap₂ ◌++◌ (stamps_same n f g (λ k l. h k (omega arith))) (ap (stamp_record n) (h n (omega arith)))

-- counts and flags that agree below n
flagged_same : (n : ℕ) (c d : ℕ → ℕ) (f g : ℕ → Bool) → ((k : ℕ) → k < n → c k ≡ d k) → ((k : ℕ) → k < n → f k ≡ g k)
    → flagged n c f ≡ flagged n d g
unfolding flagged
flagged_same zero c d f g counts flags = refl
flagged_same (suc n) c d f g counts flags =
    ap₂ ◌++◌ (flagged_same n c d f g (λ k l. counts k (omega arith)) (λ k l. flags k (omega arith)))
    (ap₂ (λ (x : ℕ) (b : Bool). cond b ((n, x) ∷ []) []) (counts n (omega arith)) (flags n (omega arith)))

-- answers that say the same of the nodes below n
groups_same : (n : ℕ) (a b : Answer) → a.node ≡ b.node → a.node < n
    → ((k : ℕ) → k < n → a.stamp k ≡ b.stamp k) → a.nearest ≡ b.nearest → group_of n a ≡ group_of n b
unfolding group_of
groups_same n a b node below stamps nearest =
    let number : a.stamp a.node ≡ b.stamp b.node = stamps a.node below ∙ ap b.stamp node in
    rw (number, node, nearest, stamps_same n a.stamp b.stamp stamps)

-- a row and a word of flags that hold what the machine holds give the machine's group
pub group_same : (n i : ℕ) (row : List ℕ) (flags : ℕ) (s : State) → length row ≡ n → i < n
    → ((k : ℕ) → k < n → get_or row k 0 ≡ s.count i k) → ((k : ℕ) → k < n → bit flags k ≡ s.flag i k)
    → group_of n (row_answer i row flags) ≡ group_of n (answer n i s)
unfolding row_answer answer marked
group_same n i row flags s size below counts set =
    groups_same n (row_answer i row flags) (answer n i s) refl below stamps
    (rw size (flagged_same n (λ k. get_or row k 0) (s.count i) (bit flags) (s.flag i) counts set))
  where
    stamps : (k : ℕ) → k < n → stamp_of i row k ≡ put i (put i (suc (s.count i i)) (s.count i)) s.count i k
    stamps k h =
        rw (put_same i (put i (suc (s.count i i)) (s.count i)) s.count)
        (put_both (λ x y. x ≡ y) i (suc (get_or row i 0)) (λ m. get_or row m 0) (suc (s.count i i)) (s.count i) k
        (λ e. ap suc (counts i below)) (λ d. counts k h))
