-- Small reports, each with what its check says: one or more for each rule of 01's "The report", computed over the definition.
-- Assumes nothing.
use mathlib.Core.Path.{◌≡◌, refl}
use mathlib.Core.List.{List, [], ◌∷◌, ◌++◌, map}
use Prim.Native.Nat.{ℕ}
use Rattle.std.specs.Prelude.{Result, Ok, Err}
use Rattle.reading.specs.Reading.{whole_at, stamp_here, count_at, past_count, stamp_place, stamp_at}
use Rattle.shape.specs.declared.BadGroup.{BadGroup}
use Rattle.shape.specs.Shape.{in_range, entry_fits, stamp_fits, stamp_ends, causes_fit, mark_fits, head_fits, stamp_kept, causes_kept, group_fits, mark_here, past_group, bad_at}
use Rattle.checking.specs.WellFormed.{same_mark, group_place, place_among, good_group}
use Rattle.checking.specs.Surveyed.{walked, checked}

-- the first mark of node 0, and its second, with nothing else in their stamps; and the first mark of node 1, from the first
abbrev first : List ℕ
first = 0x21 ∷ 0 ∷ 1 ∷ 0 ∷ 0 ∷ 0x22 ∷ 0 ∷ 1 ∷ 0 ∷ []

abbrev second : List ℕ
second = 0x21 ∷ 0 ∷ 2 ∷ 0 ∷ 0 ∷ 0x22 ∷ 0 ∷ 2 ∷ 0 ∷ []

abbrev other : List ℕ
other = 0x21 ∷ 1 ∷ 1 ∷ 0 ∷ 1 ∷ 0x22 ∷ 0 ∷ 1 ∷ 0 ∷ 0x22 ∷ 1 ∷ 1 ∷ 0 ∷ 0x23 ∷ 0 ∷ 1 ∷ 0 ∷ []

-- a report and what its check says
pub record Sample : Type 0 where
  pub report : List ℕ
  pub says : Result ℕ BadGroup

abbrev good : ℕ → List ℕ → Sample
good m report = record { report = report; says = Ok m }

abbrev bad : ℕ → List ℕ → Sample
bad p report = record { report = report; says = Err (bad_at p) }

abbrev pub samples : List Sample
samples =
    -- groups one after the other, in any order
    good 0 []
    ∷ good 2 (first ++ other)
    ∷ good 3 (second ++ other ++ first)
    -- a byte that starts no group is a bad group of its own, and so is a predecessor that was not announced
    ∷ bad 0 (0x22 ∷ 0 ∷ 1 ∷ 0 ∷ [])
    ∷ bad 9 (first ++ 0 ∷ [])
    ∷ bad 9 (first ++ 0x23 ∷ 0 ∷ 1 ∷ 0 ∷ [])
    -- of two groups for one mark the later is bad, wherever it stands
    ∷ bad 9 (first ++ first)
    ∷ bad 18 (second ++ first ++ second)
    -- the head is cut short; its node is 32; its number is 0, or 4,097
    ∷ bad 9 (first ++ 0x21 ∷ 1 ∷ 1 ∷ 0 ∷ [])
    ∷ bad 0 (0x21 ∷ 32 ∷ 1 ∷ 0 ∷ 0 ∷ 0x22 ∷ 32 ∷ 1 ∷ 0 ∷ [])
    ∷ bad 0 (0x21 ∷ 0 ∷ 0 ∷ 0 ∷ 0 ∷ 0x22 ∷ 0 ∷ 0 ∷ 0 ∷ [])
    ∷ bad 0 (0x21 ∷ 0 ∷ 1 ∷ 16 ∷ 0 ∷ 0x22 ∷ 0 ∷ 1 ∷ 16 ∷ [])
    -- 4,096 and node 31 are well
    ∷ good 1 (0x21 ∷ 31 ∷ 0 ∷ 16 ∷ 0 ∷ 0x22 ∷ 31 ∷ 0 ∷ 16 ∷ [])
    -- the stamp lacks the mark's own node, or has another number there
    ∷ bad 0 (0x21 ∷ 0 ∷ 1 ∷ 0 ∷ 0 ∷ 0x22 ∷ 1 ∷ 1 ∷ 0 ∷ [])
    ∷ bad 0 (0x21 ∷ 0 ∷ 1 ∷ 0 ∷ 0 ∷ 0x22 ∷ 0 ∷ 2 ∷ 0 ∷ [])
    -- its nodes do not ascend, or one is 32; a count is 0, or cut short
    ∷ bad 0 (first ++ 0x22 ∷ 0 ∷ 1 ∷ 0 ∷ [])
    ∷ bad 0 (first ++ 0x22 ∷ 32 ∷ 1 ∷ 0 ∷ [])
    ∷ bad 0 (first ++ 0x22 ∷ 1 ∷ 0 ∷ 0 ∷ [])
    ∷ bad 0 (first ++ 0x22 ∷ 1 ∷ 1 ∷ [])
    -- a predecessor is announced and missing, or cut short, or of a node that does not ascend, or has no number
    ∷ bad 0 (0x21 ∷ 0 ∷ 1 ∷ 0 ∷ 1 ∷ 0x22 ∷ 0 ∷ 1 ∷ 0 ∷ [])
    ∷ bad 0 (0x21 ∷ 0 ∷ 1 ∷ 0 ∷ 1 ∷ 0x22 ∷ 0 ∷ 1 ∷ 0 ∷ 0x23 ∷ 1 ∷ 1 ∷ [])
    ∷ bad 0 (0x21 ∷ 0 ∷ 1 ∷ 0 ∷ 2 ∷ 0x22 ∷ 0 ∷ 1 ∷ 0 ∷ 0x23 ∷ 1 ∷ 1 ∷ 0 ∷ 0x23 ∷ 1 ∷ 2 ∷ 0 ∷ [])
    ∷ bad 0 (0x21 ∷ 0 ∷ 1 ∷ 0 ∷ 1 ∷ 0x22 ∷ 0 ∷ 1 ∷ 0 ∷ 0x23 ∷ 1 ∷ 0 ∷ 0 ∷ [])
    ∷ []

-- every one of them
pub samples_hold : map (λ x. checked x.report) samples ≡ map (λ x. x.says) samples
unfolding checked walked good_group place_among group_place same_mark mark_here group_fits head_fits mark_fits stamp_kept causes_kept causes_fit stamp_fits stamp_ends entry_fits in_range past_group stamp_at stamp_place past_count count_at stamp_here whole_at
samples_hold = refl
