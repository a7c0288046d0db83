-- Small reports with two marks compared, for each answer and for the order of the refusals, computed over the definition.
-- Assumes nothing.
use mathlib.Core.Path.{◌≡◌, refl}
use mathlib.Core.List.{List, [], ◌∷◌, ◌++◌, map}
use Prim.Native.Nat.{ℕ}
use Rattle.std.specs.Prelude.{Result, Ok, Err}
use Rattle.reading.specs.Reading.{whole_at, stamp_here, count_at, past_count, stamp_place, stamp_at}
use Rattle.shape.specs.declared.Mark.{Mark}
use Rattle.shape.specs.Shape.{in_range, entry_fits, stamp_fits, stamp_ends, causes_fit, mark_fits, head_fits, stamp_kept, causes_kept, group_fits, mark_here, past_group}
use Rattle.checking.specs.WellFormed.{same_mark, group_place, place_among, good_group}
use Rattle.checking.specs.Surveyed.{walked, checked, place_found}
use Rattle.comparing.specs.declared.Standing.{Standing}
use Rattle.comparing.specs.declared.Standing.TheVariants.{Before, After, Apart}
use Rattle.comparing.specs.declared.Incomparable.{Incomparable}
use Rattle.comparing.specs.declared.Incomparable.TheVariants.{NotWellFormed, FirstAbsent, SecondAbsent}
use Rattle.comparing.specs.Compare.{exceeds, differs, ordered, compared_at, compared_in, compared}

-- 0.1; 1.1, stamped 1 1, from 0.1; and 2.1, from none
abbrev three : List ℕ
three =
    0x21 ∷ 0 ∷ 1 ∷ 0 ∷ 0 ∷ 0x22 ∷ 0 ∷ 1 ∷ 0
    ∷ 0x21 ∷ 1 ∷ 1 ∷ 0 ∷ 1 ∷ 0x22 ∷ 0 ∷ 1 ∷ 0 ∷ 0x22 ∷ 1 ∷ 1 ∷ 0 ∷ 0x23 ∷ 0 ∷ 1 ∷ 0
    ∷ 0x21 ∷ 2 ∷ 1 ∷ 0 ∷ 0 ∷ 0x22 ∷ 2 ∷ 1 ∷ 0 ∷ []

-- a report, two marks as node and number, and what comparing them says
pub record Sample : Type 0 where
  pub report : List ℕ
  pub first : ℕ × ℕ
  pub second : ℕ × ℕ
  pub says : Result Standing Incomparable

abbrev sample : List ℕ → ℕ × ℕ → ℕ × ℕ → Result Standing Incomparable → Sample
sample report e f says = record { report = report; first = e; second = f; says = says }

abbrev named : ℕ × ℕ → Mark
named x = record { node = record { 0 = x.0 }; number = record { 0 = x.1 } }

abbrev pub samples : List Sample
samples =
    -- 0.1 has no entry of node 1, which is zero
    sample three (0, 1) (1, 1) (Ok Before)
    ∷ sample three (1, 1) (0, 1) (Ok After)
    ∷ sample three (1, 1) (2, 1) (Ok Apart)
    -- a mark and itself
    ∷ sample three (1, 1) (1, 1) (Ok Apart)
    -- marks that have no group, the first one first
    ∷ sample three (0, 2) (1, 1) (Err FirstAbsent)
    ∷ sample three (0, 1) (0, 2) (Err SecondAbsent)
    ∷ sample three (0, 2) (3, 1) (Err FirstAbsent)
    ∷ sample [] (0, 1) (0, 1) (Err FirstAbsent)
    -- the report before both
    ∷ sample (three ++ 0 ∷ []) (0, 2) (1, 1) (Err (NotWellFormed 35))
    ∷ []

-- every one of them
pub samples_hold : map (λ x. compared x.report (named x.first) (named x.second)) samples ≡ map (λ x. x.says) samples
unfolding compared_in compared_at ordered exceeds differs checked walked place_found good_group place_among group_place same_mark mark_here group_fits head_fits mark_fits stamp_kept causes_kept causes_fit stamp_fits stamp_ends entry_fits in_range past_group stamp_at stamp_place past_count count_at stamp_here whole_at
samples_hold = refl
