-- A group is its head, its stamp and its direct predecessors, each from the place that the part before it reaches: by the definitions.
-- Assumes nothing.
use mathlib.Core.Path.{◌≡◌, refl}
use mathlib.Core.Bool.{true, ◌&&◌}
use mathlib.Core.List.{List}
use Prim.Native.Nat.{ℕ, ◌+◌, ◌*◌, ◌<◌}
use lib.Dec.{eqb}
use borrow.Author.Tests.{ltb-true}
use Rattle.reading.specs.Reading.{whole_at, stamp_at, cause_place, cause_count}
use Rattle.reading.proofs.Standing.{both}
pub use Rattle.reading.proofs.Standing.{whole_fits, stamp_inside}
use Rattle.shape.specs.declared.Mark.{Mark}
use Rattle.shape.specs.Shape.{mark_fits, mark_here, stamp_fits, stamp_ends, causes_fit, head_fits, stamp_kept, causes_kept, group_fits, past_group}

-- the node of a mark that fits is below 32
pub mark_below : (m : Mark) → mark_fits m ≡ true → m.node.0 < 32
unfolding mark_fits
mark_below m e = ltb-true _ _ (both _ _ e).0

module _ (report : List ℕ) (p : ℕ) where
  -- the tests of a group, part by part
  pub group_is : group_fits report p
      ≡ (whole_at 0x21 5 report p && mark_fits (mark_here report p))
      && (stamp_fits report (p + 5) 32 && stamp_ends report (cause_place report p) && eqb (stamp_at report (p + 5) (mark_here report p).node.0) (mark_here report p).number.0)
      && causes_fit report (cause_place report p) 0 (cause_count report p)
  unfolding group_fits head_fits stamp_kept causes_kept mark_here
  group_is = refl

  pub past_is : past_group report p ≡ cause_place report p + 4 * cause_count report p
  unfolding past_group
  past_is = refl

-- what the reader of a group is held to, and that each place which it reaches lies within the report
pub ruleset group_tests = (group_is, past_is, mark_below, whole_fits, stamp_inside)
