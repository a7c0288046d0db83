-- A group that fits is seen, and what is seen at a place tells what stands there: both by the tests of the definition.
-- Assumes nothing.
use mathlib.Core.Path.{◌≡◌}
use mathlib.Core.Bool.{true, false}
use mathlib.Core.List.{List}
use Prim.Native.Nat.{ℕ, ◌≤◌, ◌<◌}
use native.Mathlib.Omega.{arith}
use lib.ListN.{length}
use Rattle.std.specs.Prelude.{None, Some, Ok, Err}
use Rattle.std.proofs.lemmas.Grind.{common_steps}
use Rattle.shape.specs.declared.Mark.{Mark}
use Rattle.shape.specs.declared.BadGroup.{BadGroup}
use Rattle.shape.specs.Shape.{group_fits, mark_here, past_group, group_seen}
use Rattle.shape.proofs.FittingGroup.{group_inside}

module _ (report : List ℕ) (p : ℕ) where
  -- a group that fits
  pub seen_fits : group_fits report p ≡ true → group_seen report p ≡ Ok (Some (mark_here report p, past_group report p))
  unfolding group_seen
  seen_fits e = grind (arith, common_steps, group_inside report p e, e)

  -- no byte
  pub look_end : group_seen report p ≡ Ok None → length report ≤ p
  unfolding group_seen
  look_end told = grind (arith, common_steps, told)

  -- no group that fits
  pub look_bad : (bad : BadGroup) → group_seen report p ≡ Err bad → (p < length report) × (group_fits report p ≡ false) × (bad.place ≡ p)
  unfolding group_seen
  look_bad bad told = grind (arith, common_steps, told)

  -- a group that fits, with this mark and this end
  pub look_good : (m : Mark) (q : ℕ) → group_seen report p ≡ Ok (Some (m, q)) → (group_fits report p ≡ true) × (m ≡ mark_here report p) × (q ≡ past_group report p)
  unfolding group_seen
  look_good m q told = grind (arith, common_steps, told)
