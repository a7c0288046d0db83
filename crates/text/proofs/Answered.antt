-- A group that fits has its line, since both tests of the definition pass; and its parts stand within the report.
-- Assumes nothing.
use mathlib.Core.Path.{◌≡◌}
use mathlib.Core.Bool.{true}
use mathlib.Core.List.{List}
use Prim.Native.Nat.{ℕ, ◌+◌, ◌-◌, ◌*◌, ◌≤◌, ◌<◌}
use native.Mathlib.Omega.{arith}
use lib.ListN.{length}
use borrow.Author.Tests.{le-leb, lt-leb}
use Rattle.reading.specs.Reading.{cause_place, cause_count, answer_at}
use Rattle.shape.specs.Shape.{group_fits, past_group}
use Rattle.shape.proofs.FittingGroup.{group_inside}
pub use Rattle.shape.proofs.Reaching.{past_is}
use Rattle.text.specs.Text.{line_of, written_line, line_at}

module _ (n : ℕ) (report : List ℕ) (p : ℕ) (room : List ℕ) where
  -- a group that fits stands there, so its line is answered
  pub line_there : n ≤ 32 → group_fits report p ≡ true → line_at n report p room ≡ written_line (line_of n (answer_at report p)) (past_group report p) room
  unfolding line_at
  line_there h e =
      let (long, inside) = group_inside report p e in
      let there : p < length report = omega arith in
      rw (lt-leb _ _ there, le-leb _ _ h, e)

-- ---- a group that fits

module _ (report : List ℕ) (p : ℕ) where
  -- its direct predecessors start that many times four bytes before its end
  pub causes_start : {past : ℕ} → past ≡ past_group report p → past - 4 * cause_count report p ≡ cause_place report p
  unfolding past_group
  causes_start e = omega arith

  -- it has nine bytes or more
  pub group_long : group_fits report p ≡ true → p + 9 ≤ past_group report p
  group_long e = (group_inside report p e).0

  -- all within the report
  pub group_ends : group_fits report p ≡ true → past_group report p ≤ length report
  group_ends e = (group_inside report p e).1

-- where the parts of a group that fits stand
pub ruleset parts_inside = (past_is, group_long, group_ends)
