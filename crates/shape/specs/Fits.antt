-- Which answers to marks keep the rules of a group (01, "The report"), and the marks that they are to.
-- Assumes nothing.
use mathlib.Core.List.{Memᴰ}
use Rattle.std.specs.Prelude.{ℕ, ◌<◌, ◌≤◌}
use Rattle.machine.specs.Answer.{Answer, Ascending}
use Rattle.shape.specs.declared.Mark.{Mark}

-- the answer keeps the rules of a group: its node is below 32; its number and the counts of its stamp go up to 4,096, its
-- number from 1; its direct predecessors are of ascending nodes below 32, with numbers from 1 to 4,096
pub record Fits (a : Answer) : Type 0 where
  pub node_below : a.node < 32
  pub number_some : 0 < a.stamp a.node
  pub counts_within : (k : ℕ) → k < 32 → a.stamp k ≤ 4096
  pub ascending : Ascending a.nearest
  pub causes_within : (k c : ℕ) → Memᴰ (k, c) a.nearest → (k < 32) × (0 < c) × (c ≤ 4096)

-- the mark that it is to
abbrev pub mark_of : Answer → Mark
mark_of a = record { node = record { 0 = a.node }; number = record { 0 = a.stamp a.node } }
