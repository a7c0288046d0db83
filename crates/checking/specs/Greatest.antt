-- What a pass over a report keeps, so that it need not look back.
-- Assumes nothing.
use Rattle.std.specs.Prelude.{◌≡◌, List, ℕ, ◌≤◌, ◌<◌, length, get_or}
use Rattle.reading.specs.Reading.{node_at, number_here}
use Rattle.checking.specs.WellFormed.{group_place}

-- for each node a number that none of its marks among the first m groups exceeds, so that one above it has no group there
pub record Greatest (report : List ℕ) (m : ℕ) (table : List ℕ) : Type 0 where
  pub nodes : length table ≡ 32
  pub covers : (j : ℕ) → j < m → number_here report (group_place report j) ≤ get_or table (node_at report (group_place report j)) 0
