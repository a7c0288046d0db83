-- When a report is well formed, and where its first bad group stands (01, "The report"), for any bytes.
-- Assumes nothing.
use Rattle.std.specs.Prelude.{◌≡◌, Bool, true, false, cond, ◌&&◌, List, ℕ, zero, suc, ◌<◌, eqb, leb, ltb, length}
use Rattle.shape.specs.declared.Mark.{Mark}
use Rattle.shape.specs.Shape.{group_fits, mark_here, past_group}

-- the marks are one: the same node, and the same number
unfoldable pub same_mark : Mark → Mark → Bool
same_mark e f = eqb e.node.0 f.node.0 && eqb e.number.0 f.number.0

-- the place of group m, counted from 0: groups are read from the front, each where the one before it ends
unfoldable pub group_place : List ℕ → ℕ → ℕ
group_place report zero = 0
group_place report (suc m) = past_group report (group_place report m)

-- the place of the mark's group among the first m; the report's length, where no group stands, if it has none
unfoldable pub place_among : List ℕ → ℕ → Mark → ℕ
place_among report zero e = length report
place_among report (suc m) e = cond (same_mark (mark_here report (group_place report m)) e) (group_place report m) (place_among report m e)

-- group m is good: there are less than 4,096 before it, it keeps the rules of its shape, and none before it is of its mark
unfoldable pub good_group : List ℕ → ℕ → Bool
good_group report m =
    ltb m 4096 && group_fits report (group_place report m)
    && leb (length report) (place_among report m (mark_here report (group_place report m)))

-- the first m groups are good
abbrev pub AllGood : List ℕ → ℕ → Type 0
AllGood report m = (j : ℕ) → j < m → good_group report j ≡ true

-- the report is m good groups and nothing else
pub record WellFormed (report : List ℕ) (m : ℕ) : Type 0 where
  pub all_good : AllGood report m
  pub ends_there : group_place report m ≡ length report

-- the first bad group is group m, and starts at place p: those before it are good, and it is not
pub record FirstBad (report : List ℕ) (m p : ℕ) : Type 0 where
  pub all_good : AllGood report m
  pub starts_there : p ≡ group_place report m
  pub inside : p < length report
  pub not_good : good_group report m ≡ false
