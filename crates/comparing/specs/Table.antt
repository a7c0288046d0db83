-- 01's answers to comparing two marks of a report ("The report", last paragraph; "Refusal numbers", last paragraph), row by row,
-- as facts about the report. proofs/Tabled.antt shows that the answer is just this: one row of the table, and no two at once.
-- Assumes nothing.
use Rattle.std.specs.Prelude.{◌≡◌, ◌≢◌, Result, Ok, Err, List, ℕ, ◌≤◌, ◌<◌}
use Rattle.shape.specs.declared.Mark.{Mark}
use Rattle.shape.specs.Shape.{mark_here}
use Rattle.checking.specs.WellFormed.{group_place, WellFormed, FirstBad}
use Rattle.comparing.specs.declared.Standing.{Standing}
use Rattle.comparing.specs.declared.Standing.TheVariants.{Before, After, Apart}
use Rattle.comparing.specs.declared.Incomparable.{Incomparable}
use Rattle.comparing.specs.declared.Incomparable.TheVariants.{NotWellFormed, FirstAbsent, SecondAbsent}
use Rattle.comparing.specs.Compare.{stamp_of}

-- no entry of the first stamp exceeds the second's, and some entry differs
pub record Under (s t : ℕ → ℕ) : Type 0 where
  pub none_exceeds : (k : ℕ) → k < 32 → s k ≤ t k
  pub some_differs : (k : ℕ) × (k < 32) × (s k ≢ t k)

-- among the first m groups one is of the mark, and it stands at place p
abbrev pub HasGroup : List ℕ → ℕ → Mark → ℕ → Type 0
HasGroup report m e p = (j : ℕ) × (j < m) × (p ≡ group_place report j) × (mark_here report p ≡ e)

-- among the first m groups none is of the mark
abbrev pub NoGroup : List ℕ → ℕ → Mark → Type 0
NoGroup report m e = (j : ℕ) → j < m → ¬ (mark_here report (group_place report j) ≡ e)

-- a row of the table: comparing the marks e and f in the report gives this answer
pub data Compares (report : List ℕ) (e f : Mark) : Result Standing Incomparable → Type 0 where
  -- not well formed: the place is the first byte of the first bad group
  compares_14 : {m p : ℕ} → FirstBad report m p → Compares report e f (Err (NotWellFormed p))
  -- first mark absent
  compares_15 : {m : ℕ} → WellFormed report m → NoGroup report m e → Compares report e f (Err FirstAbsent)
  -- second absent
  compares_16 : {m p : ℕ} → WellFormed report m → HasGroup report m e p → NoGroup report m f → Compares report e f (Err SecondAbsent)
  -- before: no stamp entry of e exceeds f's and some entry differs
  compares_before : {m p q : ℕ} → WellFormed report m → HasGroup report m e p → HasGroup report m f q
      → Under (stamp_of report p) (stamp_of report q) → Compares report e f (Ok Before)
  -- after: the other way round
  compares_after : {m p q : ℕ} → WellFormed report m → HasGroup report m e p → HasGroup report m f q
      → Under (stamp_of report q) (stamp_of report p) → Compares report e f (Ok After)
  -- otherwise apart
  compares_apart : {m p q : ℕ} → WellFormed report m → HasGroup report m e p → HasGroup report m f q
      → ¬ Under (stamp_of report p) (stamp_of report q) → ¬ Under (stamp_of report q) (stamp_of report p) → Compares report e f (Ok Apart)
