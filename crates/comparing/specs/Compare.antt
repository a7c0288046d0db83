-- Comparing two marks of a report, for any bytes (01, "The report", "Refusal numbers").
-- Assumes nothing.
use Rattle.std.specs.Prelude.{Bool, false, cond, not, ◌&&◌, ◌||◌, Option, None, Some, Result, Ok, Err, List, ℕ, zero, suc, ◌+◌, eqb, ltb}
use Rattle.reading.specs.Reading.{stamp_at}
use Rattle.shape.specs.declared.Mark.{Mark}
use Rattle.shape.specs.declared.BadGroup.{BadGroup}
use Rattle.checking.specs.Surveyed.{checked, place_found}
use Rattle.comparing.specs.declared.Standing.{Standing}
use Rattle.comparing.specs.declared.Standing.TheVariants.{Before, After, Apart}
use Rattle.comparing.specs.declared.Incomparable.{Incomparable}
use Rattle.comparing.specs.declared.Incomparable.TheVariants.{NotWellFormed, FirstAbsent, SecondAbsent}

-- ---- 01's number and place for each answer; a comparison that is made has 0 and no place, which is 0 too

abbrev pub number_of : Result Standing Incomparable → ℕ
number_of (Ok standing) = 0
number_of (Err (NotWellFormed p)) = 14
number_of (Err FirstAbsent) = 15
number_of (Err SecondAbsent) = 16

abbrev pub place_of : Result Standing Incomparable → ℕ
place_of (Ok standing) = 0
place_of (Err (NotWellFormed p)) = p
place_of (Err FirstAbsent) = 0
place_of (Err SecondAbsent) = 0

-- ---- two stamps

-- of the nodes below k, some entry of the first stamp exceeds the second's; some entry differs
unfoldable pub exceeds : ℕ → (ℕ → ℕ) → (ℕ → ℕ) → Bool
exceeds zero s t = false
exceeds (suc k) s t = exceeds k s t || ltb (t k) (s k)

unfoldable pub differs : ℕ → (ℕ → ℕ) → (ℕ → ℕ) → Bool
differs zero s t = false
differs (suc k) s t = differs k s t || not (eqb (s k) (t k))

-- before if no entry of the first exceeds the second's and some entry differs; after the other way round; otherwise apart
unfoldable pub ordered : (ℕ → ℕ) → (ℕ → ℕ) → Standing
ordered s t =
    cond (not (exceeds 32 s t) && differs 32 s t) Before
    (cond (not (exceeds 32 t s) && differs 32 t s) After Apart)

-- the stamp of the group at place p; a missing entry is zero
abbrev pub stamp_of : List ℕ → ℕ → ℕ → ℕ
stamp_of report p = stamp_at report (p + 5)

-- ---- the answer

-- the marks whose groups stand at these places, none where a mark has no group
unfoldable pub compared_at : List ℕ → Option ℕ → Option ℕ → Result Standing Incomparable
compared_at report None q = Err FirstAbsent
compared_at report (Some p) None = Err SecondAbsent
compared_at report (Some p) (Some q) = Ok (ordered (stamp_of report p) (stamp_of report q))

-- well-formedness first, then the first mark, then the second
unfoldable pub compared_in : List ℕ → Mark → Mark → Result ℕ BadGroup → Result Standing Incomparable
compared_in report e f (Ok m) = compared_at report (place_found report m e) (place_found report m f)
compared_in report e f (Err bad) = Err (NotWellFormed bad.place)

abbrev pub compared : List ℕ → Mark → Mark → Result Standing Incomparable
compared report e f = compared_in report e f (checked report)
