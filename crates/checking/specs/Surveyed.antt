-- The walk over a report's groups, as a computation: to the end, or to the first bad one. proofs/Walked.antt shows that it
-- ends well just where the report is well formed, and at the first bad group where it is not.
-- Assumes nothing.
use Rattle.std.specs.Prelude.{cond, Option, Some, None, Result, Ok, Err, List, ℕ, zero, suc, leb, ltb, length}
use Rattle.shape.specs.declared.Mark.{Mark}
use Rattle.shape.specs.declared.BadGroup.{BadGroup}
use Rattle.shape.specs.Shape.{bad_at}
use Rattle.checking.specs.declared.Survey.{Survey}
use Rattle.checking.specs.WellFormed.{group_place, place_among, good_group}

-- from group m on, with so many turns left: how many groups there are, or the first bad one
unfoldable pub walked : List ℕ → ℕ → ℕ → Result ℕ BadGroup
walked report zero m = Err (bad_at (group_place report m))
walked report (suc turns) m =
    cond (leb (length report) (group_place report m))
    (Ok m)
    (cond (good_group report m) (walked report turns (suc m)) (Err (bad_at (group_place report m))))

-- from the front; a 4,097th group is bad, so no more turns are needed
unfoldable pub checked : List ℕ → Result ℕ BadGroup
checked report = walked report 4097 0

-- the place of the mark's group among the first m, if it has one
unfoldable pub place_found : List ℕ → ℕ → Mark → Option ℕ
place_found report m e = cond (ltb (place_among report m e) (length report)) (Some (place_among report m e)) None

-- the same check, with the places of two marks' groups
unfoldable pub survey_of : List ℕ → Mark → Mark → Result ℕ BadGroup → Result Survey BadGroup
survey_of report e f (Ok m) = Ok (record { groups = m; first = place_found report m e; second = place_found report m f })
survey_of report e f (Err bad) = Err bad

abbrev pub surveyed : List ℕ → Mark → Mark → Result Survey BadGroup
surveyed report e f = survey_of report e f (checked report)

-- ---- 01's number and place for each answer: 0 for a well-formed report, and no place, which is 0 too; 14 at the first bad group

abbrev pub number_of : {T : Type 0} → Result T BadGroup → ℕ
number_of (Ok x) = 0
number_of (Err bad) = 14

abbrev pub place_of : {T : Type 0} → Result T BadGroup → ℕ
place_of (Ok x) = 0
place_of (Err bad) = bad.place

-- a survey's answer has those of the check
abbrev pub survey_number : Result Survey BadGroup → ℕ
survey_number = number_of

abbrev pub survey_place : Result Survey BadGroup → ℕ
survey_place = place_of
