-- From the survey of a report to the answer of comparing, in 01's order: the report, the first mark, the second, then the stamps.
-- Assumes nothing.
use mathlib.Core.Path.{◌≡◌, refl, sym, ◌∙◌}
use mathlib.Core.Logic.{◌≢◌}
use mathlib.Core.List.{List}
use Prim.Native.Nat.{ℕ, ◌+◌, ◌≤◌, ◌<◌}
use native.Mathlib.Omega.{arith}
use lib.ListN.{length}
use borrow.Author.Tests.{ltb-true}
use Rattle.std.specs.Prelude.{None, Some, Result, Ok, Err}
use Rattle.std.proofs.lemmas.Option.{cond_some}
use Rattle.shape.specs.declared.Mark.{Mark}
use Rattle.shape.specs.declared.BadGroup.{BadGroup}
use Rattle.checking.specs.declared.Survey.{Survey}
use Rattle.checking.specs.WellFormed.{place_among}
use Rattle.checking.specs.Surveyed.{checked, place_found, survey_of, surveyed, survey_number, survey_place}
use Rattle.checking.proofs.Walked.{checked_good}
use Rattle.checking.proofs.Walking.{survey_whole, survey_broken}
use Rattle.checking.proofs.Marks.{among_long}
use Rattle.comparing.specs.declared.Incomparable.TheVariants.{NotWellFormed, FirstAbsent, SecondAbsent}
use Rattle.comparing.specs.Compare.{number_of, place_of, stamp_of, ordered, compared_at, compared_in, compared}

-- a place that is found is that of the mark's group, within the report
pub found_at : (report : List ℕ) (m : ℕ) (e : Mark) {p : ℕ} → place_found report m e ≡ Some p → (place_among report m e ≡ p) × (p < length report)
unfolding place_found
found_at report m e told =
    let (inside, there) = cond_some _ _ _ told in
    (there, rw there at (ltb-true _ _ inside))

-- behind the head of a group that is found a stamp stands
stamp_behind : (report : List ℕ) (m : ℕ) → checked report ≡ Ok m → (e : Mark) (p : ℕ) → place_found report m e ≡ Some p → p + 5 ≤ length report
stamp_behind report m well e p found =
    let (there, inside) = found_at report m e found in
    omega (arith, among_long report e m ((checked_good report m).0 well).all_good (omega arith))

module _ (report : List ℕ) (e f : Mark) where
  -- a report that is not well formed is told so
  pub answer_broken : (bad : BadGroup) → surveyed report e f ≡ Err bad → compared report e f ≡ Err (NotWellFormed bad.place)
  unfolding compared_in
  answer_broken bad told = rw (survey_broken report e f bad told)

  -- a survey that refuses has comparing's number and place
  pub refusal_told : survey_number (surveyed report e f) ≢ 0
      → (number_of (compared report e f) ≡ survey_number (surveyed report e f)) × (place_of (compared report e f) ≡ survey_place (surveyed report e f))
  unfolding survey_of compared_in
  refusal_told = go (checked report)
    where
      go : (c : Result ℕ BadGroup) → survey_number (survey_of report e f c) ≢ 0
          → (number_of (compared_in report e f c) ≡ survey_number (survey_of report e f c)) × (place_of (compared_in report e f c) ≡ survey_place (survey_of report e f c))
      go (Ok m) some = absurd (some refl)
      go (Err bad) some = (refl, refl)

  module _ (s : Survey) (told : surveyed report e f ≡ Ok s) where
    -- of a well-formed one the answer is that at the places which the survey tells
    answer_at_lem : compared report e f ≡ compared_at report s.first s.second
    unfolding compared_in
    answer_at_lem = let (well, first, second) = survey_whole report e f s told in rw (well, first, second)

    -- so the first mark is absent
    pub answer_first : s.first ≡ None → compared report e f ≡ Err FirstAbsent
    unfolding compared_at
    answer_first none = rw (answer_at_lem, none)

    -- or the second one
    pub answer_second : (p : ℕ) → s.first ≡ Some p → s.second ≡ None → compared report e f ≡ Err SecondAbsent
    unfolding compared_at
    answer_second p here none = rw (answer_at_lem, here, none)

    -- or their stamps decide
    pub answer_both : (p q : ℕ) → s.first ≡ Some p → s.second ≡ Some q → compared report e f ≡ Ok (ordered (stamp_of report p) (stamp_of report q))
    unfolding compared_at
    answer_both p q here there = rw (answer_at_lem, here, there)

    -- a stamp stands at each, behind a head
    pub first_inside : (p : ℕ) → s.first ≡ Some p → p + 5 ≤ length report
    first_inside p here = let (whole, first, second) = survey_whole report e f s told in stamp_behind report s.groups whole e p (sym first ∙ here)

    pub second_inside : (p : ℕ) → s.second ≡ Some p → p + 5 ≤ length report
    second_inside p here = let (whole, first, second) = survey_whole report e f s told in stamp_behind report s.groups whole f p (sym second ∙ here)

-- what comparing has to show on its way
pub ruleset answering = (answer_broken, answer_first, answer_second, answer_both, first_inside, second_inside)
