-- The numbers of a check and of a survey: 0 exactly for a well-formed report, 14 with the place of the first bad group exactly for any
-- other, by the two cases of a report.
-- Assumes nothing.
use mathlib.Core.Path.{◌≡◌, refl}
use mathlib.Core.Logic.{◌↔◌}
use mathlib.Core.List.{List}
use Prim.Native.Nat.{ℕ}
use native.Mathlib.Omega.{arith}
use Rattle.std.specs.Prelude.{Result, Ok, Err}
use Rattle.shape.specs.declared.Mark.{Mark}
use Rattle.shape.specs.declared.BadGroup.{BadGroup}
use Rattle.checking.specs.WellFormed.{WellFormed, FirstBad}
use Rattle.checking.specs.Surveyed.{checked, survey_of, surveyed, number_of, place_of, survey_number, survey_place}
use Rattle.checking.proofs.Walked.{checked_good, checked_bad, well_formed_checked, first_bad_checked}

module _ (report : List ℕ) where
  pub told_good : (number_of (checked report) ≡ 0) ↔ ((m : ℕ) × WellFormed report m)
  told_good = (λ h. go (checked report) refl h, λ w. rw (well_formed_checked report w.0 w.1))
    where
      go : (c : Result ℕ BadGroup) → checked report ≡ c → number_of (checked report) ≡ 0 → (m : ℕ) × WellFormed report m
      go (Ok m) e h = (m, (checked_good report m).0 e)
      go (Err bad) e h = absurd (omega (arith, rw e at h))

  pub told_bad : (p : ℕ) → ((number_of (checked report) ≡ 14) × (place_of (checked report) ≡ p)) ↔ ((m : ℕ) × FirstBad report m p)
  told_bad p = (λ h. go (checked report) refl h.0 h.1, λ b. rw (first_bad_checked report b.0 p b.1) (refl, refl))
    where
      go : (c : Result ℕ BadGroup) → checked report ≡ c → number_of (checked report) ≡ 14 → place_of (checked report) ≡ p → (m : ℕ) × FirstBad report m p
      go (Ok m) e h k = absurd (omega (arith, rw e at h))
      go (Err bad) e h k = let same : bad.place ≡ p = rw e at k in (checked_bad report p).0 (rw (← same) e)

  -- a survey for whatever marks tells the same
  pub survey_told : (e f : Mark) → (survey_number (surveyed report e f) ≡ number_of (checked report)) × (survey_place (surveyed report e f) ≡ place_of (checked report))
  unfolding survey_of
  survey_told e f = go (checked report)
    where
      go : (c : Result ℕ BadGroup) → (survey_number (survey_of report e f c) ≡ number_of c) × (survey_place (survey_of report e f c) ≡ place_of c)
      go (Ok m) = (refl, refl)
      go (Err bad) = (refl, refl)
