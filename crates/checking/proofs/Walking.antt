-- The pass over a report: the groups before the place reached are good, and what was found of the two marks is what those groups
-- have. Each way to end gives the survey of the whole report.
-- Assumes nothing.
use mathlib.Core.Path.{◌≡◌, refl, sym, ap, ◌∙◌}
use mathlib.Core.Bool.{true, false, false≢true, not-eq-not}
use mathlib.Core.List.{List}
use Prim.Native.Nat.{ℕ, suc, ◌≤◌, ◌<◌}
use native.Mathlib.Omega.{arith}
use lib.Dec.{ltb}
use lib.ListN.{length}
use borrow.Author.Tests.{ltb-true, ltb-false}
use Rattle.std.specs.Bool.{then_some}
use Rattle.std.specs.Option.{option_or}
use Rattle.std.specs.Prelude.{Option, None, Some, Result, Ok, Err}
use Rattle.shape.specs.declared.Mark.{Mark}
use Rattle.shape.specs.declared.BadGroup.{BadGroup}
use Rattle.shape.specs.Shape.{group_fits, mark_here, bad_at, group_seen}
use Rattle.shape.proofs.FittingGroup.{group_inside}
use Rattle.shape.proofs.GroupSeen.{look_end, look_bad, look_good}
use Rattle.checking.specs.declared.Survey.{Survey}
use Rattle.checking.specs.WellFormed.{same_mark, group_place, place_among, good_group, AllGood}
use Rattle.checking.specs.Surveyed.{checked, place_found, survey_of, surveyed}
use Rattle.checking.specs.Greatest.{Greatest}
use Rattle.checking.proofs.Walked.{good_parts, good_whole, good_more, good_within, good_few, well_formed_checked, first_bad_checked}
use Rattle.checking.proofs.Marks.{greatest_none, found_none, found_more}

-- a group that cannot be good is not
refused : (report : List ℕ) (m : ℕ) → ¬ (good_group report m ≡ true) → good_group report m ≡ false
refused report m = not-eq-not.0

-- m groups are passed, the place at is reached, and the two marks were found at p and q
pub record Walking (report : List ℕ) (e f : Mark) (table : List ℕ) (m at : ℕ) (p q : Option ℕ) : Type 0 where
  pub all_good : AllGood report m
  pub reached : at ≡ group_place report m
  pub first_found : p ≡ place_found report m e
  pub second_found : q ≡ place_found report m f
  pub greatest : Greatest report m table

-- before the first group
pub walking_none : (report : List ℕ) (e f : Mark) (table : List ℕ) → length table ≡ 32 → Walking report e f table 0 0 None None
unfolding group_place
walking_none report e f table h =
    record { all_good = λ j l. absurd (omega arith); reached = refl; first_found = sym (found_none report e); second_found = sym (found_none report f); greatest = greatest_none report table h }

module _ {report : List ℕ} {e f : Mark} {table : List ℕ} {m at : ℕ} {p q : Option ℕ} (w : Walking report e f table m at p q) where
  -- the place lies within the report, and there are 4,096 groups at most
  pub walking_inside : (at ≤ length report) × (m ≤ 4096)
  walking_inside = (rw w.reached (good_within report m w.all_good), good_few report m w.all_good)

  -- no group is left
  pub walking_end : group_seen report at ≡ Ok None → Ok (record { groups = m; first = p; second = q }) ≡ surveyed report e f
  unfolding survey_of
  walking_end told =
      let there : group_place report m ≡ length report = omega (arith, look_end report at told, walking_inside.0) in
      rw (well_formed_checked report m (record { all_good = w.all_good; ends_there = there }), w.first_found, w.second_found)

  -- a group that is not good
  broken : at < length report → good_group report m ≡ false → Err (bad_at at) ≡ surveyed report e f
  unfolding survey_of
  broken inside bad =
      rw (first_bad_checked report m at (record { all_good = w.all_good; starts_there = w.reached; inside = inside; not_good = bad }))

  -- it breaks a rule of its shape
  pub walking_bad : (bad : BadGroup) → group_seen report at ≡ Err bad → Err bad ≡ surveyed report e f
  walking_bad bad told =
      let (inside, unfit, place) = look_bad report at bad told in
      let here : group_fits report (group_place report m) ≡ false = rw (← w.reached) unfit in
      ap (λ (q : ℕ). Err (bad_at q)) place ∙ broken inside (refused report m (λ good. false≢true (sym here ∙ (good_parts report m good).1)))

  module _ (mark : Mark) (past : ℕ) (told : group_seen report at ≡ Ok (Some (mark, past))) where
    -- what stands at the place reached
    pub walking_fits : group_fits report (group_place report m) ≡ true
    walking_fits = rw (← w.reached) (look_good report at mark past told).0

    pub walking_mark : mark_here report (group_place report m) ≡ mark
    walking_mark = rw (← w.reached) (sym (look_good report at mark past told).1)

    pub walking_next : group_place report (suc m) ≡ past
    unfolding group_place
    walking_next = rw (← w.reached) (sym (look_good report at mark past told).2)

    -- it ends behind its start, within the report
    pub walking_ahead : (at < past) × (past ≤ length report)
    walking_ahead =
        let (fits, is, ends) = look_good report at mark past told in
        let (long, inside) = group_inside report at fits in
        (omega arith, omega arith)

    starts : at < length report
    starts = let (ahead, inside) = walking_ahead in omega arith

    -- it is a 4,097th
    pub walking_many : m ≡ 4096 → Err (bad_at at) ≡ surveyed report e f
    walking_many h = broken starts (refused report m (λ good. omega (arith, (good_parts report m good).0)))

    -- it is of a mark that has a group
    pub walking_repeated : ltb (place_among report m mark) (length report) ≡ true → Err (bad_at at) ≡ surveyed report e f
    walking_repeated h =
        let here : place_among report m (mark_here report (group_place report m)) < length report = rw walking_mark (ltb-true _ _ h) in
        broken starts (refused report m (λ good. omega (arith, (good_parts report m good).2)))

    -- it is good
    pub walking_more : {table' : List ℕ} → ¬ (m ≡ 4096) → ltb (place_among report m mark) (length report) ≡ false → Greatest report (suc m) table'
        → Walking report e f table' (suc m) past (option_or (then_some (same_mark mark e) at) p) (option_or (then_some (same_mark mark f) at) q)
    walking_more h new greatest =
        let none : length report ≤ place_among report m (mark_here report (group_place report m)) = rw walking_mark (ltb-false _ _ new) in
        let within : group_place report m < length report = rw (← w.reached) starts in
        record {
          all_good = good_more report m w.all_good (good_whole report m (omega (arith, walking_inside.1)) walking_fits none);
          reached = sym walking_next;
          first_found = rw (found_more report e m within, walking_mark, ← w.reached, w.first_found);
          second_found = rw (found_more report f m within, walking_mark, ← w.reached, w.second_found);
          greatest = greatest;
        }

-- ---- the survey tells the check

module _ (report : List ℕ) (e f : Mark) where
  pub survey_whole : (s : Survey) → surveyed report e f ≡ Ok s
      → (checked report ≡ Ok s.groups) × (s.first ≡ place_found report s.groups e) × (s.second ≡ place_found report s.groups f)
  unfolding survey_of
  survey_whole s told = go _ refl told
    where
      go : (c : Result ℕ BadGroup) → checked report ≡ c → survey_of report e f c ≡ Ok s
          → (checked report ≡ Ok s.groups) × (s.first ≡ place_found report s.groups e) × (s.second ≡ place_found report s.groups f)
      go (Ok k) is told = let same : record { groups = k; first = place_found report k e; second = place_found report k f } ≡ s = cc in rw (← same) (is, refl, refl)
      go (Err bad) is told = absurd (false≢true (cc))

  pub survey_broken : (bad : BadGroup) → surveyed report e f ≡ Err bad → checked report ≡ Err bad
  unfolding survey_of
  survey_broken bad told = go _ refl told
    where
      go : (c : Result ℕ BadGroup) → checked report ≡ c → survey_of report e f c ≡ Err bad → checked report ≡ Err bad
      go (Ok k) is told = absurd (false≢true (cc))
      go (Err other) is told = let same : other ≡ bad = cc in rw (is, same)

-- what the pass has to show on its way
pub ruleset walking = (walking_inside, walking_end, walking_bad, walking_fits, walking_mark, walking_ahead, walking_many, walking_repeated)
