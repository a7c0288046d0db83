-- The walk over a report's groups ends well just where the report is well formed, and at the first bad group where it is not: it
-- passes over good groups one by one, each starts and ends within the report, and 4,097 turns serve because a 4,097th group is bad.
-- Assumes nothing.
use mathlib.Core.Path.{◌≡◌, refl, sym, ap, ◌∙◌}
use mathlib.Core.Logic.{◌⊎◌, inl, inr, ◌↔◌}
use mathlib.Core.Bool.{Bool, true, false, ◌&&◌, false≢true}
use mathlib.Core.List.{List}
use Prim.Native.Nat.{ℕ, zero, suc, ◌+◌, ◌-◌, ◌≤◌, ◌<◌}
use native.Mathlib.Nat.{zero-add, eq-or-lt_of_le}
use native.Mathlib.Decide.{dec_lt}
use native.Mathlib.Omega.{arith}
use lib.Dec.{leb, ltb}
use lib.ListN.{length}
use borrow.Author.Tests.{ltb-true, lt-ltb, leb-true, leb-false, le-leb, lt-leb}
use Rattle.reading.proofs.Standing.{both}
use Rattle.std.specs.Prelude.{Ok, Err}
use Rattle.shape.specs.declared.BadGroup.{BadGroup}
use Rattle.shape.specs.Shape.{group_fits, mark_here, bad_at}
use Rattle.shape.proofs.FittingGroup.{group_inside}
use Rattle.checking.specs.WellFormed.{group_place, place_among, good_group, AllGood, WellFormed, FirstBad}
use Rattle.checking.specs.Surveyed.{walked, checked}

-- the report is well formed, or has a first bad group
abbrev WellOrBad : List ℕ → Type 0
WellOrBad report = ((m : ℕ) × WellFormed report m) ⊎ ((m p : ℕ) × FirstBad report m p)

module _ (report : List ℕ) where
  -- ---- a good group

  -- what makes it good
  pub good_parts : (m : ℕ) → good_group report m ≡ true
      → (m < 4096) × (group_fits report (group_place report m) ≡ true) × (length report ≤ place_among report m (mark_here report (group_place report m)))
  unfolding good_group
  good_parts m e =
      let (front, none) = both (ltb m 4096 && group_fits report (group_place report m)) _ e in
      let (few, fits) = both _ _ front in
      (ltb-true _ _ few, fits, leb-true _ _ none)

  -- and that makes it good
  pub good_whole : (m : ℕ) → m < 4096 → group_fits report (group_place report m) ≡ true
      → length report ≤ place_among report m (mark_here report (group_place report m)) → good_group report m ≡ true
  unfolding good_group
  good_whole m few fits none = rw (lt-ltb _ _ few, fits, le-leb _ _ none)

  -- it ends within the report, nine bytes on or more
  pub good_inside : (m : ℕ) → good_group report m ≡ true
      → (group_place report m + 9 ≤ group_place report (suc m)) × (group_place report (suc m) ≤ length report)
  unfolding group_place
  good_inside m e = let (few, fits, none) = good_parts m e in group_inside report (group_place report m) fits

  -- ---- good groups from the front

  -- one more
  pub good_more : (m : ℕ) → AllGood report m → good_group report m ≡ true → AllGood report (suc m)
  good_more m all e j h = go (eq-or-lt_of_le (omega arith))
    where
      go : (j ≡ m) ⊎ (j < m) → good_group report j ≡ true
      go (inl same) = rw same e
      go (inr l) = all j l

  -- the place past them lies within the report
  pub good_within : (m : ℕ) → AllGood report m → group_place report m ≤ length report
  unfolding group_place
  good_within zero all = omega arith
  good_within (suc m) all = (good_inside m (all m (omega arith))).1

  -- there are 4,096 at most
  pub good_few : (m : ℕ) → AllGood report m → m ≤ 4096
  good_few zero all = omega arith
  good_few (suc m) all = (good_parts m (all m (omega arith))).0

  -- ---- the walk

  -- at the end
  walked_end : (m turns : ℕ) → group_place report m ≡ length report → walked report (suc turns) m ≡ Ok m
  unfolding walked
  walked_end m turns e = rw (le-leb (length report) (group_place report m) (omega arith))

  -- at a good group
  walked_good : (m turns : ℕ) → good_group report m ≡ true → walked report (suc turns) m ≡ walked report turns (suc m)
  unfolding walked
  walked_good m turns e =
      let (on, inside) = good_inside m e in
      rw (lt-leb (length report) (group_place report m) (omega arith), e)

  -- at a bad group
  walked_bad : (m turns : ℕ) → group_place report m < length report → good_group report m ≡ false → walked report (suc turns) m ≡ Err (bad_at (group_place report m))
  unfolding walked
  walked_bad m turns h e = rw (lt-leb (length report) (group_place report m) h, e)

  -- it passes over good groups
  walked_past : (m turns : ℕ) → AllGood report m → walked report (m + turns) 0 ≡ walked report turns m
  walked_past zero turns all = rw (zero-add turns)
  walked_past (suc m) turns all =
      let next : suc m + turns ≡ m + suc turns = omega arith in
      rw next (walked_past m (suc turns) (λ j h. all j (omega arith)) ∙ walked_good m turns (all m (omega arith)))

  -- and has a turn left behind them
  checked_past : (m : ℕ) → AllGood report m → checked report ≡ walked report (suc (4096 - m)) m
  unfolding checked
  checked_past m all =
      let few = good_few m all in
      let turns : m + suc (4096 - m) ≡ 4097 = omega arith in
      ap (λ (t : ℕ). walked report t 0) (sym turns) ∙ walked_past m (suc (4096 - m)) all

  -- so it ends well in a well-formed report, and badly in one with a first bad group
  pub well_formed_checked : (m : ℕ) → WellFormed report m → checked report ≡ Ok m
  well_formed_checked m well = checked_past m well.all_good ∙ walked_end m (4096 - m) well.ends_there

  pub first_bad_checked : (m p : ℕ) → FirstBad report m p → checked report ≡ Err (bad_at p)
  first_bad_checked m p bad =
      let there = bad.starts_there in
      checked_past m bad.all_good ∙ walked_bad m (4096 - m) (omega arith) bad.not_good ∙ ap (λ (q : ℕ). Err (bad_at q)) (sym there)

  -- ---- well formed or not

  -- from group m on, where those before it are good
  ends : (turns m : ℕ) → AllGood report m → m + turns ≡ 4097 → WellOrBad report
  ends zero m all turns = absurd (omega (arith, good_few m all))
  ends (suc rest) m all turns = go (λ e. ends rest (suc m) (good_more m all e) (omega arith)) _ _ refl refl
    where
      go : (good_group report m ≡ true → WellOrBad report)
          → (end good : Bool) → leb (length report) (group_place report m) ≡ end → good_group report m ≡ good → WellOrBad report
      go further true good at-end e =
          inl (m, record { all_good = all; ends_there = omega (arith, leb-true, good_within m all) })
      go further false true before e = further e
      go further false false before e =
          inr (m, group_place report m, record { all_good = all; starts_there = refl; inside = leb-false _ _ before; not_good = e })

  -- a first bad group does not lie before another
  not_behind : {m n p q : ℕ} → FirstBad report m p → FirstBad report n q → n ≤ m
  not_behind {m} {n} bad other = go (dec_lt m n)
    where
      go : Dec (m < n) → n ≤ m
      go (yes l) =
          let good = other.all_good m l in
          absurd (false≢true (cc))
      go (no l) = omega arith

  -- Every report is well formed or has a first bad group,
  pub well_formed_or_bad : ((m : ℕ) × WellFormed report m) ⊎ ((m p : ℕ) × FirstBad report m p)
  well_formed_or_bad = ends 4097 0 (λ j h. absurd (omega arith)) (omega arith)

  -- and not both,
  pub not_well_and_bad : {m n p : ℕ} → WellFormed report m → FirstBad report n p → ⊥
  not_well_and_bad well bad =
      let good = well_formed_checked _ well in
      let other = first_bad_checked _ _ bad in
      false≢true (cc)

  -- in one way only: with so many groups, or at that group and place.
  pub well_formed_unique : {m n : ℕ} → WellFormed report m → WellFormed report n → m ≡ n
  well_formed_unique well other = cc (well_formed_checked _ well, well_formed_checked _ other)

  pub first_bad_unique : {m n p q : ℕ} → FirstBad report m p → FirstBad report n q → (m ≡ n) × (p ≡ q)
  first_bad_unique {m} {n} bad other =
      let same : m ≡ n = omega (arith, not_behind bad other, not_behind other bad) in
      let place : group_place report m ≡ group_place report n = ap (group_place report) same in
      (same, omega arith)

  -- ---- the answer of the walk

  -- It ends well, with so many groups, just where the report is so many good groups,
  pub checked_good : (m : ℕ) → (checked report ≡ Ok m) ↔ WellFormed report m
  checked_good m = (λ e. go e well_formed_or_bad, well_formed_checked m)
    where
      go : checked report ≡ Ok m → WellOrBad report → WellFormed report m
      go e (inl (k, well)) = let same : k ≡ m = cc (well_formed_checked k well) in rw (← same) well
      go e (inr (k, p, bad)) = absurd (false≢true (cc (first_bad_checked k p bad)))

  -- and badly, at a place, just where the first bad group starts there.
  pub checked_bad : (p : ℕ) → (checked report ≡ Err (bad_at p)) ↔ ((m : ℕ) × FirstBad report m p)
  checked_bad p = (λ e. go e well_formed_or_bad, λ (m, bad). first_bad_checked m p bad)
    where
      go : checked report ≡ Err (bad_at p) → WellOrBad report → (m : ℕ) × FirstBad report m p
      go e (inl (k, well)) = absurd (false≢true (cc (well_formed_checked k well)))
      go e (inr (k, q, bad)) = let same : bad_at q ≡ bad_at p = cc (first_bad_checked k q bad) in (k, rw (← ap (λ (b : BadGroup). b.place) same) bad)
