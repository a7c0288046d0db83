-- The answer of comparing is the table's: on every report and every pair of marks it is one row, and no two at once. A row's places
-- are those where the marks are found, since no two good groups are of one mark, and some row always holds. So the rows tell what
-- comes of exchanging the marks, and of comparing a mark with itself.
-- Assumes nothing.
use mathlib.Core.Path.{◌≡◌, refl, sym, ◌∙◌, ap}
use mathlib.Core.Logic.{◌⊎◌, inl, inr, ◌↔◌, ⊎_elim}
use mathlib.Core.Bool.{false≢true}
use mathlib.Core.List.{List}
use Prim.Native.Nat.{ℕ, ◌<◌}
use native.Mathlib.Decide.{dec_lt}
use native.Mathlib.Omega.{arith}
use lib.ListN.{length}
use Rattle.std.specs.Prelude.{None, Some, Result, Ok, Err}
use Rattle.shape.specs.declared.Mark.{Mark}
use Rattle.checking.specs.WellFormed.{group_place, place_among, AllGood, WellFormed, FirstBad}
use Rattle.checking.specs.Surveyed.{place_found}
use Rattle.checking.proofs.Walked.{good_inside, well_formed_checked, first_bad_checked, well_formed_or_bad}
use Rattle.checking.proofs.Marks.{among_some, among_at, found_inside, found_nowhere}
use Rattle.comparing.specs.declared.Standing.{Standing}
use Rattle.comparing.specs.declared.Standing.TheVariants.{Before, After, Apart}
use Rattle.comparing.specs.declared.Incomparable.{Incomparable}
use Rattle.comparing.specs.declared.Incomparable.TheVariants.{NotWellFormed, FirstAbsent, SecondAbsent}
use Rattle.comparing.specs.Compare.{number_of, stamp_of, ordered, compared_at, compared_in, compared}
use Rattle.comparing.specs.Table.{HasGroup, NoGroup, Compares, compares_14, compares_15, compares_16, compares_before, compares_after, compares_apart}
use Rattle.comparing.proofs.Ordering.{Says, says_before, says_after, says_apart, ordered_says, ordered_under, ordered_over, ordered_neither}
use Rattle.comparing.proofs.Answering.{found_at}

-- ---- the group of a mark

module _ (report : List ℕ) (m : ℕ) (all : AllGood report m) (e : Mark) where
  -- among good groups it is the one that is found
  group_found : (p : ℕ) → HasGroup report m e p → place_found report m e ≡ Some p
  group_found p (j, l, there, is) =
      let (long, inside) = good_inside report j (all j l) in
      let at : place_among report m e ≡ p = among_at report e m j all l (rw there at is) ∙ sym there in
      found_inside report e m (omega arith) ∙ ap Some at

  -- where there is none, none is found
  group_missing : NoGroup report m e → place_found report m e ≡ None
  group_missing none = go (dec_lt (place_among report m e) (length report))
    where
      go : Dec (place_among report m e < length report) → place_found report m e ≡ None
      go (yes h) = let (j, l, there, is) = among_some report e m h in absurd (none j l is)
      go (no h) = found_nowhere report e m (omega arith)

  -- there is one, or none
  group_or_none : ((p : ℕ) × HasGroup report m e p) ⊎ NoGroup report m e
  group_or_none = go (dec_lt (place_among report m e) (length report))
    where
      go : Dec (place_among report m e < length report) → ((p : ℕ) × HasGroup report m e p) ⊎ NoGroup report m e
      go (yes h) = let (j, l, there, is) = among_some report e m h in inl (group_place report j, (j, l, refl, is))
      go (no h) = inr (λ j l is. let (at, inside) = found_at report m e (group_found (group_place report j) (j, l, refl, is)) in omega arith)

-- ---- the table and the answer

module _ (report : List ℕ) (e f : Mark) where
  -- the answer of a report that is not well formed, and of one that is
  answer_bad : {m p : ℕ} → FirstBad report m p → compared report e f ≡ Err (NotWellFormed p)
  unfolding compared_in
  answer_bad bad = rw (first_bad_checked report _ _ bad)

  answer_well : {m : ℕ} → WellFormed report m → compared report e f ≡ compared_at report (place_found report m e) (place_found report m f)
  unfolding compared_in
  answer_well well = rw (well_formed_checked report _ well)

  -- where both marks have a group, their stamps decide
  stamps_decide : {m p q : ℕ} → WellFormed report m → HasGroup report m e p → HasGroup report m f q
      → compared report e f ≡ Ok (ordered (stamp_of report p) (stamp_of report q))
  unfolding compared_at
  stamps_decide {m} {p} {q} well first second =
      rw (answer_well well, group_found report m well.all_good e p first, group_found report m well.all_good f q second)

  -- A row of the table has the answer,
  tabled_compared : {r : Result Standing Incomparable} → Compares report e f r → r ≡ compared report e f
  unfolding compared_at
  tabled_compared (compares_14 bad) = sym (answer_bad bad)
  tabled_compared (compares_15 {m = m} well none) = rw (answer_well well, group_missing report m well.all_good e none)
  tabled_compared (compares_16 {m = m} {p = p} well first none) =
      rw (answer_well well, group_found report m well.all_good e p first, group_missing report m well.all_good f none)
  tabled_compared (compares_before well first second under) = rw (stamps_decide well first second, (ordered_under _ _).1 under)
  tabled_compared (compares_after well first second under) = rw (stamps_decide well first second, (ordered_over _ _).1 under)
  tabled_compared (compares_apart well first second neither other) =
      rw (stamps_decide well first second, (ordered_neither _ _).1 (neither, other))

  -- where both marks have a group, what is said of their stamps is a row,
  stamps_row : {m p q : ℕ} {r : Standing} → WellFormed report m → HasGroup report m e p → HasGroup report m f q
      → Says (stamp_of report p) (stamp_of report q) r → Compares report e f (Ok r)
  stamps_row well first second (says_before under) = compares_before well first second under
  stamps_row well first second (says_after under) = compares_after well first second under
  stamps_row well first second (says_apart neither other) = compares_apart well first second neither other

  -- and else what is missing is: some row holds
  some_row : (r : Result Standing Incomparable) × Compares report e f r
  some_row = go (well_formed_or_bad report)
    where
      both : {m : ℕ} → WellFormed report m → ((p : ℕ) × HasGroup report m e p) ⊎ NoGroup report m e → ((q : ℕ) × HasGroup report m f q) ⊎ NoGroup report m f
          → (r : Result Standing Incomparable) × Compares report e f r
      both well (inr none) second = (Err FirstAbsent, compares_15 well none)
      both well (inl (p, first)) (inr none) = (Err SecondAbsent, compares_16 well first none)
      both well (inl (p, first)) (inl (q, second)) =
          (Ok (ordered (stamp_of report p) (stamp_of report q)), stamps_row well first second (ordered_says (stamp_of report p) (stamp_of report q)))

      go : ((m : ℕ) × WellFormed report m) ⊎ ((m p : ℕ) × FirstBad report m p) → (r : Result Standing Incomparable) × Compares report e f r
      go (inl (m, well)) = both well (group_or_none report m well.all_good e) (group_or_none report m well.all_good f)
      go (inr (m, p, bad)) = (Err (NotWellFormed p), compares_14 bad)

  -- and so the answer is a row,
  compared_tabled : Compares report e f (compared report e f)
  compared_tabled = let (r, row) = some_row in rw (← tabled_compared row) row

  -- just the one that holds,
  pub compares_exactly : (r : Result Standing Incomparable) → Compares report e f r ↔ (r ≡ compared report e f)
  compares_exactly r = (tabled_compared, λ is. rw is compared_tabled)

  -- and no two rows give two answers.
  pub compares_one : {r s : Result Standing Incomparable} → Compares report e f r → Compares report e f s → r ≡ s
  compares_one row other = tabled_compared row ∙ sym (tabled_compared other)

-- ---- the marks exchanged

-- before and after exchanged; every other answer as it is
abbrev pub swapped : Result Standing Incomparable → Result Standing Incomparable
swapped (Ok Before) = Ok After
swapped (Ok After) = Ok Before
swapped (Ok Apart) = Ok Apart
swapped (Err why) = Err why

module _ (report : List ℕ) where
  -- Where no mark is absent, the answer is exchanged with the marks:
  pub compare_swapped : (e f : Mark) → (number_of (compared report e f) ≡ 0) ⊎ (number_of (compared report e f) ≡ 14)
      → compared report f e ≡ swapped (compared report e f)
  compare_swapped e f = go (compared_tabled report e f)
    where
      go : {r : Result Standing Incomparable} → Compares report e f r → (number_of r ≡ 0) ⊎ (number_of r ≡ 14) → compared report f e ≡ swapped r
      go (compares_14 bad) h = sym (tabled_compared report f e (compares_14 bad))
      go (compares_15 well none) h = absurd (⊎_elim (λ z. omega arith) (λ z. omega arith) h)
      go (compares_16 well first none) h = absurd (⊎_elim (λ z. omega arith) (λ z. omega arith) h)
      go (compares_before well first second under) h = sym (tabled_compared report f e (compares_after well second first under))
      go (compares_after well first second under) h = sym (tabled_compared report f e (compares_before well second first under))
      go (compares_apart well first second neither other) h = sym (tabled_compared report f e (compares_apart well second first other neither))

  -- from what it is one way round, what it is the other way round;
  exchanged : (e f : Mark) {r : Result Standing Incomparable} → compared report e f ≡ r → number_of r ≡ 0 → compared report f e ≡ swapped r
  exchanged e f is h = compare_swapped e f (inl (rw is h)) ∙ ap swapped is

  -- before one way round is after the other way round,
  pub before_after : (e f : Mark) → (compared report e f ≡ Ok Before) ↔ (compared report f e ≡ Ok After)
  before_after e f = (λ is. exchanged e f is refl, λ is. exchanged f e is refl)

  -- and apart is apart.
  pub apart_apart : (e f : Mark) → (compared report e f ≡ Ok Apart) ↔ (compared report f e ≡ Ok Apart)
  apart_apart e f = (λ is. exchanged e f is refl, λ is. exchanged f e is refl)

  -- a mark that is absent is so the other way round too
  absent_too : (e f : Mark) → (number_of (compared report e f) ≡ 15) ⊎ (number_of (compared report e f) ≡ 16)
      → (number_of (compared report f e) ≡ 15) ⊎ (number_of (compared report f e) ≡ 16)
  absent_too e f = go (compared_tabled report e f)
    where
      first_absent : Compares report f e (Err FirstAbsent) → (number_of (compared report f e) ≡ 15) ⊎ (number_of (compared report f e) ≡ 16)
      first_absent row = inl (rw (← tabled_compared report f e row))

      second_absent : Compares report f e (Err SecondAbsent) → (number_of (compared report f e) ≡ 15) ⊎ (number_of (compared report f e) ≡ 16)
      second_absent row = inr (rw (← tabled_compared report f e row))

      go : {r : Result Standing Incomparable} → Compares report e f r → (number_of r ≡ 15) ⊎ (number_of r ≡ 16)
          → (number_of (compared report f e) ≡ 15) ⊎ (number_of (compared report f e) ≡ 16)
      go (compares_14 bad) h = absurd (⊎_elim (λ z. omega arith) (λ z. omega arith) h)
      go (compares_15 {m = m} well none) h =
          ⊎_elim (λ (q, second). second_absent (compares_16 well second none)) (λ neither. first_absent (compares_15 well neither))
          (group_or_none report m well.all_good f)
      go (compares_16 well first none) h = first_absent (compares_15 well none)
      go (compares_before well first second under) h = absurd (⊎_elim (λ z. omega arith) (λ z. omega arith) h)
      go (compares_after well first second under) h = absurd (⊎_elim (λ z. omega arith) (λ z. omega arith) h)
      go (compares_apart well first second neither other) h = absurd (⊎_elim (λ z. omega arith) (λ z. omega arith) h)

  -- Where a mark is absent, one is absent the other way round, as the first or as the second.
  pub absent_swapped : (e f : Mark)
      → ((number_of (compared report e f) ≡ 15) ⊎ (number_of (compared report e f) ≡ 16))
      ↔ ((number_of (compared report f e) ≡ 15) ⊎ (number_of (compared report f e) ≡ 16))
  absent_swapped e f = (absent_too e f, absent_too f e)

  -- ---- a mark beside itself

  module _ (e : Mark) where
    -- It is neither before nor after,
    pub self_unordered : (¬ (compared report e e ≡ Ok Before)) × (¬ (compared report e e ≡ Ok After))
    self_unordered = (
      λ is. let after = (before_after e e).0 is in false≢true (cc),
      λ is. let before = (before_after e e).1 is in false≢true (cc),
    )

    -- but apart, unless the report is not well formed or the mark is absent, as the first.
    pub compare_self : (compared report e e ≡ Ok Apart) ⊎ ((number_of (compared report e e) ≡ 14) ⊎ (number_of (compared report e e) ≡ 15))
    compare_self = go _ refl (compared_tabled report e e)
      where
        go : (r : Result Standing Incomparable) → compared report e e ≡ r → Compares report e e r → (r ≡ Ok Apart) ⊎ ((number_of r ≡ 14) ⊎ (number_of r ≡ 15))
        go (Ok Before) is row = absurd (self_unordered.0 is)
        go (Ok After) is row = absurd (self_unordered.1 is)
        go (Ok Apart) is row = inl refl
        go (Err (NotWellFormed p)) is row = inr (inl refl)
        go (Err FirstAbsent) is row = inr (inr refl)
        go (Err SecondAbsent) is (compares_16 well (j, l, there, same) none) = absurd (none j l (rw there at same))
