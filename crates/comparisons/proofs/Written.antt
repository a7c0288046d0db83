-- The groups of answers that keep the rules, written one after the other, are a well-formed report, which has the group of each
-- answer's mark, with its stamp, and of no other mark: each group stands where those before it end, and no mark has two.
-- Assumes nothing.
use mathlib.Core.Path.{◌≡◌, refl, sym, ap, ◌∙◌}
use mathlib.Core.Bool.{true, false, not-eq-not}
use mathlib.Core.List.{List, [], ◌∷◌, Memᴰ}
use Prim.Native.Nat.{ℕ, zero, suc, ◌+◌, ◌≤◌, ◌<◌}
use native.Mathlib.Omega.{arith}
use lib.ListN.{length, get_or, take, drop, length-append}
use lib.Seq.{split_at, take-suc, take-length}
use Rattle.machine.specs.Answer.{Answer}
use Rattle.groups.specs.Groups.{group_of, groups_of}
use Rattle.groups.proofs.GroupsSame.{groups_more}
use Rattle.reading.specs.Reading.{stamp_at}
use Rattle.reading.proofs.GroupRead.{amid, group_stamp, groups_amid, groups_clear}
use Rattle.shape.specs.declared.Mark.{Mark}
use Rattle.shape.specs.Shape.{group_fits, mark_here}
use Rattle.shape.specs.Fits.{Fits, mark_of}
use Rattle.shape.proofs.GroupWritten.{group_mark, group_past, group_fits_lem}
use Rattle.checking.specs.WellFormed.{same_mark, group_place, place_among, good_group, WellFormed}
use Rattle.checking.proofs.Walked.{good_whole, good_inside}
use Rattle.checking.proofs.Marks.{mark_one_lem, among_none, among_at}
use Rattle.comparisons.specs.Written.{IsTo, SameMark, NoneTwice, none_twice_nil, none_twice_cons, Writable}

-- ---- the answers by their places

-- the answer at a place of the list; behind its end, any
abbrev any : Answer
any = record { node = 0; stamp = λ k. 0; nearest = [] }

abbrev answer_in : List Answer → ℕ → Answer
answer_in told j = get_or told j any

-- it is listed
at_listed : (told : List Answer) (j : ℕ) → j < length told → Memᴰ (answer_in told j) told
at_listed [] j h = absurd (omega arith)
at_listed (a ∷ rest) zero h = Memᴰ.head refl
at_listed (a ∷ rest) (suc j) h = Memᴰ.tail (at_listed rest j (omega arith))

-- and each that is listed has a place
listed_at : {a : Answer} {told : List Answer} → Memᴰ a told → (j : ℕ) × (j < length told) × (answer_in told j ≡ a)
listed_at (Memᴰ.head e) = (0, omega arith, sym e)
listed_at (Memᴰ.tail m) = let (j, h, e) = listed_at m in (suc j, omega arith, e)

-- those at two places are to two marks
two_marks_lem : {told : List Answer} → NoneTwice told → (i j : ℕ) → i < j → j < length told → ¬ SameMark (answer_in told i) (answer_in told j)
two_marks_lem none_twice_nil i j l h = absurd (omega arith)
two_marks_lem (none_twice_cons first others) i zero l h = absurd (omega arith)
two_marks_lem (none_twice_cons {rest = rest} first others) zero (suc j) l h = first _ (at_listed rest j (omega arith))
two_marks_lem (none_twice_cons first others) (suc i) (suc j) l h = two_marks_lem others i j (omega arith) (omega arith)

-- ---- marks as they are compared

-- an answer is to no other mark than its own
mark_other : (a : Answer) (e : Mark) → ¬ IsTo a e → same_mark (mark_of a) e ≡ false
mark_other a e other = not-eq-not.0 (λ same. other (mark_one_lem (mark_of a) e same))

-- ---- the groups

module _ {told : List Answer} (written : Writable told) where
  -- the report, parted at a group
  parted : (j : ℕ) → j < length told → groups_of 32 told ≡ amid (groups_of 32 (take j told)) (answer_in told j) (groups_of 32 (drop (suc j) told))
  parted j h = ap (groups_of 32) (split_at told j any h) ∙ groups_amid (take j told) (drop (suc j) told) (answer_in told j)

  -- each answer keeps the rules
  fits_there : (j : ℕ) → j < length told → Fits (answer_in told j)
  fits_there j h = written.each_fits _ (at_listed told j h)

  -- no count follows a group
  next_clear : (j : ℕ) → ¬ (get_or (groups_of 32 (drop (suc j) told)) 0 0 ≡ 0x22)
  next_clear j = groups_clear (drop (suc j) told)

  -- each group stands where those before it end
  place_written : (j : ℕ) → j ≤ length told → group_place (groups_of 32 told) j ≡ length (groups_of 32 (take j told))
  unfolding group_place groups_of
  place_written zero h = refl
  place_written (suc j) h =
      let front = groups_of 32 (take j told) in
      let a = answer_in told j in
      let fits = fits_there j (omega arith) in
      rw (place_written j (omega arith), take-suc told j any (omega arith), groups_more 32 (take j told) a, length-append front (group_of 32 a))
      (rw (parted j (omega arith)) (group_past fits front (groups_of 32 (drop (suc j) told)) (next_clear j)))

  -- they end with the report
  place_end : group_place (groups_of 32 told) (length told) ≡ length (groups_of 32 told)
  place_end = place_written (length told) (omega arith) ∙ rw (take-length told)

  -- and keeps the rules, with the mark and the stamp of its answer
  module _ (j : ℕ) (h : j < length told) where
    fits_at : group_fits (groups_of 32 told) (group_place (groups_of 32 told) j) ≡ true
    fits_at = rw (place_written j (omega arith), parted j h) (group_fits_lem (fits_there j h) (groups_of 32 (take j told)) _ (next_clear j))

    mark_at_lem : mark_here (groups_of 32 told) (group_place (groups_of 32 told) j) ≡ mark_of (answer_in told j)
    mark_at_lem = rw (place_written j (omega arith), parted j h) (group_mark (fits_there j h) (groups_of 32 (take j told)) _ (next_clear j))

    stamp_at_lem : (k : ℕ) → k < 32 → stamp_at (groups_of 32 told) (group_place (groups_of 32 told) j + 5) k ≡ (answer_in told j).stamp k
    stamp_at_lem = rw (place_written j (omega arith), parted j h) (group_stamp (answer_in told j) (groups_of 32 (take j told)) _ (next_clear j))

  -- ---- looking for a mark

  -- among the first m groups none is of a mark that no answer is to
  none_among : (e : Mark) (m : ℕ) → m ≤ length told → ((i : ℕ) → i < m → ¬ IsTo (answer_in told i) e)
      → place_among (groups_of 32 told) m e ≡ length (groups_of 32 told)
  none_among e m h other = among_none (groups_of 32 told) e m (λ i l. rw (mark_at_lem i (omega arith)) (mark_other (answer_in told i) e (other i l)))

  -- ---- the report

  -- each group is good
  good_there : (j : ℕ) → j < length told → good_group (groups_of 32 told) j ≡ true
  good_there j h =
      let none = none_among (mark_of (answer_in told j)) j (omega arith) (λ i l. two_marks_lem written.none_twice i j l h) in
      good_whole (groups_of 32 told) j (omega arith) (fits_at j h) (rw (mark_at_lem j h) (omega arith))

  -- It is well formed, with a group for each answer.
  pub written_well_formed : WellFormed (groups_of 32 told) (length told)
  written_well_formed = record { all_good = good_there; ends_there = place_end }

  -- The mark of an answer has its group there, with the answer's stamp.
  pub written_found : {a : Answer} → Memᴰ a told → let report = groups_of 32 told in let q = place_among report (length told) (mark_of a) in
      (q < length report) × ((k : ℕ) → k < 32 → stamp_at report (q + 5) k ≡ a.stamp k)
  written_found m =
      let (j, h, e) = listed_at m in
      let (on, inside) = good_inside (groups_of 32 told) j (good_there j h) in
      rw (← e, among_at (groups_of 32 told) _ (length told) j good_there h (mark_at_lem j h)) (omega arith, stamp_at_lem j h)

  -- A mark that no answer is to has none.
  pub written_absent : (e : Mark) → ((a : Answer) → Memᴰ a told → ¬ IsTo a e)
      → place_among (groups_of 32 told) (length told) e ≡ length (groups_of 32 told)
  written_absent e other = none_among e (length told) (omega arith) (λ i h. other _ (at_listed told i h))
