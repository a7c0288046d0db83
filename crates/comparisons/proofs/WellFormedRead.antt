-- Every well-formed report of bytes is the groups of answers that keep the rules: of what is read at each of its groups, from
-- the front, one group more at a time.
-- Assumes nothing.
use mathlib.Core.Path.{◌≡◌, refl, sym, ◌∙◌}
use mathlib.Core.Logic.{◌⊎◌, inl, inr}
use mathlib.Core.Bool.{true}
use mathlib.Core.List.Memᴰ
use mathlib.Core.List.{List, [], ◌∷◌, ◌++◌, append_assoc, append-nil, Memᴰ}
use Prim.Native.Nat.{ℕ, zero, suc, ◌<◌}
use native.Mathlib.Omega.{arith}
use lib.ListN.{length, get_or, drop, length-append}
use lib.Seq.{drop-length}
use borrow.Author.Tests.{eq-eqb}
use Rattle.machine.specs.Answer.{Answer}
use Rattle.groups.specs.Groups.{groups_of}
use Rattle.groups.proofs.GroupsSame.{groups_more}
use Rattle.reading.specs.Reading.{number_here, answer_at}
use Rattle.shape.specs.Shape.{mark_here}
use Rattle.shape.specs.Fits.{Fits}
use Rattle.shape.proofs.FittingGroup.{group_parts}
use Rattle.checking.specs.WellFormed.{same_mark, group_place, AllGood, WellFormed}
use Rattle.checking.proofs.Walked.{good_parts, good_few}
use Rattle.checking.proofs.Marks.{mark_number, among_found}
use Rattle.comparisons.specs.Written.{SameMark, NoneTwice, none_twice_nil, none_twice_cons, Writable}
use Rattle.comparisons.proofs.GroupRead.{read_fits, read_back}

-- ---- no mark twice

-- an answer of a mark that none of the others is of may come last
none_twice_last : {l : List Answer} (a : Answer) → NoneTwice l → ((b : Answer) → Memᴰ b l → ¬ SameMark b a) → NoneTwice (l ++ (a ∷ []))
none_twice_last a none_twice_nil new = none_twice_cons (λ b m. absurd (Memᴰ.not-nil m)) none_twice_nil
none_twice_last a (none_twice_cons {a = x} {rest = rest} others more) new =
    none_twice_cons (λ b m. go b (Memᴰ.append_cases rest m)) (none_twice_last a more (λ b m. new b (Memᴰ.tail m)))
  where
    go : (b : Answer) → Memᴰ b rest ⊎ Memᴰ b (a ∷ []) → ¬ SameMark x b
    go b (inl m) = others b m
    go b (inr m) = rw (Memᴰ.eq_of_singleton m) (new x (Memᴰ.head refl))

-- ---- the groups

-- what is read at the first m groups
told_first : List ℕ → ℕ → List Answer
told_first report zero = []
told_first report (suc m) = told_first report m ++ (answer_at report (group_place report m) ∷ [])

module _ (report : List ℕ) where
  -- of each group one answer
  told_many : (m : ℕ) → length (told_first report m) ≡ m
  unfolding told_first
  told_many zero = refl
  told_many (suc m) = rw (length-append (told_first report m) (answer_at report (group_place report m) ∷ []), told_many m) (omega arith)

  -- each is read at one of them
  told_whence : (m : ℕ) {a : Answer} → Memᴰ a (told_first report m) → (j : ℕ) × (j < m) × (a ≡ answer_at report (group_place report j))
  unfolding told_first
  told_whence zero h = absurd (Memᴰ.not-nil h)
  told_whence (suc m) {a} h = go (λ l. told_whence m l) (Memᴰ.append_cases (told_first report m) h)
    where
      go : (Memᴰ a (told_first report m) → (j : ℕ) × (j < m) × (a ≡ answer_at report (group_place report j)))
          → Memᴰ a (told_first report m) ⊎ Memᴰ a (answer_at report (group_place report m) ∷ [])
          → (j : ℕ) × (j < suc m) × (a ≡ answer_at report (group_place report j))
      go earlier (inl l) = let (j, below, is) = earlier l in (j, omega arith, is)
      go earlier (inr l) = (m, omega arith, Memᴰ.eq_of_singleton l)

  -- a good group's mark is that of none before it
  told_new : (m j : ℕ) → AllGood report (suc m) → j < m → ¬ SameMark (answer_at report (group_place report j)) (answer_at report (group_place report m))
  unfolding answer_at mark_here
  told_new m j good h same =
      let (few, fits, new) = good_parts report m (good m (omega arith)) in
      let earlier = group_parts (good_parts report j (good j (omega arith))).1 in
      let number : number_here report (group_place report j) ≡ number_here report (group_place report m) =
      sym earlier.own_count ∙ same.1 ∙ (group_parts fits).own_count in
      let marks : same_mark (mark_here report (group_place report j)) (mark_here report (group_place report m)) ≡ true =
      mark_number _ _ same.0 ∙ eq-eqb _ _ number in
      let found = among_found report (mark_here report (group_place report m)) m j (λ i k. good i (omega arith)) h marks in
      omega arith

  -- no mark is read twice
  told_once : (m : ℕ) → AllGood report m → NoneTwice (told_first report m)
  unfolding told_first
  told_once zero good = none_twice_nil
  told_once (suc m) good =
      none_twice_last (answer_at report (group_place report m)) (told_once m (λ j h. good j (omega arith)))
      (λ b l. let (j, below, is) = told_whence m l in rw is (told_new m j good below))

-- ---- the report

module _ (report : List ℕ) (bytes : (p : ℕ) → get_or report p 0 < 256) where
  -- the report is the first m groups and what follows them
  groups_back : (m : ℕ) → AllGood report m → report ≡ groups_of 32 (told_first report m) ++ drop (group_place report m) report
  unfolding told_first group_place groups_of
  groups_back zero good = refl
  groups_back (suc m) good =
      let fits = (good_parts report m (good m (omega arith))).1 in
      groups_back m (λ j h. good j (omega arith))
      ∙ rw (groups_more, read_back report bytes (group_place report m) fits, append_assoc)

  -- a well-formed report is the groups of what is read there, and nothing else
  pub well_formed_written : {m : ℕ} → WellFormed report m → (told : List Answer) × Writable told × (length told ≡ m) × (report ≡ groups_of 32 told)
  well_formed_written {m} well = (told_first report m, writable, told_many report m, whole)
    where
      fits : (a : Answer) → Memᴰ a (told_first report m) → Fits a
      fits a l =
          let (j, below, is) = told_whence report m l in
          rw is (read_fits report (group_place report j) (good_parts report j (well.all_good j below)).1)

      writable : Writable (told_first report m)
      writable =
          record {
            each_fits = fits;
            none_twice = told_once report m well.all_good;
            few = rw (told_many report m) (good_few report m well.all_good);
          }

      whole : report ≡ groups_of 32 (told_first report m)
      whole = groups_back m well.all_good ∙ rw (well.ends_there, drop-length report) (append-nil _)
