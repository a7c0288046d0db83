-- What a group that fits has: its parts, by the tests that it has passed, and so at least nine bytes within the report, five of its
-- head and four of its own count.
-- Assumes nothing.
use mathlib.Core.Path.{◌≡◌, refl}
use mathlib.Core.Bool.{Bool, true, false}
use mathlib.Core.List.{List}
use Prim.Native.Nat.{ℕ, zero, suc, ◌+◌, ◌*◌, ◌≤◌, ◌<◌}
use native.Mathlib.Decide.{dec_lt}
use native.Mathlib.Omega.{arith}
use lib.ListN.{length}
use borrow.Author.Tests.{eqb-true}
use Rattle.reading.specs.Reading.{node_at, number_here, stamp_here, stamp_place, stamp_at, cause_place, cause_count}
use Rattle.reading.proofs.Standing.{both, count_missing, stamp_inside, stamp_takes}
use Rattle.shape.specs.Shape.{stamp_fits, causes_fit, stamp_kept, causes_kept, group_fits, past_group}
use Rattle.shape.proofs.Entries.{range_within, Head, head_there, causes_there}

module _ (report : List ℕ) where
  -- ---- the stamp

  -- the counts below one node more: those below it, and its own if it stands there
  pub counts_there : (p k : ℕ) → stamp_fits report p (suc k) ≡ true
      → (stamp_fits report p k ≡ true) × (stamp_here report (stamp_place report p k) k ≡ true → (0 < stamp_at report p k) × (stamp_at report p k ≤ 4096))
  unfolding stamp_fits
  counts_there p k e = let (lower, here) = both _ _ e in (lower, λ stands. range_within (rw stands at here))

  -- each count is at most 4,096
  pub count_within : (p n : ℕ) → stamp_fits report p n ≡ true → (k : ℕ) → k < n → stamp_at report p k ≤ 4096
  unfolding stamp_at
  count_within p zero e k h = absurd (omega arith)
  count_within p (suc n) e k h = let (lower, range) = counts_there p n e in go (count_within p n lower k) (here range _ refl) (dec_lt k n)
    where
      here : (stamp_here report (stamp_place report p n) n ≡ true → (0 < stamp_at report p n) × (stamp_at report p n ≤ 4096))
          → (b : Bool) → stamp_here report (stamp_place report p n) n ≡ b → stamp_at report p n ≤ 4096
      here range true stands = (range stands).1
      here range false missing = rw (count_missing report (stamp_place report p n) n missing) (omega arith)

      go : (k < n → stamp_at report p k ≤ 4096) → stamp_at report p n ≤ 4096 → Dec (k < n) → stamp_at report p k ≤ 4096
      go earlier last (yes l) = earlier l
      go earlier last (no l) = let same : k ≡ n = omega arith in rw same last

  -- ---- the direct predecessors

  -- those that fit lie within the report
  causes_inside : (p low d : ℕ) → p ≤ length report → causes_fit report p low d ≡ true → p + 4 * d ≤ length report
  causes_inside p low zero h e = omega arith
  causes_inside p low (suc d) h e =
      let (first, rest) = causes_there report p low d e in
      omega (arith, causes_inside (p + 4) (suc (node_at report p)) d first.inside rest)

-- ---- the group

-- what a group that fits has
pub record Parts (report : List ℕ) (p : ℕ) : Type 0 where
  pub head : Head report p
  pub stamp_fits_lem : stamp_fits report (p + 5) 32 ≡ true
  pub own_count : stamp_at report (p + 5) (node_at report p) ≡ number_here report p
  pub causes_fit_lem : causes_fit report (cause_place report p) 0 (cause_count report p) ≡ true

-- the tests that it has passed give it
pub group_parts : {report : List ℕ} {p : ℕ} → group_fits report p ≡ true → Parts report p
unfolding group_fits stamp_kept causes_kept
group_parts e =
    let (front, causes) = both _ _ e in
    let (head, stamp) = both _ _ front in
    let (counts, own) = both _ _ stamp in
    record { head = head_there head; stamp_fits_lem = (both _ _ counts).0; own_count = eqb-true _ _ own; causes_fit_lem = causes }

-- it lies within the report, and has nine bytes or more
pub group_inside : (report : List ℕ) (p : ℕ) → group_fits report p ≡ true → (p + 9 ≤ past_group report p) × (past_group report p ≤ length report)
unfolding past_group
group_inside report p e =
    let has = group_parts e in
    let takes = stamp_takes report (p + 5) (node_at report p) 32 (omega arith) has.head.below in
    let inside = stamp_inside report (p + 5) 32 has.head.inside in
    (omega arith, causes_inside report (cause_place report p) 0 (cause_count report p) inside has.causes_fit_lem)
