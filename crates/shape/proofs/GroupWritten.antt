-- The group of an answer that keeps the rules, as it is written, keeps the rules of a report: what stands there is what was answered,
-- and no count of 0 is written.
-- Assumes nothing.
use mathlib.Core.Path.{◌≡◌, refl, ◌∙◌}
use mathlib.Core.Bool.{Bool, true, false, cond}
use mathlib.Core.List.{List, [], ◌∷◌, ◌++◌, append_assoc, Memᴰ}
use Prim.Native.Nat.{ℕ, zero, suc, ◌+◌, ◌/◌, ◌%◌, ◌≤◌, ◌<◌}
use native.Mathlib.Omega.{arith}
use lib.ListN.{length, get_or, length-append}
use borrow.Author.Tests.{eq-eqb, ne_eqb}
use Rattle.machine.specs.Answer.{Answer, Ascending, ascending_nil, ascending_cons}
use Rattle.groups.specs.Groups.{four_bytes, cause_records, group_of}
use Rattle.reading.specs.Reading.{stamp_here, stamp_place, stamp_at}
use Rattle.reading.proofs.StampRead.{whole_written, node_written, number_written}
use Rattle.reading.proofs.GroupRead.{amid, group_node, group_number, group_stamp, group_ends, head_whole, stamp_some, stamp_ended, causes_stand}
use Rattle.shape.specs.Shape.{in_range, entry_fits, stamp_fits, stamp_ends, stamp_kept, causes_fit, head_fits, causes_kept, group_fits, mark_here, past_group}
use Rattle.shape.specs.Fits.{Fits, mark_of}
use Rattle.shape.proofs.Entries.{range_fits, entry_number, mark_low, head_mark}

-- ---- the direct predecessors

-- a record of four bytes, as it is written, keeps the rules if its node and its number do
entry_written : (xs ys : List ℕ) (kind k c low : ℕ) → low ≤ k → k < 32 → 0 < c → c ≤ 4096
    → entry_fits kind (xs ++ (four_bytes kind k c ++ ys)) (length xs) low ≡ true
entry_written xs ys kind k c low from below some most =
    let node = node_written xs ys kind k c in
    let whole = whole_written xs (k ∷ c % 256 ∷ c / 256 ∷ ys) kind 4 (omega arith) in
    entry_number kind _ (length xs) low whole (rw node from) (rw node below) ∙ rw (number_written xs ys kind k c) (range_fits c some most)

-- direct predecessors of ascending nodes do, if each does
causes_written : (l : List (ℕ × ℕ)) (xs tail : List ℕ) (low : ℕ) → Ascending l
    → ((k c : ℕ) → Memᴰ (k, c) l → (low ≤ k) × (k < 32) × (0 < c) × (c ≤ 4096))
    → causes_fit (xs ++ (cause_records l ++ tail)) (length xs) low (length l) ≡ true
unfolding causes_fit cause_records
causes_written [] xs tail low ascending_nil within = refl
causes_written (x ∷ rest) xs tail low (ascending_cons first others) within =
    let four = four_bytes 0x23 x.0 x.1 in
    let behind = cause_records rest ++ tail in
    let (from, below, some, most) = within x.0 x.1 (Memᴰ.head refl) in
    let later = causes_written rest (xs ++ four) tail (suc x.0) others (λ k c m. let (f, b, s, t) = within k c (Memᴰ.tail m) in (first k c m, b, s, t)) in
    rw (entry_written xs behind 0x23 x.0 x.1 low from below some most, node_written xs behind 0x23 x.0 x.1)
    (rw (append_assoc xs four behind, length-append xs four) at later)

-- ---- the group

module _ {a : Answer} (fits : Fits a) (before behind : List ℕ) (next : ¬ (get_or behind 0 0 ≡ 0x22)) where
  -- its mark is the answer's
  pub group_mark : mark_here (amid before a behind) (length before) ≡ mark_of a
  unfolding mark_here
  group_mark = rw (group_node a before behind next, group_number a before behind next)

  -- it ends behind its bytes
  pub group_past : past_group (amid before a behind) (length before) ≡ length before + length (group_of 32 a)
  unfolding past_group
  group_past = group_ends a before behind next

  -- its head keeps the rules
  head_fits_lem : head_fits (amid before a behind) (length before) ≡ true
  head_fits_lem =
      head_mark _ _ (head_whole a before behind next) ∙ rw group_mark (mark_low (mark_of a) fits.node_below
      ∙ range_fits _ fits.number_some (fits.counts_within a.node fits.node_below))

  -- the counts of its stamp are in range, node after node
  stamp_fits_lem : (k : ℕ) → k ≤ 32 → stamp_fits (amid before a behind) (length before + 5) k ≡ true
  unfolding stamp_fits
  stamp_fits_lem zero h = refl
  stamp_fits_lem (suc k) h = rw (stamp_fits_lem k (omega arith)) (go _ refl)
    where
      here : Bool
      here = stamp_here (amid before a behind) (stamp_place (amid before a behind) (length before + 5) k) k

      go : (b : Bool) → here ≡ b → cond here (in_range (stamp_at (amid before a behind) (length before + 5) k)) true ≡ true
      go true e =
          rw (e, group_stamp a before behind next k (omega arith))
          (range_fits _ (stamp_some a before behind next k (omega arith) e) (fits.counts_within k (omega arith)))
      go false e = rw e

  -- and so its stamp keeps the rules
  stamp_kept_lem : stamp_kept (amid before a behind) (length before) ≡ true
  unfolding stamp_kept stamp_ends
  stamp_kept_lem =
      rw (stamp_fits_lem 32 (omega arith), ne_eqb _ 0x22 (stamp_ended a before behind next), group_node a before behind next, group_number a before behind next)
      (eq-eqb _ _ (group_stamp a before behind next a.node fits.node_below))

  -- its direct predecessors do
  causes_kept_lem : causes_kept (amid before a behind) (length before) ≡ true
  unfolding causes_kept
  causes_kept_lem =
      let (xs, is, place, count) = causes_stand a before behind next in
      rw (place, count, is)
      (causes_written a.nearest xs behind 0 fits.ascending
      (λ k c m. let (below, some, most) = fits.causes_within k c m in (omega arith, below, some, most)))

  -- it keeps every rule
  pub group_fits_lem : group_fits (amid before a behind) (length before) ≡ true
  unfolding group_fits
  group_fits_lem = rw (head_fits_lem, stamp_kept_lem, causes_kept_lem)
