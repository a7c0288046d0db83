-- A group that fits, in a report of bytes, is the group of the answer that is read there, and that answer keeps the rules: a
-- record of four bytes is its kind, its node and its number again, and so record by record.
-- Assumes nothing.
use mathlib.Core.Path.{◌≡◌, refl, sym, ap, ◌∙◌}
use mathlib.Core.Logic.{◌⊎◌, inl, inr}
use mathlib.Core.Bool.{Bool, true, false}
use mathlib.Core.List.Memᴰ
use mathlib.Core.List.{List, ◌∷◌, ◌++◌, append_assoc, Memᴰ}
use Prim.Native.Nat.{ℕ, zero, suc, ◌+◌, ◌*◌, ◌/◌, ◌%◌, ◌≤◌, ◌<◌}
use native.Mathlib.Nat.{add-zero}
use native.Mathlib.Numerals.{add-one}
use native.Mathlib.Omega.{arith}
use lib.ListN.{length, get_or, drop}
use lib.Seq.{drop-cons}
use Rattle.machine.specs.Answer.{Ascending, ascending_nil, ascending_cons}
use Rattle.groups.specs.Groups.{four_bytes, stamp_record, stamp_records, cause_records, group_of}
use Rattle.groups.proofs.Records.{stamp_some}
use Rattle.reading.specs.Reading.{node_at, number_here, whole_at, stamp_here, count_at, past_count, stamp_place, stamp_at, causes_at, cause_place, cause_count, answer_at}
use Rattle.reading.proofs.Standing.{whole_fits, whole_begins, stamp_there, count_there, count_missing, past_there, past_missing}
use Rattle.shape.specs.Shape.{stamp_fits, causes_fit, group_fits, past_group}
use Rattle.shape.specs.Fits.{Fits}
use Rattle.shape.proofs.Entries.{Entry, causes_there}
use Rattle.shape.proofs.FittingGroup.{counts_there, count_within, group_parts}

-- ---- the rules

module _ (report : List ℕ) where
  -- as many predecessors are read as are announced
  causes_many : (p d : ℕ) → length (causes_at report p d) ≡ d
  unfolding causes_at
  causes_many p zero = refl
  causes_many p (suc d) = ap suc (causes_many (p + 4) d)

  -- each predecessor is of a node from `low` on and below 32, with a number in range
  causes_bounded : (p low d : ℕ) → causes_fit report p low d ≡ true
      → (k c : ℕ) → Memᴰ (k, c) (causes_at report p d) → (low ≤ k) × (k < 32) × (0 < c) × (c ≤ 4096)
  unfolding causes_at
  causes_bounded p low zero e k c m = absurd (Memᴰ.not-nil m)
  causes_bounded p low (suc d) e k c m =
      let (first, rest) = causes_there report p low d e in
      go first (causes_bounded (p + 4) (suc (node_at report p)) d rest k c) (Memᴰ.cases_cons m)
    where
      go : Entry 0x23 report p low
          → (Memᴰ (k, c) (causes_at report (p + 4) d) → (suc (node_at report p) ≤ k) × (k < 32) × (0 < c) × (c ≤ 4096))
          → (◌≡◌ {A = ℕ × ℕ} (k, c) (node_at report p, number_here report p)) ⊎ Memᴰ (k, c) (causes_at report (p + 4) d)
          → (low ≤ k) × (k < 32) × (0 < c) × (c ≤ 4096)
      go first later (inl here) =
          let node : k ≡ node_at report p = ap (λ (x : ℕ × ℕ). x.0) here in
          let number : c ≡ number_here report p = ap (λ (x : ℕ × ℕ). x.1) here in
          rw (node, number) (first.ascends, first.below, first.some, first.most)
      go first later (inr m) = let (ascends, below, some, most) = later m in (omega arith, below, some, most)

  -- their nodes ascend
  causes_ascend : (p low d : ℕ) → causes_fit report p low d ≡ true → Ascending (causes_at report p d)
  unfolding causes_at
  causes_ascend p low zero e = ascending_nil
  causes_ascend p low (suc d) e =
      let (first, rest) = causes_there report p low d e in
      ascending_cons (λ l c m. (causes_bounded (p + 4) (suc (node_at report p)) d rest l c m).0) (causes_ascend (p + 4) (suc (node_at report p)) d rest)

  -- the answer keeps the rules of a group
  pub read_fits : (p : ℕ) → group_fits report p ≡ true → Fits (answer_at report p)
  unfolding answer_at
  read_fits p e =
      let told = group_parts e in
      record {
        node_below = told.head.below;
        number_some = rw told.own_count told.head.some;
        counts_within = count_within report (p + 5) 32 told.stamp_fits_lem;
        ascending = causes_ascend (cause_place report p) 0 (cause_count report p) told.causes_fit_lem;
        causes_within = λ k c m.
            let (_, below, some, most) = causes_bounded (cause_place report p) 0 (cause_count report p) told.causes_fit_lem k c m in
            (below, some, most);
      }

-- ---- the bytes

module _ (report : List ℕ) (bytes : (p : ℕ) → get_or report p 0 < 256) where
  -- one byte more is taken
  byte_back : (p : ℕ) → p < length report → drop p report ≡ get_or report p 0 ∷ drop (p + 1) report
  byte_back p h = rw (add-one p) (drop-cons report p 0 h)

  -- four bytes are those of their kind, their node and their number
  four_back : (p : ℕ) → p + 4 ≤ length report
      → drop p report ≡ four_bytes (get_or report p 0) (node_at report p) (number_here report p) ++ drop (p + 4) report
  four_back p h =
      let two : p + 1 + 1 ≡ p + 2 = omega arith in
      let three : p + 2 + 1 ≡ p + 3 = omega arith in
      let four : p + 3 + 1 ≡ p + 4 = omega arith in
      let low : number_here report p % 256 ≡ get_or report (p + 2) 0 = omega (arith, bytes (p + 2)) in
      let high : number_here report p / 256 ≡ get_or report (p + 2 + 1) 0 = omega arith in
      rw (low, high, byte_back p (omega arith), byte_back (p + 1) (omega arith), two, byte_back (p + 2) (omega arith), three, byte_back (p + 3) (omega arith), four)

  -- the first four bytes of a whole record are those of its kind, its node and its number
  whole_back : (kind size p : ℕ) → 4 ≤ size → whole_at kind size report p ≡ true
      → drop p report ≡ four_bytes kind (node_at report p) (number_here report p) ++ drop (p + 4) report
  whole_back kind size p big e =
      let inside = whole_fits report p kind size e in
      rw (four_back p (omega arith), whole_begins report p kind size e)

  -- a count that stands there
  stands_back : (p k : ℕ) → stamp_here report p k ≡ true → drop p report ≡ four_bytes 0x22 k (number_here report p) ++ drop (p + 4) report
  stands_back p k e = let (whole, node) = stamp_there report p k e in rw (whole_back 0x22 4 p (omega arith) whole, node)

  -- the count of node k, where it would stand
  count_back : (p k : ℕ) → stamp_fits report p (suc k) ≡ true
      → drop (stamp_place report p k) report ≡ stamp_record k (stamp_at report p k) ++ drop (stamp_place report p (suc k)) report
  unfolding stamp_at stamp_place stamp_record
  count_back p k e = go (stamp_place report p k) (counts_there report p k e).1 _ refl
    where
      go : (q : ℕ) → (stamp_here report q k ≡ true → (0 < count_at report q k) × (count_at report q k ≤ 4096))
          → (b : Bool) → stamp_here report q k ≡ b
          → drop q report ≡ stamp_record k (count_at report q k) ++ drop (past_count report q k) report
      go q range true stands =
          let (some, most) = range stands in
          rw (stamp_some k (count_at report q k) some, count_there report q k stands, past_there report q k stands) (stands_back q k stands)
      go q range false missing = rw (count_missing report q k missing, past_missing report q k missing)

  -- the counts of the nodes below k
  stamp_back : (p k : ℕ) → stamp_fits report p k ≡ true → drop p report ≡ stamp_records k (stamp_at report p) ++ drop (stamp_place report p k) report
  unfolding stamp_records stamp_place
  stamp_back p zero e = refl
  stamp_back p (suc k) e =
      stamp_back p k (counts_there report p k e).0
      ∙ rw (count_back p k e) (sym (append_assoc (stamp_records k (stamp_at report p)) (stamp_record k (stamp_at report p k)) _))

  -- so many direct predecessors
  causes_back : (p low d : ℕ) → causes_fit report p low d ≡ true → drop p report ≡ cause_records (causes_at report p d) ++ drop (p + 4 * d) report
  unfolding causes_at cause_records
  causes_back p low zero e = rw (add-zero p)
  causes_back p low (suc d) e =
      let (first, rest) = causes_there report p low d e in
      let past : p + 4 * suc d ≡ p + 4 + 4 * d = omega arith in
      rw (whole_back 0x23 4 p (omega arith) first.whole, causes_back (p + 4) (suc (node_at report p)) d rest, past)

  -- the group is that of the answer read there
  pub read_back : (p : ℕ) → group_fits report p ≡ true → drop p report ≡ group_of 32 (answer_at report p) ++ drop (past_group report p) report
  unfolding answer_at group_of past_group
  read_back p e =
      let told = group_parts e in
      let five : p + 4 + 1 ≡ p + 5 = omega arith in
      rw (
        told.own_count,
        causes_many report (cause_place report p) (cause_count report p),
        whole_back 0x21 5 p (omega arith) told.head.whole,
        byte_back (p + 4) (omega arith),
        five,
        stamp_back (p + 5) 32 told.stamp_fits_lem,
        causes_back (cause_place report p) 0 (cause_count report p) told.causes_fit_lem,
        append_assoc,
      )
