-- The group of a mark, as it is written, is read back: its head, its stamp, and its direct predecessors one by one.
-- Assumes nothing.
use mathlib.Core.Path.{◌≡◌, refl, sym, ◌∙◌}
use mathlib.Core.Bool.{true}
use mathlib.Core.List.{List, [], ◌∷◌, ◌++◌, append_assoc}
use Prim.Native.Nat.{ℕ, ◌+◌, ◌*◌, ◌<◌}
use native.Mathlib.Omega.{arith}
use lib.ListN.{length, get_or, length-append}
use lib.Seq.{get_or-append-add}
use Rattle.machine.specs.Answer.{Answer}
use Rattle.groups.specs.Groups.{four_bytes, stamp_records, cause_records, group_of, groups_of}
use Rattle.groups.proofs.GroupSizes.{group_size}
use Rattle.groups.proofs.GroupsSame.{groups_append}
use Rattle.reading.specs.Reading.{number_at, whole_at, stamp_here, stamp_place, stamp_at, causes_at, cause_place, cause_count}
use Rattle.reading.proofs.StampRead.{front_byte, whole_written, node_written, number_written, place_read, stamp_read, count_some}

-- ---- the direct predecessors

-- the node and the number of each are read back
causes_read : (l : List (ℕ × ℕ)) (xs tail : List ℕ) → causes_at (xs ++ (cause_records l ++ tail)) (length xs) (length l) ≡ l
unfolding cause_records causes_at
causes_read [] xs tail = refl
causes_read (x ∷ rest) xs tail =
    let four = four_bytes 0x23 x.0 x.1 in
    let behind = cause_records rest ++ tail in
    let others = rw (append_assoc xs four behind, length-append xs four) at (causes_read rest (xs ++ four) tail) in
    rw (node_written xs behind 0x23 x.0 x.1, number_written xs behind 0x23 x.0 x.1, others)

-- no count follows a stamp if none follows the group
causes_clear : (l : List (ℕ × ℕ)) (behind : List ℕ) → ¬ (get_or behind 0 0 ≡ 0x22) → ¬ (get_or (cause_records l ++ behind) 0 0 ≡ 0x22)
unfolding cause_records
causes_clear [] behind h = h
causes_clear (x ∷ rest) behind h = λ e. omega arith

-- ---- the group

-- the group of an answer, with what stands before and behind it
abbrev pub amid : List ℕ → Answer → List ℕ → List ℕ
amid before a behind = before ++ group_of 32 a ++ behind

-- the head of a group: kind, node, number, and how many direct predecessors there are
head : Answer → List ℕ
head a = four_bytes 0x21 a.node (a.stamp a.node) ++ (length a.nearest ∷ [])

module _ (a : Answer) (before behind : List ℕ) (next : ¬ (get_or behind 0 0 ≡ 0x22)) where
  stamps : List ℕ
  stamps = stamp_records 32 a.stamp

  causes : List ℕ
  causes = cause_records a.nearest

  -- the report, parted behind what stands before the group, behind its head, and behind its stamp
  at_head : amid before a behind ≡ before ++ (head a ++ (stamps ++ (causes ++ behind)))
  unfolding group_of head stamps causes
  at_head = simp append_assoc

  at_stamp : amid before a behind ≡ (before ++ head a) ++ (stamps ++ (causes ++ behind))
  at_stamp = at_head ∙ sym (append_assoc before (head a) _)

  at_causes : amid before a behind ≡ (before ++ head a ++ stamps) ++ (causes ++ behind)
  at_causes = at_stamp ∙ sym (append_assoc (before ++ head a) stamps _)

  -- the stamp starts five bytes on
  stamp_start : length before + 5 ≡ length (before ++ head a)
  unfolding head
  stamp_start = sym (length-append before (head a))

  -- the predecessors start behind it
  cause_start : cause_place (amid before a behind) (length before) ≡ length (before ++ head a ++ stamps)
  unfolding stamps causes
  cause_start = rw (stamp_start, at_stamp) (place_read (before ++ head a) a.stamp 32 (causes ++ behind) (causes_clear a.nearest behind next) 32 (omega arith))

  cause_number : cause_count (amid before a behind) (length before) ≡ length a.nearest
  unfolding head
  cause_number = rw at_head (get_or-append-add before (head a ++ (stamps ++ (causes ++ behind))) 4 0)

  -- the group's node, number, stamp and direct predecessors are those that were answered
  pub group_node : get_or (amid before a behind) (length before + 1) 0 ≡ a.node
  unfolding head
  group_node = rw at_head (node_written before _ 0x21 a.node (a.stamp a.node))

  pub group_number : number_at (amid before a behind) (length before + 2) ≡ a.stamp a.node
  unfolding head
  group_number = rw at_head (number_written before _ 0x21 a.node (a.stamp a.node))

  pub group_stamp : (k : ℕ) → k < 32 → stamp_at (amid before a behind) (length before + 5) k ≡ a.stamp k
  unfolding stamps causes
  group_stamp k h = rw (stamp_start, at_stamp) (stamp_read (before ++ head a) a.stamp 32 (causes ++ behind) (causes_clear a.nearest behind next) k h)

  pub group_nearest : let report = amid before a behind in let p = length before in causes_at report (cause_place report p) (cause_count report p) ≡ a.nearest
  unfolding causes
  group_nearest = rw (cause_start, cause_number, at_causes) (causes_read a.nearest (before ++ head a ++ stamps) behind)

  -- it ends behind its bytes
  pub group_ends : let report = amid before a behind in let p = length before in cause_place report p + 4 * cause_count report p ≡ p + length (group_of 32 a)
  unfolding head stamps
  group_ends = rw (cause_start, cause_number) (omega (arith, length-append (before ++ head a) stamps, length-append before (head a), group_size 32 a))

  -- its head is whole
  pub head_whole : whole_at 0x21 5 (amid before a behind) (length before) ≡ true
  unfolding head
  head_whole = rw at_head (whole_written before _ 0x21 5 (omega arith))

  -- the counts that stand in its stamp are not 0, and none follows them
  pub stamp_some : let report = amid before a behind in
      (k : ℕ) → k < 32 → stamp_here report (stamp_place report (length before + 5) k) k ≡ true → 0 < a.stamp k
  unfolding causes stamps
  stamp_some k h =
      rw (stamp_start, at_stamp) (count_some (before ++ head a) a.stamp 32 (causes ++ behind) (causes_clear a.nearest behind next) k h)

  pub stamp_ended : let report = amid before a behind in ¬ (get_or report (cause_place report (length before)) 0 ≡ 0x22)
  unfolding causes
  stamp_ended = rw (cause_start, at_causes, front_byte (before ++ head a ++ stamps) (causes ++ behind)) (causes_clear a.nearest behind next)

  -- its direct predecessors stand behind its stamp, as many as announced
  pub causes_stand : let report = amid before a behind in
      (xs : List ℕ) × (report ≡ xs ++ (cause_records a.nearest ++ behind))
      × (cause_place report (length before) ≡ length xs) × (cause_count report (length before) ≡ length a.nearest)
  unfolding causes
  causes_stand = (before ++ head a ++ stamps, at_causes, cause_start, cause_number)

-- ---- in a report of answers

-- the report up to an answer, its group, and what follows
pub groups_amid : (done rest : List Answer) (a : Answer) → groups_of 32 (done ++ (a ∷ rest)) ≡ amid (groups_of 32 done) a (groups_of 32 rest)
unfolding groups_of
groups_amid done rest a = groups_append 32 done (a ∷ rest) ∙ sym (append_assoc (groups_of 32 done) (group_of 32 a) (groups_of 32 rest))

-- no count follows a group where other groups follow
pub groups_clear : (l : List Answer) → ¬ (get_or (groups_of 32 l) 0 0 ≡ 0x22)
unfolding groups_of group_of
groups_clear [] = λ e. omega arith
groups_clear (a ∷ rest) = λ e. omega arith
