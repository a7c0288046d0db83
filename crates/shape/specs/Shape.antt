-- The shape of one group of a report, for any bytes (01, "The report"): the rules that it keeps, its mark, and where it ends.
-- Assumes nothing.
use Rattle.std.specs.Prelude.{Bool, true, cond, Option, Some, None, Result, Ok, Err, not, ◌&&◌, List, ℕ, zero, suc, ◌+◌, ◌*◌, eqb, leb, ltb, length, get_or}
use Rattle.reading.specs.Reading.{node_at, number_here, whole_at, stamp_here, stamp_place, stamp_at, cause_place, cause_count}
use Rattle.shape.specs.declared.Mark.{Mark}
use Rattle.shape.specs.declared.BadGroup.{BadGroup}

-- numbers of marks, and counts that are shown, go from 1 to 4,096
unfoldable pub in_range : ℕ → Bool
in_range c = leb 1 c && leb c 4096

-- a whole record of this kind, of a node from `low` on and below 32, with a number in range
unfoldable pub entry_fits : ℕ → List ℕ → ℕ → ℕ → Bool
entry_fits kind report p low = whole_at kind 4 report p && leb low (node_at report p) && ltb (node_at report p) 32 && in_range (number_here report p)

-- ---- the stamp

-- of a stamp that starts at place p: the counts of the nodes below k that stand there are in range
unfoldable pub stamp_fits : List ℕ → ℕ → ℕ → Bool
stamp_fits report p zero = true
stamp_fits report p (suc k) = stamp_fits report p k && cond (stamp_here report (stamp_place report p k) k) (in_range (stamp_at report p k)) true

-- No 0x22 is left at the place past the counts of ascending nodes. One that is left would be of a node that does not
-- ascend or is not below 32, or is cut short.
unfoldable pub stamp_ends : List ℕ → ℕ → Bool
stamp_ends report q = not (eqb (get_or report q 0) 0x22)

-- ---- the direct predecessors

-- so many of them stand at place p, whole, of ascending nodes from `low` on and below 32, with numbers in range
unfoldable pub causes_fit : List ℕ → ℕ → ℕ → ℕ → Bool
causes_fit report p low zero = true
causes_fit report p low (suc d) = entry_fits 0x23 report p low && causes_fit report (p + 4) (suc (node_at report p)) d

-- ---- the group

-- the mark that the head of the group at place p names
unfoldable pub mark_here : List ℕ → ℕ → Mark
mark_here report p = record { node = record { 0 = node_at report p }; number = record { 0 = number_here report p } }

-- the mark's node is below 32, and its number in range
unfoldable pub mark_fits : Mark → Bool
mark_fits m = ltb m.node.0 32 && in_range m.number.0

-- the head: whole, and of such a mark
unfoldable pub head_fits : List ℕ → ℕ → Bool
head_fits report p = whole_at 0x21 5 report p && mark_fits (mark_here report p)

-- its stamp: in range, ended, and at the mark's own node the mark's number
unfoldable pub stamp_kept : List ℕ → ℕ → Bool
stamp_kept report p =
    stamp_fits report (p + 5) 32 && stamp_ends report (cause_place report p)
    && eqb (stamp_at report (p + 5) (node_at report p)) (number_here report p)

-- its direct predecessors: as many as announced
unfoldable pub causes_kept : List ℕ → ℕ → Bool
causes_kept report p = causes_fit report (cause_place report p) 0 (cause_count report p)

-- the group at place p keeps every rule that a group can keep or break alone
unfoldable pub group_fits : List ℕ → ℕ → Bool
group_fits report p = head_fits report p && stamp_kept report p && causes_kept report p

-- the place past it
unfoldable pub past_group : List ℕ → ℕ → ℕ
past_group report p = cause_place report p + 4 * cause_count report p

-- a bad group that starts at place p
abbrev pub bad_at : ℕ → BadGroup
bad_at p = record { place = p }

-- what stands at place p: none where the report has ended, else a group's mark and the place past it, or a bad group
unfoldable pub group_seen : List ℕ → ℕ → Result (Option (Mark × ℕ)) BadGroup
group_seen report p =
    cond (leb (length report) p)
    (Ok None)
    (cond (group_fits report p) (Ok (Some (mark_here report p, past_group report p))) (Err (bad_at p)))
