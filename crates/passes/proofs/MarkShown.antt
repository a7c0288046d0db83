-- The group that is written at a mark is the one that the machine answers: the node's row and flags are the machine's.
-- Assumes nothing.
use mathlib.Core.Path.{◌≡◌, ◌∙◌, ap}
use mathlib.Core.Bool.{Bool, false, ◌&&◌}
use mathlib.Core.List.{List}
use Prim.Native.Nat.{ℕ, ◌+◌, ◌-◌, ◌*◌, ◌<◌, ◌≤◌, min}
use native.Mathlib.Omega.{arith}
use borrow.Author.Tests.{lt-ltb, le-ltb}
use borrow.Rule.Slice.PartMut.{mid_of, put_mid}
use lib.ListN.{length, get_or, take, drop}
use Rattle.order.specs.Order.{Event, mark}
use Rattle.verdict.proofs.Lawfully.{lawful_past}
use Rattle.machine.specs.Machine.{full}
use Rattle.machine.specs.Answer.{answer}
use Rattle.bits.specs.Bits.{bit}
use Rattle.room.specs.declared.Mode.{Mode}
use Rattle.room.specs.Room.{barn}
use Rattle.room.proofs.Places.{row_within}
use Rattle.room.proofs.BothModes.{mode_counts, mode_flags}
use Rattle.steps.specs.Steps.{Ready}
use Rattle.steps.proofs.Parts.{part_at, part_length}
use Rattle.steps.proofs.Ready.{ready_nodes, ready_node, ready_counts}
use Rattle.groups.specs.Groups.{group_of, row_answer, Written}
use Rattle.groups.proofs.GroupSizes.{group_some}
use Rattle.groups.proofs.GroupsSame.{group_same}
use Rattle.groups.proofs.LentTail.{written_part}
use Rattle.passes.specs.Pass.{group_by}
use Rattle.passes.proofs.Notes.{written_behind}

module _
    {mode : Mode} {n : ℕ} {cut : List Event} {i slot : ℕ} {counts words mail : List ℕ}
    (ready : Ready mode n cut (mark i) slot counts words mail) where
  -- the row lies within the table
  pub mark_row : n * i + n ≤ 1024
  mark_row = row_within n i (ready_nodes ready).1 (ready_node ready)

  module _ (k : ℕ) (whole : k ≡ n) where
    abbrev row : List ℕ
    row = take k (drop (n * i) counts)

    row_length : length row ≡ n
    row_length = part_length counts (n * i) k (omega (arith, mark_row)) ∙ whole

    row_at : (j : ℕ) → j < n → get_or row j 0 ≡ (full cut).count i j
    row_at j h =
        part_at counts (n * i) k j (omega arith) ∙ ready.holds.rows.counted i j (ready_node ready) h
        ∙ mode_counts mode (lawful_past ready.lawful).sound i j

    flag_at_lem : (j : ℕ) → j < n → bit (get_or words i 0) j ≡ (full cut).flag i j
    flag_at_lem j h =
        ready.holds.rows.flagged i j (ready_node ready) ∙ ap (λ (b : Bool). b && (barn mode cut).state.flag i j) (lt-ltb _ _ h)
        ∙ mode_flags mode (lawful_past ready.lawful).sound i j

    -- what writing the group asks
    pub mark_asks : ((i < length row) × (length row ≤ 32) × (get_or row i 0 < 65535)) × ((j : ℕ) → length row ≤ j → bit (get_or words i 0) j ≡ false)
    mark_asks = (
      (omega (arith, row_length, ready_node ready), omega (arith, row_length), small),
      λ j h. ready.holds.rows.flagged i j (ready_node ready) ∙ ap (λ (b : Bool). b && (barn mode cut).state.flag i j) (le-ltb j n (omega (arith, row_length))),
    )
      where
        small : get_or row i 0 < 65535
        small = rw (part_at counts (n * i) k i (omega (arith, ready_node ready))) (omega (arith, ready_counts ready (n * i + i)))

    -- the group is the machine's
    mark_group : group_of (length row) (row_answer i row (get_or words i 0)) ≡ group_by n cut (mark i)
    mark_group = rw row_length (group_same n i row (get_or words i 0) (full cut) row_length (ready_node ready) row_at flag_at_lem)

    -- and it stands at its place of the report, whose tail was lent
    pub mark_written : (at : ℕ) {from rest size : ℕ} {report back : List ℕ} → from ≡ min at (length report) → rest ≡ length report - from
        → Written 0 (group_of (length row) (row_answer i row (get_or words i 0))) (mid_of from rest report) back size
        → Written at (group_by n cut (mark i)) report (put_mid from rest report back) size
    mark_written at {from} {rest} {report = report} here tail w =
        written_behind at (omega (arith, group_some n (answer n i (full cut))))
        (rw (← here) (written_part from rest (group_by n cut (mark i)) report (omega arith) tail (rw mark_group at w)))
