-- `groups::group` meets its contract: what is counted is the group's size, and the three runs that are written side by side are the group.
use Rattle.std.proofs.Common.{rules}
use mathlib.Core.List.{List}
use Prim.Native.Nat.{ℕ}
use native.Mathlib.Omega.{arith}
use lib.ListN.{length, get_or}
use Rattle.bits.specs.Bits.{bit}
use Rattle.machine.specs.Answer.{flagged}
use Rattle.groups.proofs.Records.{causes_length}
use Rattle.groups.proofs.GroupSizes.{causes_set}
use Rattle.groups.proofs.GroupWritten.{unwritten, size_counted, group_written}
use Rattle.groups.proofs.group.Goals as goal

pub returns-then-room-bytes : goal.returns-then-room-bytes
returns-then-room-bytes c =
    unwritten (size_counted _ _ _ c.requires.node_in_bounds.1 c.requires.flags_bound c.size.ensures c.count-causes.ensures) c.if-room-bytes.true

pub write_causes-requires-clause-flags_in_bounds : goal.write_causes-requires-clause-flags_in_bounds
write_causes-requires-clause-flags_in_bounds c =
    let row : List ℕ = c.args.row.now in
    let causes : List (ℕ × ℕ) = flagged (length row) (λ k. get_or row k 0) (bit c.args.flags) in
    omega (arith, causes_length causes, causes_set row c.args.flags c.requires.node_in_bounds.1 c.requires.flags_bound)

pub returns : goal.returns
returns c =
    let few = c.requires.node_in_bounds.1 in
    let sized = size_counted _ _ _ few c.requires.flags_bound c.size.ensures c.count-causes.ensures in
    group_written _ _ _ few c.requires.flags_bound c.at.ensures c.count-causes.ensures sized (omega arith) c.head.ensures.laid
    c.write.ensures.laid c.write_causes.ensures.laid (search rules)
