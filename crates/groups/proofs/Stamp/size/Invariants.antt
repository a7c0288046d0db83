-- `Stamp::size` meets its contract: after k turns the bytes counted are those of the records of the first k nodes.
use mathlib.Core.Path.{◌≡◌}
use lib.ListN.{length}
use Rattle.groups.specs.Groups.{stamp_of, stamp_records}
use Rattle.groups.proofs.Stamp.size.Given as goal

abbrev pub invariant-loop-k : goal.invariant-loop-k
invariant-loop-k l = l.bytes ≡ length (stamp_records l.k (stamp_of l.self.own l.self.row.now))
