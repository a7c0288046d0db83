-- `shape::stamp` meets its contract: record by record the counts of the nodes below the next one are passed, and the own count is
-- kept on the way.
use Prim.Native.Nat.{◌-◌}
use lib.ListN.{length}
use Rattle.shape.proofs.StampPassed.{Passed}
use Rattle.shape.proofs.stamp.Given as goal

abbrev pub invariant-loop-low : goal.invariant-loop-low
invariant-loop-low l = Passed l.report l.at l.mark.node.0 l.place l.low l.own.0

abbrev pub decreases-loop-low : goal.decreases-loop-low
decreases-loop-low l = length l.report - l.place
