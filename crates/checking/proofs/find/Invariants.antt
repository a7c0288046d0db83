-- `checking::find` meets its contract: the groups that are passed are good, and each way out gives the survey of the whole.
use Prim.Native.Nat.{◌-◌}
use lib.ListN.{length}
use Rattle.checking.proofs.Walking.{Walking}
use Rattle.checking.proofs.find.Given as goal

abbrev pub invariant-loop-mark : goal.invariant-loop-mark
invariant-loop-mark l = Walking l.report l.first l.second l.greatest l.survey.groups l.at l.survey.first l.survey.second

abbrev pub decreases-loop-mark : goal.decreases-loop-mark
decreases-loop-mark l = length l.report - l.at
