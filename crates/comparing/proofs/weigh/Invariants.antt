-- `comparing::weigh` meets its contract: count by count it is noted which stamp has the greater one, and the two notes decide.
use Rattle.comparing.proofs.Weighing.{Weighed}
use Rattle.comparing.proofs.weigh.Given as goal

abbrev pub invariant-loop-k : goal.invariant-loop-k
invariant-loop-k l = Weighed l.report l.first l.second l.k l.one l.other l.more l.less
