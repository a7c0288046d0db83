-- `checking::search` meets its contract: none of the groups that are passed is of the mark.
use Rattle.checking.proofs.Marks.{Unfound}
use Rattle.checking.proofs.search.Given as goal

abbrev pub invariant-loop : goal.invariant-loop
invariant-loop l = Unfound l.report l.mark l.groups l.counter l.at
