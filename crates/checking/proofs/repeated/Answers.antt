-- `checking::repeated` meets its contract: a number above all of its node is new, and for another the groups are searched.
use Rattle.checking.proofs.Marks.{mark_raised}
use Rattle.checking.proofs.repeated.Goals as goal

pub returns-then-greatest-node-clause-greatest : goal.returns-then-greatest-node-clause-greatest
returns-then-greatest-node-clause-greatest c =
    mark_raised _ c.requires.greatest _ c.requires.group_fits c.requires.mark_is c.if-greatest-node.true
