-- `text::count` meets its contract: the number is laid behind the space.
use Rattle.groups.proofs.Laying.{and_then}
use Rattle.text.proofs.count.Goals as goal

pub returns-clause-laid : goal.returns-clause-laid
returns-clause-laid c = and_then c.word.ensures.laid c.number.ensures.laid
