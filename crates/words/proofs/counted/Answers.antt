-- `words::counted` meets its contract: the word lies behind the number.
use Rattle.groups.proofs.Laying.{and_then}
use Rattle.words.proofs.counted.Goals as goal

pub returns-clause-laid : goal.returns-clause-laid
returns-clause-laid c = and_then c.number.ensures.laid c.word.ensures.laid
