-- `text::ending` meets its contract: the line ends behind the direct predecessors.
use Rattle.groups.proofs.Laying.{and_then}
use Rattle.text.specs.Text.{from_part}
use Rattle.text.proofs.ending.Goals as goal

pub returns-clause-laid : goal.returns-clause-laid
unfolding from_part
returns-clause-laid c = and_then (and_then c.word.ensures.laid c.nearest.ensures.laid) c.word-2.ensures.laid
