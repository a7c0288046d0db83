-- `text::stamp` meets its contract: the counts lie behind the word.
use Rattle.groups.proofs.Laying.{and_then}
use Rattle.text.specs.Text.{stamp_part}
use Rattle.text.proofs.stamp.Goals as goal

pub returns-clause-laid : goal.returns-clause-laid
unfolding stamp_part
returns-clause-laid c = and_then c.word.ensures.laid c.counts.ensures.laid
