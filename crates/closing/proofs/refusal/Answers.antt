-- `closing::refusal` meets its contract: the place lies behind the number.
use Rattle.groups.proofs.Laying.{and_then}
use Rattle.closing.specs.Closing.{refused_line}
use Rattle.closing.proofs.refusal.Goals as goal

pub returns-clause-laid : goal.returns-clause-laid
unfolding refused_line
returns-clause-laid c =
    and_then (and_then c.word.ensures.laid c.counted.ensures.laid) c.counted-2.ensures.laid
