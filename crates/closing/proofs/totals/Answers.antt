-- `closing::totals` meets its contract: each total lies behind the one before.
use Rattle.groups.proofs.Laying.{and_then}
use Rattle.closing.specs.Closing.{ok_line}
use Rattle.closing.proofs.totals.Goals as goal

pub returns-clause-laid : goal.returns-clause-laid
unfolding ok_line
returns-clause-laid c =
    and_then (and_then (and_then (and_then c.word.ensures.laid c.counted.ensures.laid) c.counted-2.ensures.laid) c.counted-3.ensures.laid)
    c.counted-4.ensures.laid
