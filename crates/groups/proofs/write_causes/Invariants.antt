-- `groups::write_causes` meets its contract: after k turns the predecessors among the first k nodes are laid.
use lib.ListN.{get_or}
use Rattle.bits.specs.Bits.{bit}
use Rattle.machine.specs.Answer.{flagged}
use Rattle.groups.specs.Groups.{cause_records, Laid}
use Rattle.groups.specs.Pen.{Same}
use Rattle.groups.proofs.write_causes.Given as goal

abbrev pub invariant-loop-k : goal.invariant-loop-k
invariant-loop-k l =
    Same l.fn.pen l.pen
    × Laid l.fn.pen.at (cause_records (flagged l.k (λ j. get_or l.row j 0) (bit l.flags))) l.fn.pen.room.now l.pen.room.now l.pen.at
