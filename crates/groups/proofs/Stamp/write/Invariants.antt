-- `Stamp::write` meets its contract: after k turns the records of the first k nodes are laid.
use Rattle.groups.specs.Groups.{stamp_of, stamp_records, Laid}
use Rattle.groups.specs.Pen.{Same}
use Rattle.groups.proofs.Stamp.write.Given as goal

abbrev pub invariant-loop-k : goal.invariant-loop-k
invariant-loop-k l =
    Same l.fn.pen l.pen
    × Laid l.fn.pen.at (stamp_records l.k (stamp_of l.self.own l.self.row.now)) l.fn.pen.room.now l.pen.room.now l.pen.at
