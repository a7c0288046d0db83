-- `text::causes` meets its contract: after k turns the first k direct predecessors are laid.
use Prim.Native.Nat.{◌+◌, ◌*◌, ◌≤◌}
use lib.ListN.{take}
use Rattle.groups.specs.Groups.{Laid}
use Rattle.groups.specs.Pen.{Same}
use Rattle.text.specs.Text.{named, causes_text}
use Rattle.text.proofs.causes.Given as goal

abbrev pub invariant-loop-node : goal.invariant-loop-node
invariant-loop-node l =
    Same l.fn.pen l.pen × (l.pen.at ≤ l.fn.pen.at + 12 * l.node-index)
    × Laid l.fn.pen.at (causes_text (named (take l.node-index l.records))) l.fn.pen.room.now l.pen.room.now l.pen.at
