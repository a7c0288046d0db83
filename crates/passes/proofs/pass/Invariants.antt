-- `pass` meets its contract: at the head of the loop it stands at its place, and a turn takes it on, to the end or to a refusal.
use mathlib.Core.List.{List}
use Prim.Native.Nat.{◌-◌}
use lib.ListN.{length}
use Rattle.order.specs.Order.{Event}
use Rattle.room.specs.Work.{Same}
use Rattle.passes.specs.Pass.{Stands}
use Rattle.passes.proofs.pass.Given as goal

abbrev pub invariant-loop-next : goal.invariant-loop-next
invariant-loop-next l =
    Same l.fn.room l.room
    × (cut : List Event)
    × Stands l.course.mode l.course.log.now l.course.nodes l.cursor.at cut l.fn.report l.room.counts.now l.room.words.now l.room.mail.now l.report l.tally

abbrev pub decreases-loop-next : goal.decreases-loop-next
decreases-loop-next l = length l.course.log.now - l.cursor.at
