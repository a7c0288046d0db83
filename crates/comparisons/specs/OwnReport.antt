-- The marks of a log, and the report that a run left of it.
-- Assumes nothing.
use Rattle.std.specs.Prelude.{List, ℕ, take}
use Rattle.order.specs.Order.{Event, Numbered}
use Rattle.shape.specs.declared.Mark.{Mark}
use Rattle.report.specs.declared.Answer.{Answer}
use Rattle.report.specs.Run.{totals_of}

-- the event at place p is this mark
abbrev pub IsMark : List Event → Mark → ℕ → Type 0
IsMark cut e p = Numbered cut e.node.0 p e.number.0

-- the log has this mark
abbrev pub HasMark : List Event → Mark → Type 0
HasMark cut e = (p : ℕ) × IsMark cut e p

-- what a run left at the front of its report room: as many bytes as its answer says
abbrev pub own_report : Answer → List ℕ → List ℕ
own_report r room = take (totals_of r).bytes room
