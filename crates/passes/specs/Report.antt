-- The report of a cut, and 01's five totals of it.
-- Assumes nothing.
use Rattle.std.specs.Prelude.{List, ℕ, length}
use Rattle.order.specs.Order.{Event}
use Rattle.machine.specs.Machine.{full}
use Rattle.machine.specs.Answer.{answers, totals}
use Rattle.room.specs.declared.Mode.{Mode}
use Rattle.room.specs.Modes.{says}
use Rattle.groups.specs.Groups.{groups_of}
use Rattle.passes.specs.declared.Tally.{Tally}

-- The groups of the marks of a cut, in log order, by the machine of full messages. That it says what the order says, and
-- that short messages give the same, are theorems (crates/demands: Arrows, Messages).
unfoldable pub report_of : ℕ → List Event → List ℕ
report_of n cut = groups_of n (answers n full cut)

-- the totals of events, marks, sends, carried entries and report bytes
unfoldable pub tally_of : Mode → ℕ → List Event → Tally
tally_of mode n cut =
    let t = totals n (says mode) cut in
    record { events = t.events; marks = t.marks; sends = t.sends; carried = t.carried; bytes = length (report_of n cut) }

-- no totals, but for these bytes
abbrev pub bytes_alone : ℕ → Tally
bytes_alone b = record { events = 0; marks = 0; sends = 0; carried = 0; bytes = b }
