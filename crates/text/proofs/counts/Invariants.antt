-- `text::counts` meets its contract: after k turns the counts of the first k nodes are laid.
use mathlib.Core.Path.{◌≡◌}
use Prim.Native.Nat.{◌+◌, ◌*◌, ◌≤◌}
use Rattle.groups.specs.Groups.{Laid}
use Rattle.groups.specs.Pen.{Same}
use Rattle.reading.specs.Reading.{stamp_place, stamp_at}
use Rattle.text.specs.Text.{stamp_text}
use Rattle.text.proofs.counts.Given as goal

abbrev pub invariant-loop-k : goal.invariant-loop-k
invariant-loop-k l =
    (l.read ≡ stamp_place l.report l.place l.k) × Same l.fn.pen l.pen × (l.pen.at ≤ l.fn.pen.at + 6 * l.k)
    × Laid l.fn.pen.at (stamp_text l.k (stamp_at l.report l.place)) l.fn.pen.room.now l.pen.room.now l.pen.at
