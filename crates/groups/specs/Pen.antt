-- A pen before and after a function that writes with it.
-- Assumes nothing.
use Rattle.std.specs.Prelude.{◌≡◌, length}
use Rattle.groups.specs.declared.pen.Pen.{Pen}

-- its room is still the same one, so that whoever lent it finds in it what was written, and as long
abbrev pub Same : Pen → Pen → Type 0
Same before after = (after.room.ghost_name ≡ before.room.ghost_name) × (length after.room.now ≡ length before.room.now)
