-- The work room before and after a step that it is lent to.
-- Assumes nothing.
use Rattle.std.specs.Prelude.{◌≡◌}
use Rattle.room.specs.declared.work.WorkRoom.{WorkRoom}

-- its slices are still the same ones, so that whoever lent them finds in them what was written
abbrev pub Same : WorkRoom → WorkRoom → Type 0
Same before after =
    (after.counts.ghost_name ≡ before.counts.ghost_name) × (after.words.ghost_name ≡ before.words.ghost_name)
    × (after.mail.ghost_name ≡ before.mail.ghost_name)
