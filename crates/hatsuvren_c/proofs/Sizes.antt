-- The sizes that a caller is told are those at which a run stops refusing the work room, by computation.
-- Assumes nothing.
use mathlib.Core.Path.{◌≡◌, refl}
use mathlib.Core.Bool.{◌&&◌}
use mathlib.Core.List.{List}
use Prim.Native.Nat.{ℕ}
use lib.Dec.{leb}
use lib.ListN.{length}
use Rattle.room.specs.Room.{fits}
use Rattle.hatsuvren_c.specs.Sizes.{counts_length, words_length, mail_length, rooms_bytes}

pub sizes_fit : (counts words mail : List ℕ)
    → fits counts words mail ≡ leb counts_length (length counts) && (leb words_length (length words) && leb mail_length (length mail))
sizes_fit counts words mail = refl

pub bytes_in_all : rooms_bytes ≡ 15232
bytes_in_all = refl
