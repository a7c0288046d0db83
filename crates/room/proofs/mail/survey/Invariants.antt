-- `mail::survey` meets its contract: after k slots it knows what the definition says of k slots.
use mathlib.Core.Path.{◌≡◌}
use Prim.Native.Nat.{◌≤◌}
use lib.ListN.{length}
use Rattle.room.specs.Finding.{surveyed}
use Rattle.room.proofs.mail.survey.Given as goal

abbrev pub invariant-loop-slot : goal.invariant-loop-slot
invariant-loop-slot l = (l.seen ≡ surveyed l.message.0 l.mail (length l.yielded)) × (l.seen.flying ≤ length l.yielded)
