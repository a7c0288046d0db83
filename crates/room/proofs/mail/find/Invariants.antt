-- `mail::find` meets its contract: none of the slots that were passed has the letter.
use Prim.Native.Nat.{ℕ, ◌<◌}
use lib.ListN.{length}
use Rattle.room.specs.Finding.{Bears}
use Rattle.room.proofs.mail.find.Given as goal

abbrev pub invariant-loop-slot : goal.invariant-loop-slot
invariant-loop-slot l = (t : ℕ) → t < length l.yielded → ¬ Bears l.mail l.message.0 t
