-- The answers to a send and to a receipt, from what was found in the mail: each is a row of the table, since what is found is what
-- is in flight.
-- Assumes nothing.
use mathlib.Core.Path.{◌≡◌, sym, ap, ◌∙◌}
use native.Mathlib.Omega.{arith}
use Rattle.std.proofs.lemmas.Option.{same_Some}
use mathlib.Core.Logic.{◌≢◌}
use mathlib.Core.Bool.{true, false}
use mathlib.Core.List.{List}
use Prim.Native.Nat.{ℕ, ◌+◌, ◌*◌, ◌<◌}
use lib.ListN.{length, get_or}
use Rattle.order.specs.Order.{Event, send, Allowed}
use Rattle.logs.specs.declared.Node.{Node}
use Rattle.logs.specs.declared.MessageNumber.{MessageNumber}
use Rattle.logs.specs.declared.Record.TheVariants.{Send, Receipt}
use Rattle.verdict.specs.Table.{breaks_8, breaks_9, breaks_10, breaks_11}
use Rattle.room.specs.declared.mail.Seen.{Seen}
use Rattle.std.proofs.Common.{Some, None}
use Rattle.room.specs.Finding.{Finds, surveyed, Mailed}
use Rattle.room.proofs.Surveying.{survey_repeated, survey_new, survey_free, survey_room, find_flies, find_none}
use Rattle.std.specs.Prelude.{Ok, Err}
use Rattle.logs.specs.Record.{refusal}
use Rattle.logs.specs.declared.Reason.TheVariants.{NumberTaken, MailFull, NotInFlight, ToAnother}
use Rattle.protocol.specs.Admission.{Judges, admits, refuses}

module _ {n : ℕ} {cut : List Event} {mail : List ℕ} (mailed : Mailed n cut mail) (few : length cut < 4096) (p : ℕ) where
  -- ---- a send between two nodes of the barn

  module _ {from to : Node} (number : MessageNumber) (sends : from.0 < n) (receives : to.0 < n) (apart : from.0 ≢ to.0)
      {seen : Seen} (looked : seen ≡ surveyed number.0 mail 128) where
    -- its number is in flight
    pub judged_repeated : seen.repeated ≡ true → Judges n cut p (Send from to number) (Err (refusal NumberTaken (p + 3)))
    judged_repeated h =
        let flies = survey_repeated mailed number.0 (ap (λ s. s.repeated) (sym looked) ∙ h) in
        refuses (breaks_8 few sends receives apart flies.3)

    -- it is not
    allowed : seen.repeated ≡ false → Allowed n cut (send from.0 to.0 number.0)
    allowed h = (sends, receives, apart, survey_new mailed number.0 (ap (λ s. s.repeated) (sym looked) ∙ h))

    -- and no slot is free
    pub judged_crowded : seen.repeated ≡ false → seen.free ≡ None → Judges n cut p (Send from to number) (Err (refusal MailFull p))
    judged_crowded h none =
        let full = rw (← looked, none) at (survey_room mailed number.0) in
        refuses (breaks_9 few (allowed h) (omega arith))

    -- or one is
    pub judged_free : {s : ℕ} → seen.repeated ≡ false → seen.free ≡ Some s → Judges n cut p (Send from to number) (Ok s)
    judged_free h some =
        let room = rw (← looked, some) at (survey_room mailed number.0) in
        let free = sym some ∙ ap (λ s. s.free) looked ∙ survey_free mailed room number.0 in
        rw (same_Some _ _ free) (admits (few, allowed h, room))

  -- ---- a receipt at a node of the barn

  module _ {node : Node} {number : MessageNumber} (receives : node.0 < n) where
    -- its number is not in flight
    pub judged_missing : Finds mail number.0 None → Judges n cut p (Receipt node number) (Err (refusal NotInFlight (p + 2)))
    judged_missing found = refuses (breaks_10 few receives (find_none mailed found))

    -- its message is in flight to another node
    pub judged_elsewhere : {s : ℕ} → Finds mail number.0 (Some s) → get_or mail (35 * s + 1) 0 ≢ node.0
        → Judges n cut p (Receipt node number) (Err (refusal ToAnother (p + 2)))
    judged_elsewhere found other = refuses (breaks_11 few receives (find_flies mailed found).2 other)

    -- or to this one
    pub judged_arrived : {s : ℕ} → Finds mail number.0 (Some s) → get_or mail (35 * s + 1) 0 ≡ node.0 → Judges n cut p (Receipt node number) (Ok s)
    judged_arrived found here =
        let flies = find_flies mailed found in
        rw (← flies.3) (admits (few, (receives, (flies.0, flies.1, rw here at flies.2)), tt))
