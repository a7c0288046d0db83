-- The contract of `admit` has one answer: there is a cut that the mail holds, and for it the answer is that of the first broken
-- rule. That of `apply` has one result by `follows_unique` of crates/steps.
-- Assumes nothing.
use mathlib.Core.Path.{◌≡◌, sym, ◌∙◌}
use mathlib.Core.List.{List}
use Prim.Native.Nat.{ℕ}
use lib.ListN.{length}
use Rattle.order.specs.Order.{Event}
use Rattle.logs.specs.declared.Record.{Record}
use Rattle.room.specs.Finding.{Mailed}
use Rattle.std.specs.Prelude.{Result}
use Rattle.logs.specs.declared.Refusal.{Refusal}
use Rattle.protocol.specs.Admission.{Judges}
use Rattle.protocol.proofs.Judged.{judged_first}

-- Two answers to one record are equal, where the mail holds a cut of so many events.
pub judges_unique : {event : Record} {at events nodes : ℕ} {mail : List ℕ} {r s : Result ℕ Refusal}
    → (cut : List Event) × (length cut ≡ events) × Mailed nodes cut mail
    → ((cut : List Event) → length cut ≡ events → Mailed nodes cut mail → Judges nodes cut at event r)
    → ((cut : List Event) → length cut ≡ events → Mailed nodes cut mail → Judges nodes cut at event s)
    → r ≡ s
judges_unique (cut, size, mailed) a b = judged_first (a cut size mailed) ∙ sym (judged_first (b cut size mailed))
