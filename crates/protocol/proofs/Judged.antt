-- The table's answer to a record is that of its first broken rule; and a record that is admitted is ready to be applied.
-- Assumes nothing.
use mathlib.Core.Path.{◌≡◌, refl}
use mathlib.Core.Option.{Option, none, some}
use mathlib.Core.List.{List}
use Prim.Native.Nat.{ℕ}
use Rattle.order.specs.Order.{Event}
use Rattle.logs.specs.declared.Record.{Record}
use Rattle.verdict.specs.Verdict.{event_of, Rule, rules, first_broken}
use Rattle.verdict.specs.Lawful.{Lawful}
use Rattle.verdict.specs.Table.{Breaks, Passes}
use Rattle.verdict.proofs.Lawfully.{lawful_next}
use Rattle.room.specs.declared.Mode.{Mode}
use Rattle.room.specs.Room.{barn, Holds}
use Rattle.steps.specs.Steps.{Ready}
use Rattle.verdict.proofs.Rules.{breaks_first, passes_first}
use Rattle.std.specs.Prelude.{Result, Ok, Err}
use Rattle.logs.specs.declared.Refusal.{Refusal}
use Rattle.logs.specs.Record.{refusal, number_of}
use Rattle.logs.proofs.Reasons.{reason_of, reason_number}
use Rattle.room.specs.Slots.{slot_for}
use Rattle.protocol.specs.Admission.{Judges, admits, refuses}

-- ---- the answer to a record

-- the answer where this is the first broken rule, and this the slot
abbrev pub admission_of : Option Rule → ℕ → Result ℕ Refusal
admission_of none slot = Ok slot
admission_of (some rule) slot = Err (refusal (reason_of rule.number) rule.place)

-- the table's answer is that of the first broken rule
pub judged_first : {n : ℕ} {cut : List Event} {p : ℕ} {r : Record} {a : Result ℕ Refusal}
    → Judges n cut p r a → a ≡ admission_of (first_broken (rules n cut p r)) (slot_for cut (event_of r))
judged_first {n} {cut} {p} {r} (admits h) = rw (passes_first n cut p r h)
judged_first {n} {cut} {p} (refuses {f} h) = rw (breaks_first n cut p h, reason_number f.reason)

-- ---- what an answer tells

-- a record that is admitted passes, and the slot is its own
pub admitted_passes : {n : ℕ} {cut : List Event} {p slot : ℕ} {r : Record} → Judges n cut p r (Ok slot) → Passes n cut r × (slot ≡ slot_for cut (event_of r))
admitted_passes (admits h) = (h, refl)

-- one that is refused breaks that rule, at that place
pub refused_breaks : {n : ℕ} {cut : List Event} {p : ℕ} {r : Record} {f : Refusal} → Judges n cut p r (Err f) → Breaks n cut p r (number_of f.reason) f.place
refused_breaks (refuses h) = h

-- an admitted record, with its slot, is ready to be applied to the room that was looked at
pub admitted_ready : {mode : Mode} {n : ℕ} {cut : List Event} {p slot : ℕ} {r : Record} {counts words mail : List ℕ} → Lawful n cut
    → Holds n (barn mode cut) counts words mail → Judges n cut p r (Ok slot) → Ready mode n cut (event_of r) slot counts words mail
admitted_ready {r = r} lawful holds judged =
    let h = admitted_passes judged in
    record { lawful = lawful_next lawful r h.0; place = h.1; holds = holds }
