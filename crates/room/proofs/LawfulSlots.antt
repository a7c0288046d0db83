-- The messages of a lawful cut lie in the 128 slots of the mail, since a slot is added only where all are taken, and as many are
-- taken as messages are in flight.
-- Assumes nothing.
use mathlib.Core.Path.{◌≡◌, refl, sym, ◌∙◌}
use mathlib.Core.Option.{none, some}
use mathlib.Core.List.{List, [], ◌∷◌}
use Prim.Native.Nat.{ℕ, ◌<◌, ◌≤◌}
use native.Mathlib.Nat.{le_trans}
use native.Mathlib.Decide.{dec_lt}
use native.Mathlib.Omega.{arith}
use lib.ListN.{length, get_or-eq_default}
use Rattle.order.specs.Order.{Event, idle, mark, send, receipt, Flying}
use Rattle.order.specs.Flight.{Message}
use Rattle.order.proofs.Flight.{message}
use Rattle.verdict.specs.Lawful.{Lawful}
use Rattle.verdict.proofs.Lawfully.{lawful_past, lawful_allowed, lawful_room}
use Rattle.room.specs.Slots.{slot_at, vacate, slots, slot_for}
use Rattle.room.proofs.Slots.{free_taken, fill_length, vacate_length, lowest_taken, flying_slot, slot_of_flying, taken_flying}

-- there are at most 128
pub slots_few : {n : ℕ} {cut : List Event} → Lawful n cut → length (slots cut) ≤ 128
unfolding slots
slots_few {cut = []} l = omega arith
slots_few {cut = idle i ∷ past} l = slots_few (lawful_past l)
slots_few {cut = mark i ∷ past} l = slots_few (lawful_past l)
slots_few {cut = send i j m ∷ past} l =
    let before = slots_few (lawful_past l) in
    let few = l.few_flying [] (send i j m ∷ past) refl in
    let longer = fill_length (message m i j (length past)) (vacate m (slots past)) in
    omega (arith, vacate_length m (slots past), taken_flying (send i j m ∷ past))
slots_few {cut = receipt j m ∷ past} l = rw (vacate_length m (slots past)) (slots_few (lawful_past l))

-- the others are free
pub slots_end : {n : ℕ} {cut : List Event} → Lawful n cut → (s : ℕ) → 128 ≤ s → slot_at (slots cut) s ≡ none
slots_end {cut = cut} l s h = get_or-eq_default (slots cut) none (le_trans (slots_few l) h)

-- so a slot that has a message is one of the 128
pub slot_below : {n : ℕ} {cut : List Event} → Lawful n cut → (s : ℕ) {x : Message} → slot_at (slots cut) s ≡ some x → s < 128
slot_below l s h = go (dec_lt s 128)
  where
    go : Dec (s < 128) → s < 128
    go (yes k) = k
    go (no k) = free_taken (sym (slots_end l s (omega arith)) ∙ h)

-- and a message in flight lies in one of them
pub flying_lies : {n : ℕ} {cut : List Event} → Lawful n cut → {m i j p : ℕ} → Flying m i j cut p
    → (s : ℕ) × (s < 128) × (slot_at (slots cut) s ≡ some (message m i j p))
flying_lies l f = let (s, there) = flying_slot f in (s, slot_below l s there, there)

-- the slot of an event's message is one of them too
pub lawful_slot : {n : ℕ} {e : Event} {cut : List Event} → Lawful n (e ∷ cut) → slot_for cut e < 128
lawful_slot {e = idle i} l = omega arith
lawful_slot {e = mark i} l = omega arith
lawful_slot {e = send i j m} {cut = cut} l = omega (arith, lowest_taken (slots cut), taken_flying cut, lawful_room l)
lawful_slot {e = receipt j m} {cut = cut} l =
    let found = flying_slot (lawful_allowed l).1.2 in
    rw (slot_of_flying cut found.1) (slot_below (lawful_past l) found.0 found.1)
