-- Which slot of the mail each message in flight lies in: a send takes the lowest free slot, a receipt frees the slot. Slots
-- behind the list's end are free. proofs/Slots.antt shows that the messages in the slots are just those in flight.
-- Assumes nothing.
use Rattle.std.specs.Prelude.{Bool, cond, false, List, [], ◌∷◌, ℕ, suc, eqb, length, get_or}
use Rattle.std.proofs.Math.Option.{Option, none, some}
use Rattle.order.specs.Order.{Event, idle, mark, send, receipt}
use Rattle.order.specs.Flight.{Message}

-- a slot has a message or is free
abbrev pub Slot : Type 0
Slot = Option Message

-- what slot s has
abbrev pub slot_at : List Slot → ℕ → Slot
slot_at slots s = get_or slots s none

-- the slot has message number m
abbrev pub bears : ℕ → Slot → Bool
bears m none = false
bears m (some x) = eqb x.number m

-- the lowest free slot
unfoldable pub lowest : List Slot → ℕ
lowest [] = 0
lowest (none ∷ rest) = 0
lowest (some x ∷ rest) = suc (lowest rest)

-- the lowest free slot takes the message
unfoldable pub fill : Message → List Slot → List Slot
fill x [] = some x ∷ []
fill x (none ∷ rest) = some x ∷ rest
fill x (some y ∷ rest) = some y ∷ fill x rest

-- the slot of message number m is freed
unfoldable pub vacate : ℕ → List Slot → List Slot
vacate m [] = []
vacate m (slot ∷ rest) = cond (bears m slot) none slot ∷ vacate m rest

-- the slot of message number m; the list's end if none has it
unfoldable pub slot_of : ℕ → List Slot → ℕ
slot_of m [] = 0
slot_of m (slot ∷ rest) = cond (bears m slot) 0 (suc (slot_of m rest))

-- the slots at the end of a cut
unfoldable pub slots : List Event → List Slot
slots [] = []
slots (idle i ∷ past) = slots past
slots (mark i ∷ past) = slots past
slots (send i j m ∷ past) = fill (record { number = m; from = i; to = j; sent = length past }) (vacate m (slots past))
slots (receipt j m ∷ past) = vacate m (slots past)

-- the slot that an event's message lies in, or is to lie in; 0 for an event without one
abbrev pub slot_for : List Event → Event → ℕ
slot_for past (idle i) = 0
slot_for past (mark i) = 0
slot_for past (send i j m) = lowest (slots past)
slot_for past (receipt j m) = slot_of m (slots past)
