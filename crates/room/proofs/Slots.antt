-- What a list of slots has after a message is put in or a number's slot is freed, by induction on the list; and that the
-- messages in a cut's slots are just those in flight, each in one slot, by induction on the cut, since an event that names a
-- number frees its slot, as it ends its flight.
-- Assumes nothing.
use mathlib.Core.Path.{◌≡◌, refl, sym, ap, ◌∙◌}
use mathlib.Core.Logic.{◌≢◌}
use mathlib.Core.Bool.{Bool, true, false, cond, false≢true}
use mathlib.Core.Option.{none, some}
use mathlib.Core.List.{List, [], ◌∷◌}
use Prim.Native.Nat.{ℕ, zero, suc, ◌+◌, ◌<◌, ◌≤◌, max}
use native.Mathlib.Nat.{le_refl}
use native.Mathlib.Omega.{arith}
use lib.Dec.{eqb, eqb-zero-suc, eqb-suc-zero, eqb-suc-suc}
use lib.ListN.{length}
use borrow.Author.Tests.{eq-eqb, ne_eqb, eqb-false}
use Rattle.order.specs.Order.{Event, idle, mark, send, receipt, Names, Flying, flying_head, flying_tail, Allowed}
use Rattle.order.specs.Flight.{Message, without, in_flight}
use Rattle.order.proofs.Flight.{message}
use Rattle.machine.specs.Machine.{put}
use Rattle.machine.proofs.Small.{put_same, put_other, put_inverse}
use Rattle.room.specs.Slots.{Slot, slot_at, bears, lowest, fill, vacate, slot_of, slots}

-- how many slots are taken
unfoldable pub taken : List Slot → ℕ
taken [] = 0
taken (none ∷ rest) = taken rest
taken (some x ∷ rest) = suc (taken rest)

-- ---- what a slot has

-- a free slot has no message
pub free_taken : {A : Type 0} {x : Message} → ◌≡◌ {A = Slot} none (some x) → A
free_taken h = absurd (false≢true (cc))

-- a slot has message number m only if its message has that number
pub not_borne : (m : ℕ) (o : Slot) → ((x : Message) → o ≡ some x → x.number ≢ m) → bears m o ≡ false
not_borne m none h = refl
not_borne m (some x) h = ne_eqb x.number m (h x refl)

-- ---- put in

-- the lowest free slot has the message, and the others are as they were
pub fill_at : (x : Message) (S : List Slot) (s : ℕ) → slot_at (fill x S) s ≡ put (lowest S) (some x) (slot_at S) s
unfolding fill lowest put
fill_at x [] zero = refl
fill_at x [] (suc s) = rw (eqb-zero-suc s)
fill_at x (none ∷ rest) zero = refl
fill_at x (none ∷ rest) (suc s) = rw (eqb-zero-suc s)
fill_at x (some y ∷ rest) zero = rw (eqb-suc-zero (lowest rest))
fill_at x (some y ∷ rest) (suc s) = rw (eqb-suc-suc (lowest rest) s) (fill_at x rest s)

-- the list grows only where every slot of it was taken
pub fill_length : (x : Message) (S : List Slot) → length (fill x S) ≤ max (length S) (taken (fill x S))
unfolding fill taken
fill_length x [] = omega arith
fill_length x (none ∷ rest) = omega arith
fill_length x (some y ∷ rest) = let h = fill_length x rest in omega arith

-- ---- taken out

-- the slots that had message number m are free, and the others are as they were
pub vacate_at : (m : ℕ) (S : List Slot) (s : ℕ) → slot_at (vacate m S) s ≡ cond (bears m (slot_at S s)) none (slot_at S s)
unfolding vacate
vacate_at m [] s = refl
vacate_at m (o ∷ rest) zero = refl
vacate_at m (o ∷ rest) (suc s) = vacate_at m rest s

-- a number that no slot has frees none
pub vacate_none : (m : ℕ) (S : List Slot) → ((s : ℕ) → bears m (slot_at S s) ≡ false) → vacate m S ≡ S
unfolding vacate
vacate_none m [] h = refl
vacate_none m (o ∷ rest) h = rw (h 0, vacate_none m rest (λ s. h (suc s)))

-- a message that is still there was there, and has another number
pub vacate_out : (m : ℕ) (S : List Slot) (s : ℕ) {x : Message} → slot_at (vacate m S) s ≡ some x → (slot_at S s ≡ some x) × (x.number ≢ m)
vacate_out m S s {x} h = go (slot_at S s) (sym (vacate_at m S s) ∙ h)
  where
    go : (o : Slot) → cond (bears m o) none o ≡ some x → (o ≡ some x) × (x.number ≢ m)
    go none e = free_taken e
    go (some y) e = at (eqb y.number m) refl e
      where
        at : (b : Bool) → eqb y.number m ≡ b → cond b none (some y) ≡ some x → (some y ≡ some x) × (x.number ≢ m)
        at true q e = free_taken e
        at false q e = (e, λ z. eqb-false y.number m q (let k : y ≡ x = cc in rw k z))

-- and a message with another number stays
pub vacate_in : (m : ℕ) (S : List Slot) (s : ℕ) {x : Message} → slot_at S s ≡ some x → x.number ≢ m → slot_at (vacate m S) s ≡ some x
vacate_in m S s {x} h n = rw (vacate_at m S s, h, ne_eqb x.number m n)

-- the list keeps its length
pub vacate_length : (m : ℕ) (S : List Slot) → length (vacate m S) ≡ length S
unfolding vacate
vacate_length m [] = refl
vacate_length m (o ∷ rest) = ap suc (vacate_length m rest)

-- ---- the lowest free slot

-- it is free
pub lowest_free : (S : List Slot) → slot_at S (lowest S) ≡ none
unfolding lowest
lowest_free [] = refl
lowest_free (none ∷ rest) = refl
lowest_free (some x ∷ rest) = lowest_free rest

-- the slots below it are taken
pub lowest_taken : (S : List Slot) → lowest S ≤ taken S
unfolding lowest taken
lowest_taken [] = le_refl _
lowest_taken (none ∷ rest) = omega arith
lowest_taken (some x ∷ rest) = let h = lowest_taken rest in omega arith

-- ---- the slot of a number

-- a slot that has the number, where none below it does
pub slot_of_is : (m : ℕ) (S : List Slot) (s : ℕ) → bears m (slot_at S s) ≡ true → ((t : ℕ) → t < s → bears m (slot_at S t) ≡ false) → slot_of m S ≡ s
unfolding slot_of
slot_of_is m [] s borne below = absurd (false≢true borne)
slot_of_is m (o ∷ rest) zero borne below = rw borne
slot_of_is m (o ∷ rest) (suc s) borne below =
    rw (below 0 (omega arith)) (ap suc (slot_of_is m rest s borne (λ t h. below (suc t) (omega arith))))

-- ---- the slots and the flights

-- a slot of a list with a message put in has that message, or what it had
filled : {A : Type 0} (x : Message) (S : List Slot) (s : ℕ) {y : Message}
    → (lowest S ≡ s → x ≡ y → A) → (slot_at S s ≡ some y → A) → slot_at (fill x S) s ≡ some y → A
filled x S s {y} new old h =
    put_inverse (λ (o : Slot). o ≡ some y) (lowest S) (some x) (slot_at S) s (λ q e. new q (cc)) (λ q e. old e) (sym (fill_at x S s) ∙ h)

-- what lies in a slot is in flight
pub slot_flies : (cut : List Event) (s : ℕ) {x : Message} → slot_at (slots cut) s ≡ some x → Flying x.number x.from x.to cut x.sent
unfolding slots
slot_flies [] s h = free_taken h
slot_flies (idle i ∷ past) s h = flying_tail (λ z. z) (slot_flies past s h)
slot_flies (mark i ∷ past) s h = flying_tail (λ z. z) (slot_flies past s h)
slot_flies (send i j m ∷ past) s h =
    filled (message m i j (length past)) (vacate m (slots past)) s (λ q e. rw (← e) flying_head)
    (λ e. let r = vacate_out m (slots past) s e in flying_tail (λ q. r.1 (sym q)) (slot_flies past s r.0)) h
slot_flies (receipt j m ∷ past) s h = let r = vacate_out m (slots past) s h in flying_tail (λ q. r.1 (sym q)) (slot_flies past s r.0)

-- what is in flight lies in a slot
pub flying_slot : {m i j p : ℕ} {cut : List Event} → Flying m i j cut p → (s : ℕ) × (slot_at (slots cut) s ≡ some (message m i j p))
unfolding slots
flying_slot {m} {i} {j} (flying_head {past = past}) =
    let S = vacate m (slots past) in
    let x = message m i j (length past) in
    (lowest S, fill_at x S (lowest S) ∙ put_same (lowest S) (some x) (slot_at S))
flying_slot {m} {i} {j} {p} (flying_tail {e = e} {past = past} h f) = let r = flying_slot f in (r.0, go e h r.0 r.1)
  where
    go : (e : Event) → ¬ Names e m → (s : ℕ) → slot_at (slots past) s ≡ some (message m i j p) → slot_at (slots (e ∷ past)) s ≡ some (message m i j p)
    go (idle k) h s r = r
    go (mark k) h s r = r
    go (send a b l) h s r =
        let S = vacate l (slots past) in
        let stays = vacate_in l (slots past) s r (λ q. h (sym q)) in
        fill_at _ S s ∙ put_other (lowest S) _ (slot_at S) s (λ q. free_taken (sym (lowest_free S) ∙ (rw (← q) at stays))) ∙ stays
    go (receipt b l) h s r = vacate_in l (slots past) s r (λ q. h (sym q))

-- no number lies in two slots
pub slot_once : (cut : List Event) {s t : ℕ} {x y : Message}
    → slot_at (slots cut) s ≡ some x → slot_at (slots cut) t ≡ some y → x.number ≡ y.number → s ≡ t
unfolding slots
slot_once [] h k q = free_taken h
slot_once (idle i ∷ past) h k q = slot_once past h k q
slot_once (mark i ∷ past) h k q = slot_once past h k q
slot_once (send i j m ∷ past) {s} {t} h k q =
    let S = slots past in
    let z = message m i j (length past) in
    filled z (vacate m S) s
    (λ a e. filled z (vacate m S) t (λ b d. cc) (λ d. absurd ((vacate_out m S t d).1 (cc))) k)
    (λ e. filled z (vacate m S) t (λ b d. absurd ((vacate_out m S s e).1 (cc)))
    (λ d. slot_once past (vacate_out m S s e).0 (vacate_out m S t d).0 q) k) h
slot_once (receipt j m ∷ past) {s} {t} h k q =
    slot_once past (vacate_out m (slots past) s h).0 (vacate_out m (slots past) t k).0 q

-- the slot of a message's number is where it lies
pub slot_of_flying : (cut : List Event) {s : ℕ} {x : Message} → slot_at (slots cut) s ≡ some x → slot_of x.number (slots cut) ≡ s
slot_of_flying cut {s} {x} h =
    slot_of_is x.number (slots cut) s (rw h (eq-eqb x.number x.number refl))
    (λ t l. not_borne x.number (slot_at (slots cut) t) (λ y k q. let z = slot_once cut k h q in omega arith))

-- no slot has a number that is not in flight
pub no_bearer : {m : ℕ} {cut : List Event} → ((a b p : ℕ) → ¬ Flying m a b cut p) → (s : ℕ) → bears m (slot_at (slots cut) s) ≡ false
no_bearer {m} {cut} h s = not_borne m (slot_at (slots cut) s) (λ x e q. h x.from x.to x.sent (rw q at (slot_flies cut s e)))

-- so a send that may follow the cut frees no slot
pub slots_sent : {n : ℕ} {cut : List Event} {i j m : ℕ} → Allowed n cut (send i j m)
    → slots (send i j m ∷ cut) ≡ fill (message m i j (length cut)) (slots cut)
unfolding slots
slots_sent {cut = cut} {m = m} ok = rw (vacate_none m (slots cut) (no_bearer ok.3))

-- ---- how many slots are taken

-- the messages in a list of slots
messages : List Slot → List Message
messages [] = []
messages (none ∷ rest) = messages rest
messages (some x ∷ rest) = x ∷ messages rest

-- the messages' weights, added up
total : (Message → ℕ) → List Message → ℕ
total weight [] = 0
total weight (x ∷ xs) = weight x + total weight xs

-- all weigh one
taken_total : (S : List Slot) → taken S ≡ total (λ x. 1) (messages S)
unfolding taken messages total
taken_total [] = refl
taken_total (none ∷ rest) = taken_total rest
taken_total (some x ∷ rest) = omega (arith, taken_total rest)

length_total : (xs : List Message) → length xs ≡ total (λ x. 1) xs
unfolding total
length_total [] = refl
length_total (x ∷ xs) = omega (arith, length_total xs)

-- a message that is put in adds its weight
fill_total : (weight : Message → ℕ) (x : Message) (S : List Slot) → total weight (messages (fill x S)) ≡ weight x + total weight (messages S)
unfolding fill messages total
fill_total weight x [] = refl
fill_total weight x (none ∷ rest) = refl
fill_total weight x (some y ∷ rest) = omega (arith, fill_total weight x rest)

-- to free a number's slot takes its message away
vacate_messages : (m : ℕ) (S : List Slot) → messages (vacate m S) ≡ without m (messages S)
unfolding vacate messages without
vacate_messages m [] = refl
vacate_messages m (none ∷ rest) = vacate_messages m rest
vacate_messages m (some x ∷ rest) = go (eqb x.number m) (vacate_messages m rest)
  where
    go : (b : Bool) → messages (vacate m rest) ≡ without m (messages rest)
        → messages (cond b none (some x) ∷ vacate m rest) ≡ cond b (without m (messages rest)) (x ∷ without m (messages rest))
    go true h = h
    go false h = ap (λ (xs : List Message). x ∷ xs) h

-- and a message that is taken away is one that weighs nothing
without_total : (weight : Message → ℕ) (m : ℕ) (xs : List Message)
    → total weight (without m xs) ≡ total (λ x. cond (eqb x.number m) 0 (weight x)) xs
unfolding without total
without_total weight m [] = refl
without_total weight m (x ∷ xs) = go (eqb x.number m) (without_total weight m xs)
  where
    go : {k : ℕ} (b : Bool) → total weight (without m xs) ≡ k → total weight (cond b (without m xs) (x ∷ without m xs)) ≡ cond b 0 (weight x) + k
    go true h = omega arith
    go false h = omega arith

-- whatever each weighs, the messages in the slots and those in flight weigh the same
flying_total : (cut : List Event) (weight : Message → ℕ) → total weight (messages (slots cut)) ≡ total weight (in_flight cut)
unfolding slots in_flight messages total
flying_total [] weight = refl
flying_total (idle i ∷ past) weight = flying_total past weight
flying_total (mark i ∷ past) weight = flying_total past weight
flying_total (send i j m ∷ past) weight = simp (fill_total, vacate_messages, without_total, flying_total past)
flying_total (receipt j m ∷ past) weight = simp (vacate_messages, without_total, flying_total past)

-- as many slots are taken as messages are in flight
pub taken_flying : (cut : List Event) → taken (slots cut) ≡ length (in_flight cut)
taken_flying cut = taken_total (slots cut) ∙ flying_total cut (λ x. 1) ∙ sym (length_total (in_flight cut))
