-- What lies in the mail after a run that is accepted, in either mode: the messages in flight, each in one slot with the letter of its
-- send, and zero in every other slot, since the slots have just what is in flight and a letter in flight is the one that was sent.
-- Assumes nothing.
use mathlib.Core.Path.{◌≡◌, refl, sym, ◌∙◌}
use mathlib.Core.Logic.{◌⊎◌, inl, inr, ◌↔◌}
use mathlib.Core.Bool.{Bool}
use mathlib.Core.Option.{none, some}
use mathlib.Core.List.{List, ◌∷◌, ◌++◌}
use Prim.Native.Nat.{ℕ, suc, ◌+◌, ◌*◌, ◌<◌, ◌≤◌}
use native.Mathlib.Omega.{arith}
use lib.ListN.{length, get_or}
use borrow.Author.Tests.{le-ltb}
use Rattle.order.specs.Order.{Event, send, Flying}
use Rattle.order.specs.Flight.{Message}
use Rattle.order.proofs.Flight.{message}
use Rattle.verdict.proofs.Accepted.{row_lawful}
use Rattle.machine.specs.Machine.{full}
use Rattle.machine.specs.Short.{columns}
use Rattle.machine.specs.History.{Due}
use Rattle.room.specs.declared.Mode.{Mode}
use Rattle.room.specs.declared.Mode.TheVariants.{Full, Short}
use Rattle.room.specs.Slots.{Slot, slot_at, slots}
use Rattle.room.specs.Room.{barn, element}
use Rattle.room.proofs.Slots.{slot_flies, slot_once}
use Rattle.room.proofs.LawfulSlots.{flying_lies}
use Rattle.report.specs.declared.Answer.{Answer}
use Rattle.demands.specs.Demands.{Completed, Lies, element_of, entry_at, Element, Posted}
use Rattle.demands.proofs.Letters.{mail_at, mail_lies, mail_entry, flying_parts}
use Rattle.demands.proofs.Elements.{element_of_lem, element_full, element_due, flight_holds, past_sound}

module _ {mode : Mode} {log : List ℕ} {n : ℕ} {cut : List Event} {report counts' words' mail' report' : List ℕ} {r : Answer}
    (done : Completed mode log n cut report counts' words' mail' report' r) where
  -- the entry of a letter in the mail is what goes along
  pub mail_element : (s : ℕ) → s < 128 → (x : Message) → slot_at (slots cut) s ≡ some x → (later past : List Event)
      → cut ≡ later ++ (send x.from x.to x.number ∷ past) → x.sent ≡ length past
      → (k : ℕ) → k < n → Element mode past x.from x.to k (entry_at mail' s k)
  mail_element s few x there later past parts place k below =
      rw (mail_entry done s few x there k below) (element_of_lem (flight_holds mode later past parts (row_lawful done.accepted_is).sound (rw place at (slot_flies cut s there)) k) _ refl)

  -- and behind the entries the slot is zero
  pub mail_rest : (s : ℕ) → s < 128 → (x : Message) → slot_at (slots cut) s ≡ some x → (k : ℕ) → n ≤ k → k < 32 → entry_at mail' s k ≡ 0
  unfolding element
  mail_rest s few x there k above small =
      let here : 35 * s + 3 + k ≡ 35 * s + suc (suc (suc k)) = omega arith in
      rw here (mail_at done s (suc (suc (suc k))) few (omega arith) ∙ rw (there, le-ltb k n above))

  -- a slot's message is posted there
  pub mail_posted : (s : ℕ) → s < 128 → (x : Message) → slot_at (slots cut) s ≡ some x → Posted mode n cut mail' s x.number x.from x.to x.sent
  mail_posted s few x there =
      let (later, past, parts, place) = flying_parts (slot_flies cut s there) in
      record {
        lies = mail_lies done s few x there;
        later = later;
        past = past;
        sent_then = parts;
        place_is = place;
        letter_is = mail_element s few x there later past parts place;
        rest_zero = mail_rest s few x there;
      }

  -- Each message in flight lies in a slot, with the letter of its send.
  pub posted_flying : {m i j p : ℕ} → Flying m i j cut p → (s : ℕ) × Posted mode n cut mail' s m i j p
  posted_flying {m} {i} {j} {p} flies = let (s, few, there) = flying_lies (row_lawful done.accepted_is) flies in (s, mail_posted s few (message m i j p) there)

  -- Each slot has a message in flight, with the letter of its send, or is all zero.
  pub posted_left : (s : ℕ) → s < 128
      → ((m i j p : ℕ) × Flying m i j cut p × Posted mode n cut mail' s m i j p) ⊎ ((x : ℕ) → x < 35 → get_or mail' (35 * s + x) 0 ≡ 0)
  unfolding element
  posted_left s few = go (slot_at (slots cut) s) refl
    where
      go : (o : Slot) → slot_at (slots cut) s ≡ o
          → ((m i j p : ℕ) × Flying m i j cut p × Posted mode n cut mail' s m i j p) ⊎ ((x : ℕ) → x < 35 → get_or mail' (35 * s + x) 0 ≡ 0)
      go none e = inr (λ x small. mail_at done s x few small ∙ rw e)
      go (some x) e = inl (x.number, x.from, x.to, x.sent, slot_flies cut s e, mail_posted s few x e)

  -- a slot that has a number has a message with it
  lies_slot : {s i j m : ℕ} → Lies mail' s i j m → (x : Message) × (slot_at (slots cut) s ≡ some x) × (x.number ≡ m)
  unfolding element
  lies_slot {s} {i} {m = m} lies = go (slot_at (slots cut) s) refl
    where
      at : (x : ℕ) → x < 35 → get_or mail' (35 * s + x) 0 ≡ element n (barn mode cut).state.letter (slot_at (slots cut) s) x
      at x small = mail_at done s x lies.slot_few small

      go : (o : Slot) → slot_at (slots cut) s ≡ o → (x : Message) × (slot_at (slots cut) s ≡ some x) × (x.number ≡ m)
      go none e =
          let first : 35 * s ≡ 35 * s + 0 = omega arith in
          let zero-there : get_or mail' (35 * s) 0 ≡ 0 = rw first (at 0 (omega arith) ∙ rw e) in
          absurd (omega (arith, lies.sender_is))
      go (some x) e = let number : get_or mail' (35 * s + 2) 0 ≡ x.number = at 2 (omega arith) ∙ rw e in (x, e, sym number ∙ lies.number_is)

  -- And no number lies in two slots, so slots that are not zero and messages in flight are one to one.
  pub mail_once : {m s i j t a b : ℕ} → Lies mail' s i j m → Lies mail' t a b m → s ≡ t
  mail_once one other =
      let (x, there, number) = lies_slot one in
      let (y, there₂, number₂) = lies_slot other in
      slot_once cut there there₂ (number ∙ sym number₂)

-- ---- what each letter has

-- After a run with full messages each message in flight lies in a slot, and the letter there has, for each of the n nodes, the count and
-- the flag that the sender held when it was sent, after the cut `past`.
pub mail_full : {log : List ℕ} {n : ℕ} {cut : List Event} {report counts' words' mail' report' : List ℕ} {r : Answer}
    → Completed Full log n cut report counts' words' mail' report' r → {m i j p : ℕ} → Flying m i j cut p
    → (s : ℕ) × (later past : List Event) × (cut ≡ later ++ (send i j m ∷ past)) × (p ≡ length past) × Lies mail' s i j m
    × ((k : ℕ) → k < n → entry_at mail' s k ≡ element_of ((full past).count i k) ((full past).flag i k))
mail_full done {m} {i} {j} flies =
    let (s, there) = posted_flying done flies in
    let ok = past_sound there.later there.past i j m there.sent_then (row_lawful done.accepted_is).sound in
    (s, there.later, there.past, there.sent_then, there.place_is, there.lies, λ k below. element_full ok (there.letter_is k below))

-- After a run with short messages each lies in a slot, and the letter there has node k's count c, with flag x, exactly if that was due
-- when it was sent; its element for k is 0 exactly if nothing was due.
pub mail_due_exactly : {log : List ℕ} {n : ℕ} {cut : List Event} {report counts' words' mail' report' : List ℕ} {r : Answer}
    → Completed Short log n cut report counts' words' mail' report' r → {m i j p : ℕ} → Flying m i j cut p
    → (s : ℕ) × (later past : List Event) × (cut ≡ later ++ (send i j m ∷ past)) × (p ≡ length past) × Lies mail' s i j m
    × ((k : ℕ) → k < n → ((c : ℕ) (x : Bool) → ((0 < c) × (entry_at mail' s k ≡ element_of c x)) ↔ Due columns past i j k c x)
    × ((entry_at mail' s k ≡ 0) ↔ ((c : ℕ) (x : Bool) → ¬ Due columns past i j k c x)))
mail_due_exactly done flies =
    let (s, there) = posted_flying done flies in
    (s, there.later, there.past, there.sent_then, there.place_is, there.lies, λ k below. element_due (there.letter_is k below))
