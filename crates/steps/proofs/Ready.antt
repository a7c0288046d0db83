-- What is known of the slices where an event is ready to go: their sizes, the event's slot and node, the bounds of the counts,
-- and the letter that a receipt finds in its slot.
-- Assumes nothing.
use mathlib.Core.Path.{◌≡◌, sym, ◌∙◌}
use mathlib.Core.Option.{some}
use mathlib.Core.List.{List}
use Prim.Native.Nat.{ℕ, suc, ◌*◌, ◌<◌, ◌≤◌}
use native.Mathlib.Nat.{add-zero}
use native.Mathlib.Decide.{dec_lt}
use native.Mathlib.Omega.{arith}
use lib.ListN.{length, get_or}
use Rattle.order.specs.Order.{Event, idle, mark, send, receipt, node_of, Flying, flying_head, flying_tail, Allowed, Sound, sound_nil, sound_cons}
use Rattle.order.proofs.Flight.{message}
use Rattle.room.specs.declared.Mode.{Mode}
use Rattle.room.specs.Modes.{knowledge}
use Rattle.room.specs.Slots.{slot_at, slots}
use Rattle.room.specs.Room.{barn, count_at, element}
use Rattle.steps.specs.Steps.{Ready}
use Rattle.room.proofs.Places.{row_of}
use Rattle.room.proofs.Slots.{flying_slot, slot_of_flying}
use Rattle.verdict.proofs.Lawfully.{lawful_past, lawful_allowed}
use Rattle.room.proofs.LawfulSlots.{lawful_slot}
use Rattle.room.proofs.Bounded.{count_bound}

-- a message in flight goes between nodes of the barn
pub flying_nodes : {n : ℕ} {cut : List Event} {m i j p : ℕ} → Sound n cut → Flying m i j cut p → (i < n) × (j < n)
flying_nodes {n = n} {m = m} {i = i} {j = j} {p = p} sound_nil f = elim f [ ]
flying_nodes (sound_cons h s) flying_head = (h.0, h.1)
flying_nodes (sound_cons h s) (flying_tail d f) = flying_nodes s f

module _ {mode : Mode} {n : ℕ} {cut : List Event} {e : Event} {slot : ℕ} {counts words mail : List ℕ}
    (ready : Ready mode n cut e slot counts words mail) where
  -- the sizes of the slices
  pub ready_sizes : (length counts ≡ 1024) × (length words ≡ 1056) × (length mail ≡ 4480)
  ready_sizes = (ready.holds.rows.counts_size, ready.holds.rows.words_size, ready.holds.letters.mail_size)

  -- the number of nodes
  pub ready_nodes : (1 ≤ n) × (n ≤ 32)
  ready_nodes = (ready.lawful.some_node, ready.lawful.few_nodes)

  -- the slot is one of the mail
  pub ready_slot : slot < 128
  ready_slot = rw ready.place (lawful_slot ready.lawful)

  -- the event's node is one of the barn
  pub ready_node : node_of e < n
  ready_node = go e (lawful_allowed ready.lawful)
    where
      go : (e : Event) → Allowed n cut e → node_of e < n
      go (idle i) h = h
      go (mark i) h = h
      go (send i j m) h = h.0
      go (receipt j m) h = h.0

  -- no count is above the number of events before
  pub ready_count : (i k : ℕ) → i < n → k < n → count_at n counts i k ≤ length cut
  unfolding barn
  ready_count i k h l = rw (ready.holds.rows.counted i k h l) (count_bound (knowledge mode) cut i k)

  -- and none anywhere is above the number of events that a log may have
  pub ready_counts : (p : ℕ) → get_or counts p 0 ≤ 4096
  ready_counts p = go (dec_lt p (n * n))
    where
      go : Dec (p < n * n) → get_or counts p 0 ≤ 4096
      go (yes h) =
          let row = row_of n p h in
          rw row.4 (omega (arith, ready_count row.0 row.1 row.2 row.3))
      go (no h) = omega (arith, ready.holds.rows.counts_rest p (omega arith))

-- a node that marks can count once more
pub ready_mark : {mode : Mode} {n : ℕ} {cut : List Event} {i slot : ℕ} {counts words mail : List ℕ}
    → Ready mode n cut (mark i) slot counts words mail → count_at n counts i i < 4096
ready_mark {i = i} ready = let h = ready_node ready in omega (arith, ready_count ready i i h h)

-- the message that a receipt takes lies in its slot
pub ready_letter : {mode : Mode} {n : ℕ} {cut : List Event} {i m slot : ℕ} {counts words mail : List ℕ}
    → Ready mode n cut (receipt i m) slot counts words mail
    → (a p : ℕ) × Flying m a i cut p × (a < n) × (slot_at (slots cut) slot ≡ some (message m a i p))
ready_letter {cut = cut} {slot = slot} ready =
    let h = (lawful_allowed ready.lawful).1 in
    let f = h.2 in
    let lies = flying_slot f in
    let here : lies.0 ≡ slot = sym (slot_of_flying cut lies.1) ∙ sym ready.place in
    (h.0, h.1, f, (flying_nodes (lawful_past ready.lawful).sound f).0, rw here at lies.1)

-- and its first element names the sender
pub ready_from : {mode : Mode} {n : ℕ} {cut : List Event} {i m slot : ℕ} {counts words mail : List ℕ}
    (ready : Ready mode n cut (receipt i m) slot counts words mail) → get_or mail (35 * slot) 0 ≡ suc (ready_letter ready).0
unfolding barn element
ready_from {slot = slot} ready =
    let first = ready.holds.letters.laid slot 0 (ready_slot ready) (omega arith) in
    rw (add-zero (35 * slot), (ready_letter ready).4) at first

-- which is the number of a node and one more
pub ready_sender : {mode : Mode} {n : ℕ} {cut : List Event} {i m slot : ℕ} {counts words mail : List ℕ}
    → Ready mode n cut (receipt i m) slot counts words mail → (1 ≤ get_or mail (35 * slot) 0) × (get_or mail (35 * slot) 0 ≤ 32)
ready_sender ready = omega (arith, ready_from ready, (ready_letter ready).3)
