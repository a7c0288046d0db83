-- What lies in the mail after a run that is accepted: just the messages in flight, the room of every other is zero; and, with short
-- messages, demand 3's sentence of each: it carries a count exactly if it is due.
-- Assumes nothing.
use mathlib.Core.Path.{◌≡◌, refl, sym, ◌∙◌, ap}
use mathlib.Core.Logic.{◌⊎◌, inl, inr, ◌↔◌}
use mathlib.Core.Bool.{Bool, true, false, cond}
use mathlib.Core.Option.{none, some}
use mathlib.Core.List.{List, [], ◌∷◌, ◌++◌}
use Prim.Native.Nat.{ℕ, suc, ◌+◌, ◌*◌, ◌<◌}
use native.Mathlib.Omega.{arith}
use lib.ListN.{length, get_or}
use lib.Seq.{get_or-take}
use borrow.Author.Tests.{lt-ltb}
use Rattle.order.specs.Order.{Event, send, Flying, flying_head, flying_tail, Sound}
use Rattle.order.specs.Flight.{Message}
use Rattle.order.proofs.Flight.{message}
use Rattle.verdict.proofs.Accepted.{row_lawful}
use Rattle.machine.specs.Machine.{Entry, absent, present}
use Rattle.machine.specs.Short.{columns}
use Rattle.machine.specs.History.{Due}
use Rattle.machine.proofs.ShortMessages.{flight_exactly}
use Rattle.cells.specs.Cells.{code_of}
use Rattle.room.specs.declared.Mode.{Mode}
use Rattle.room.specs.declared.Mode.TheVariants.{Short}
use Rattle.room.specs.Slots.{Slot, slot_at, slots}
use Rattle.room.specs.Room.{barn, element}
use Rattle.room.proofs.Slots.{slot_flies}
use Rattle.room.proofs.LawfulSlots.{flying_lies}
use Rattle.report.specs.declared.Answer.{Answer}
use Rattle.demands.specs.Demands.{Completed, Lies, EntryAt}

module _ {mode : Mode} {log : List ℕ} {n : ℕ} {cut : List Event} {report counts' words' mail' report' : List ℕ} {r : Answer}
    (done : Completed mode log n cut report counts' words' mail' report' r) where
  -- each element of the mail, by its slot
  pub mail_at : (s x : ℕ) → s < 128 → x < 35 → get_or mail' (35 * s + x) 0 ≡ element n (barn mode cut).state.letter (slot_at (slots cut) s) x
  unfolding barn
  mail_at s x few small = sym (get_or-take 4480 mail' (35 * s + x) 0 (omega arith)) ∙ done.state_held.letters.laid s x few small

  -- a slot's message lies there
  pub mail_lies : (s : ℕ) → s < 128 → (x : Message) → slot_at (slots cut) s ≡ some x → Lies mail' s x.from x.to x.number
  unfolding element
  mail_lies s few x there =
      let first : 35 * s ≡ 35 * s + 0 = omega arith in
      record {
        slot_few = few;
        sender_is = rw first (mail_at s 0 few (omega arith) ∙ rw there);
        destination_is = mail_at s 1 few (omega arith) ∙ rw there;
        number_is = mail_at s 2 few (omega arith) ∙ rw there;
      }

  -- with its letter's entry for each node
  pub mail_entry : (s : ℕ) → s < 128 → (x : Message) → slot_at (slots cut) s ≡ some x → (k : ℕ) → k < n
      → get_or mail' (35 * s + 3 + k) 0 ≡ code_of (((barn mode cut).state.letter x.number).entry k)
  unfolding element
  mail_entry s few x there k below =
      let here : 35 * s + 3 + k ≡ 35 * s + suc (suc (suc k)) = omega arith in
      let nodes = (row_lawful done.accepted_is).few_nodes in
      rw here (mail_at s (suc (suc (suc k))) few (omega arith) ∙ rw (there, lt-ltb k n below))

  -- Each message in flight lies in the mail,
  pub mail_flying : {m i j p : ℕ} → Flying m i j cut p → (s : ℕ) × Lies mail' s i j m
  mail_flying {m} {i} {j} {p} flies = let (s, few, there) = flying_lies (row_lawful done.accepted_is) flies in (s, mail_lies s few (message m i j p) there)

  -- and nothing else: each slot has a message that is in flight, or is all zero.
  pub mail_left : (s : ℕ) → s < 128 → ((m i j p : ℕ) × Flying m i j cut p × Lies mail' s i j m) ⊎ ((x : ℕ) → x < 35 → get_or mail' (35 * s + x) 0 ≡ 0)
  unfolding element
  mail_left s few = go (slot_at (slots cut) s) refl
    where
      go : (o : Slot) → slot_at (slots cut) s ≡ o
          → ((m i j p : ℕ) × Flying m i j cut p × Lies mail' s i j m) ⊎ ((x : ℕ) → x < 35 → get_or mail' (35 * s + x) 0 ≡ 0)
      go none e = inr (λ x small. mail_at s x few small ∙ rw e)
      go (some x) e = inl (x.number, x.from, x.to, x.sent, slot_flies cut s e, mail_lies s few x e)

-- ---- what a short message carries

-- a message in flight was sent at its place
pub flying_parts : {m i j p : ℕ} {cut : List Event} → Flying m i j cut p → (later past : List Event) × (cut ≡ later ++ (send i j m ∷ past)) × (p ≡ length past)
flying_parts (flying_head {past = past}) = ([], past, refl, refl)
flying_parts (flying_tail {e = e} h flies) = let (later, past, parts, place) = flying_parts flies in (e ∷ later, past, ap (λ l. e ∷ l) parts, place)

-- it shows the entry, if its count is above zero
code_parts : (d c : ℕ) (y x : Bool) → 2 * d + cond y 1 0 ≡ 2 * c + cond x 1 0 → (d ≡ c) × (y ≡ x)
code_parts d c true true h = (omega arith, refl)
code_parts d c false false h = (omega arith, refl)
code_parts d c true false h = absurd (omega arith)
code_parts d c false true h = absurd (omega arith)

code_only : (e : Entry) (c : ℕ) (x : Bool) → 0 < c → code_of e ≡ 2 * c + cond x 1 0 → e ≡ present c x
code_only absent c x above h = absurd (omega arith)
code_only (present d y) c x above h = let same = code_parts d c y x h in rw (same.0, same.1)

-- a message in flight says what was due
flight_due : {n : ℕ} {cut : List Event} (later past : List Event) {m i j : ℕ} → cut ≡ later ++ (send i j m ∷ past) → Sound n cut → Flying m i j cut (length past)
    → (k c : ℕ) (x : Bool) → (((barn Short cut).state.letter m).entry k ≡ present c x) ↔ Due columns past i j k c x
unfolding barn
flight_due later past parts ok flies k c x = rw parts (flight_exactly later past (rw parts at ok) (rw parts at flies) k c x)

module _ {log : List ℕ} {n : ℕ} {cut : List Event} {report counts' words' mail' report' : List ℕ} {r : Answer}
    (done : Completed Short log n cut report counts' words' mail' report' r) where
  -- After a run with short messages, each message in flight lies in a slot, and it carries node k's count c there, with flag x,
  -- exactly if that was due when it was sent, after the cut `past`.
  pub mail_due : {m i j p : ℕ} → Flying m i j cut p
      → (s : ℕ) × (later past : List Event) × (cut ≡ later ++ (send i j m ∷ past)) × (p ≡ length past) × Lies mail' s i j m
      × ((k c : ℕ) (x : Bool) → k < n → 0 < c → EntryAt mail' s k c x ↔ Due columns past i j k c x)
  mail_due {m} {i} {j} {p} flies =
      let (s, few, there) = flying_lies (row_lawful done.accepted_is) flies in
      let (later, past, parts, place) = flying_parts flies in
      (s, later, past, parts, place, mail_lies done s few (message m i j p) there, go s few there later past parts place)
    where
      go : (s : ℕ) → s < 128 → slot_at (slots cut) s ≡ some (message m i j p) → (later past : List Event) → cut ≡ later ++ (send i j m ∷ past) → p ≡ length past
          → (k c : ℕ) (x : Bool) → k < n → 0 < c → EntryAt mail' s k c x ↔ Due columns past i j k c x
      go s few there later past parts place k c x below above =
          let entry = mail_entry done s few (message m i j p) there k below in
          let due = flight_due later past parts (row_lawful done.accepted_is).sound (rw place at flies) k c x in
          (λ b. due.0 (code_only _ c x above (sym entry ∙ b)), λ d. entry ∙ ap code_of (due.1 d))
