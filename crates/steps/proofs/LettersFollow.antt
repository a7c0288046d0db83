-- A step that changes one slot of the mail: the new mail holds the new letters, if the slot does and the other slots hold what
-- they held, since the places of two slots do not meet and a slot is zero behind its last entry.
-- Assumes nothing.
use mathlib.Core.Path.{◌≡◌, refl, sym, ◌∙◌}
use mathlib.Core.Logic.{◌≢◌, inr}
use mathlib.Core.Option.{none, some}
use mathlib.Core.List.{List}
use Prim.Native.Nat.{ℕ, zero, suc, ◌+◌, ◌*◌, ◌<◌, ◌≤◌}
use native.Mathlib.Decide.{ℕ_discrete, dec_lt}
use native.Mathlib.Omega.{arith}
use lib.ListN.{length, get_or}
use borrow.Author.Tests.{le-ltb}
use Rattle.order.specs.Flight.{Message}
use Rattle.machine.specs.Machine.{Letter}
use Rattle.room.specs.Slots.{Slot, slot_at}
use Rattle.room.specs.Room.{Barn, element, Letters, Outside}
use Rattle.room.proofs.Places.{other_slot}

-- behind the entries of the n nodes a slot is zero
element_above : (n : ℕ) (letter : ℕ → Letter) (slot : Slot) (x : ℕ) → 3 + n ≤ x → element n letter slot x ≡ 0
unfolding element
element_above n letter none x h = refl
element_above n letter (some m) zero h = absurd (omega arith)
element_above n letter (some m) (suc zero) h = absurd (omega arith)
element_above n letter (some m) (suc (suc zero)) h = absurd (omega arith)
element_above n letter (some m) (suc (suc (suc k))) h = rw (le-ltb k n (omega arith))

-- a slot shows of the letters only the one whose number it bears
pub element_same : (n : ℕ) (letter letter' : ℕ → Letter) (slot : Slot) → ((y : Message) → slot ≡ some y → letter' y.number ≡ letter y.number)
    → (x : ℕ) → element n letter' slot x ≡ element n letter slot x
unfolding element
element_same n letter letter' none same x = refl
element_same n letter letter' (some y) same zero = refl
element_same n letter letter' (some y) same (suc zero) = refl
element_same n letter letter' (some y) same (suc (suc zero)) = refl
element_same n letter letter' (some y) same (suc (suc (suc k))) = rw (same y refl)

-- a step that changes one slot
pub letters_follow : {n slot : ℕ} {b b' : Barn} {mail mail' : List ℕ} → n ≤ 32 → slot < 128 → Letters n b mail → length mail' ≡ length mail
    → ((p : ℕ) → Outside (35 * slot) (3 + n) p → get_or mail' p 0 ≡ get_or mail p 0)
    → ((x : ℕ) → x < 3 + n → get_or mail' (35 * slot + x) 0 ≡ element n b'.state.letter (slot_at b'.mail slot) x)
    → ((t x : ℕ) → t ≢ slot → element n b'.state.letter (slot_at b'.mail t) x ≡ element n b.state.letter (slot_at b.mail t) x)
    → Letters n b' mail'
letters_follow {n} {slot} {b} {b'} {mail' = mail'} few inside letters size mail_else new other =
    record { mail_size = size ∙ letters.mail_size; laid = λ t x h l. go t x h l (ℕ_discrete t slot) (dec_lt x (3 + n)) }
  where
    go : (t x : ℕ) → t < 128 → x < 35 → Dec (t ≡ slot) → Dec (x < 3 + n)
        → get_or mail' (35 * t + x) 0 ≡ element n b'.state.letter (slot_at b'.mail t) x
    go t x h l (yes e) (yes k) = rw e (new x k)
    go t x h l (yes e) (no k) =
        rw e
        (mail_else (35 * slot + x) (inr (omega arith)) ∙ letters.laid slot x inside l ∙ element_above n _ (slot_at b.mail slot) x (omega arith)
        ∙ sym (element_above n _ (slot_at b'.mail slot) x (omega arith)))
    go t x h l (no d) k = mail_else (35 * t + x) (other_slot slot t x (3 + n) d l (omega arith)) ∙ letters.laid t x h l ∙ sym (other t x d)
