-- A send follows the machine: its letter takes the lowest free slot and says of each cell what the machine says, in each mode.
-- Assumes nothing.
use mathlib.Core.Path.{◌≡◌, sym, ap, ◌∙◌}
use mathlib.Core.Logic.{◌≢◌}
use mathlib.Core.Bool.{◌&&◌}
use mathlib.Core.Option.{some}
use mathlib.Core.List.{List, ◌∷◌}
use Prim.Native.Nat.{ℕ, zero, suc, ◌+◌, ◌*◌, ◌<◌}
use native.Mathlib.Nat.{add-zero}
use native.Mathlib.Omega.{arith}
use lib.Dec.{ltb}
use lib.ListN.{length, get_or}
use borrow.Author.Tests.{lt-ltb, eqb-false}
use Rattle.order.specs.Order.{Event, send, Allowed}
use Rattle.order.specs.Flight.{Message}
use Rattle.order.proofs.Flight.{message}
use Rattle.machine.specs.Machine.{put, Letter, step}
use Rattle.machine.specs.Short.{brief, short, learn_columns}
use Rattle.machine.specs.Answer.{entries}
use Rattle.machine.proofs.Small.{put_same, put_other}
use Rattle.bits.specs.Bits.{bit, meets}
use Rattle.bits.proofs.Laws.{meets_none, meets_one}
use Rattle.room.specs.declared.Mode.{Mode}
use Rattle.room.specs.declared.Mode.TheVariants.{Full, Short}
use Rattle.room.specs.Modes.{sparing, knowledge, says, spared_bits}
use Rattle.room.specs.Slots.{slot_at, slots}
use Rattle.cells.specs.Cells.{code_of, said_of}
use Rattle.room.specs.Room.{barn, column_at, element, Holds}
use Rattle.steps.specs.Steps.{held, Posted, sent_entries, Sent, Ready, Follows}
use Rattle.room.proofs.Slots.{fill_at, slots_sent, no_bearer}
use Rattle.verdict.proofs.Lawfully.{lawful_allowed}
use Rattle.cells.proofs.Entries.{entries_same}
use Rattle.room.proofs.BothModes.{full_says, short_says}
use Rattle.steps.proofs.LettersFollow.{element_same, letters_follow}
use Rattle.steps.proofs.Ready.{ready_nodes, ready_slot}

module _ {mode : Mode} {n : ℕ} {cut : List Event} {i j m slot : ℕ} {counts words mail : List ℕ}
    (ready : Ready mode n cut (send i j m) slot counts words mail) where
  -- the message, the letters once it is sent, and that it may be sent
  abbrev posted : Message
  posted = message m i j (length cut)

  abbrev letters : ℕ → Letter
  letters = (barn mode (send i j m ∷ cut)).state.letter

  allowed : Allowed n cut (send i j m)
  allowed = lawful_allowed ready.lawful

  -- the bit of a column that is looked at, in each mode
  spared_same : (k : ℕ) → k < n → meets (column_at n words i k) (spared_bits mode j) ≡ (sparing mode && (barn mode cut).known i k j)
  spared_same k l = go mode (λ t. ready.holds.rows.noted i k t allowed.0 l)
    where
      go : (way : Mode) → ((t : ℕ) → bit (column_at n words i k) t ≡ (ltb t n && (barn mode cut).known i k t))
          → meets (column_at n words i k) (spared_bits way j) ≡ (sparing way && (barn mode cut).known i k j)
      go Full noted = meets_none (column_at n words i k)
      go Short noted = meets_one (column_at n words i k) j ∙ noted j ∙ rw (lt-ltb j n allowed.1)

  -- what is said of a cell of i is what the machine says of it
  said_same : (k : ℕ) → k < n → said_of (spared_bits mode j) (held n counts words i k) ≡ brief (short (knowledge mode) cut) i j k
  unfolding barn said_of brief
  said_same k l =
      let rows = ready.holds.rows in
      rw (rows.counted i k allowed.0 l, rows.flagged i k allowed.0, lt-ltb k n l, spared_same k l)

  -- what a slot has after the send
  slot_sent : (t : ℕ) → slot_at (slots (send i j m ∷ cut)) t ≡ put slot (some posted) (slot_at (slots cut)) t
  slot_sent t = rw (slots_sent allowed, ready.place) (fill_at posted (slots cut) t)

  -- the letter's slot
  sent_new : {mail' : List ℕ} → Posted n i j m slot (spared_bits mode j) counts words mail mail'
      → (x : ℕ) → x < 3 + n → get_or mail' (35 * slot + x) 0 ≡ element n letters (slot_at (slots (send i j m ∷ cut)) slot) x
  unfolding barn short step element
  sent_new {mail'} sent x h = rw (slot_sent slot, put_same slot (some posted) (slot_at (slots cut))) (go x h)
    where
      go : (x : ℕ) → x < 3 + n → get_or mail' (35 * slot + x) 0 ≡ element n letters (some posted) x
      go zero h = rw (add-zero (35 * slot)) sent.from
      go (suc zero) h = sent.to
      go (suc (suc zero)) h = sent.number
      go (suc (suc (suc k))) h =
          let inside : k < n = omega arith in
          let place : 35 * slot + suc (suc (suc k)) ≡ 35 * slot + 3 + k = omega arith in
          rw (place, lt-ltb k n inside, put_same m _ (short (knowledge mode) cut).state.letter) (sent.written k inside ∙ ap code_of (said_same k inside))

  -- no other slot has a letter of this number
  number_new : (t : ℕ) (y : Message) → slot_at (slots cut) t ≡ some y → m ≢ y.number
  number_new t y e same = eqb-false y.number m (rw e at (no_bearer allowed.3 t)) (sym same)

  -- and so the others show what they showed
  sent_other : (t x : ℕ) → t ≢ slot
      → element n letters (slot_at (slots (send i j m ∷ cut)) t) x ≡ element n (barn mode cut).state.letter (slot_at (slots cut) t) x
  unfolding barn short step
  sent_other t x d =
      rw (slot_sent t, put_other slot (some posted) (slot_at (slots cut)) t (λ e. d (sym e)))
      (element_same n _ _ (slot_at (slots cut) t) (λ y e. put_other m _ _ y.number (number_new t y e)) x)

  -- the slices hold the machine's state with the letter
  sent_holds : {mail' : List ℕ} → Posted n i j m slot (spared_bits mode j) counts words mail mail' → length mail' ≡ length mail
      → Holds n (barn mode (send i j m ∷ cut)) counts words mail'
  unfolding barn short step learn_columns
  sent_holds sent size =
      let rows = ready.holds.rows in
      record {
        rows =
            record {
              counts_size = rows.counts_size;
              words_size = rows.words_size;
              counted = rows.counted;
              flagged = rows.flagged;
              noted = rows.noted;
              counts_rest = rows.counts_rest;
              flags_rest = rows.flags_rest;
              words_rest = rows.words_rest;
            };
        letters = letters_follow (ready_nodes ready).1 (ready_slot ready) ready.holds.letters size sent.mail_else (sent_new sent) sent_other;
      }

-- as many entries are counted as the machine counts
sent_carried : (mode : Mode) {n : ℕ} {cut : List Event} {i j m slot : ℕ} {counts words mail : List ℕ}
    → Ready mode n cut (send i j m) slot counts words mail → sent_entries mode n i j counts words ≡ entries n (says mode cut i j)
sent_carried Full {n} {cut} {i} {j} ready = sym (full_says n cut i j)
sent_carried Short {n} {cut} {i} {j} ready = entries_same n _ _ (said_same ready) ∙ sym (short_says n cut i j)

-- a send follows the machine, in either mode
pub sent_follows : {mode : Mode} {n i j m slot : ℕ} {counts words mail mail' : List ℕ} {carried : ℕ}
    → Sent mode n i j m slot counts words mail mail' carried → length mail' ≡ length mail
    → Follows mode n (send i j m) slot counts words mail counts words mail' carried
sent_follows {mode} sent size cut ready = (sent_holds ready sent.posted size, sent.counted ∙ sent_carried mode ready)
