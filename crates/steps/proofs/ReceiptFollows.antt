-- A receipt follows the machine: the letter in its slot is the machine's, each cell takes its entry as the machine does, and the
-- slot is then free.
-- Assumes nothing.
use mathlib.Core.Path.{◌≡◌, refl, ap, ◌∙◌, fun_ext}
use mathlib.Core.Logic.{◌≢◌}
use mathlib.Core.Bool.{◌&&◌, cond}
use mathlib.Core.Option.{none, some}
use mathlib.Core.List.{List, ◌∷◌}
use Prim.Native.Nat.{ℕ, suc, ◌+◌, ◌-◌, ◌*◌, ◌^◌, ◌<◌}
use native.Mathlib.Decide.{dec_lt}
use native.Mathlib.Omega.{arith}
use lib.Dec.{ltb}
use lib.ListN.{length, get_or}
use borrow.Author.Tests.{lt-ltb, le-ltb, eq-eqb, ne_eqb}
use Rattle.order.specs.Order.{Event, receipt}
use Rattle.machine.specs.Machine.{Letter, State, take_count, take_flag, received, step}
use Rattle.machine.specs.Short.{short, note, learn_columns}
use Rattle.machine.proofs.Letters.{truthful}
use Rattle.bits.specs.Bits.{bit}
use Rattle.room.specs.declared.Mode.{Mode}
use Rattle.cells.specs.declared.Cell.{Cell}
use Rattle.room.specs.Modes.{knowledge}
use Rattle.room.specs.Slots.{Slot, slot_at, bears, slots}
use Rattle.cells.specs.Cells.{entry_of, merged}
use Rattle.room.specs.Room.{barn, flag_at, column_at, element}
use Rattle.steps.specs.Steps.{held, Received, Ready, Follows}
use Rattle.room.proofs.Slots.{vacate_at, slot_once}
use Rattle.cells.proofs.Entries.{code_decoded, note_bits, note_below}
use Rattle.room.proofs.Bounded.{letter_bound}
use Rattle.steps.proofs.RowsFollow.{Shows, OnlyRow, rows_follow}
use Rattle.steps.proofs.LettersFollow.{letters_follow}
use Rattle.steps.proofs.Ready.{ready_nodes, ready_node, ready_slot, ready_letter, ready_from}

module _ {mode : Mode} {n : ℕ} {cut : List Event} {i m slot : ℕ} {counts words mail : List ℕ}
    (ready : Ready mode n cut (receipt i m) slot counts words mail) where
  -- the machine's state, and the letter that is received
  abbrev state : State
  state = (barn mode cut).state

  abbrev letter : Letter
  letter = state.letter m

  -- its sender, as the slot names it
  received_sender : (get_or mail (35 * slot) 0 - 1 ≡ letter.from) × (letter.from < n)
  unfolding barn
  received_sender =
      let l = ready_letter ready in
      let from = (truthful (knowledge mode) cut m l.0 i l.1 l.2).0 in
      omega (arith, ready_from ready)

  -- its entry for k, as the slot has it
  received_entry : (k : ℕ) → k < n → entry_of (get_or mail (35 * slot + 3 + k) 0) ≡ letter.entry k
  unfolding barn element
  received_entry k h =
      let place : 35 * slot + suc (suc (suc k)) ≡ 35 * slot + 3 + k = omega arith in
      let laid = ready.holds.letters.laid slot (suc (suc (suc k))) (ready_slot ready) (omega arith) in
      rw (rw (place, (ready_letter ready).4, lt-ltb k n h) at laid) (code_decoded _ (λ c x e. (letter_bound (knowledge mode) cut m k c x e).0))

  -- a cell after the receipt
  received_cell : {counts' words' mail' : List ℕ} → Received n i slot counts words mail counts' words' mail'
      → (k : ℕ) → k < n → held n counts' words' i k ≡ merged (2 ^ letter.from) (letter.entry k) (held n counts words i k)
  received_cell got k h = got.cells k h ∙ rw (received_sender.0, received_entry k h)

  -- node i's row is then the machine's
  received_shows : {counts' words' mail' : List ℕ} → Received n i slot counts words mail counts' words' mail'
      → Shows n i (λ k. take_count (state.count i k) (letter.entry k)) (λ k. take_flag (state.count i k) (state.flag i k) (letter.entry k))
      (λ k. note letter.from (state.count i k) (letter.entry k) ((barn mode cut).known i k)) counts' words'
  unfolding merged
  received_shows {words' = words'} got =
      let rows = ready.holds.rows in
      let inside = ready_node ready in
      record {
        counted = λ k h. ap (λ (x : Cell). x.count) (received_cell got k h) ∙ rw (rows.counted i k inside h);
        flagged = λ k. go k (dec_lt k n);
        noted =
            λ k j h. ap (λ (x : Cell). bit x.column j) (received_cell got k h) ∙ note_bits letter.from _ _ (column_at n words i k) j
            ∙ rw (rows.counted i k inside h, fun_ext (λ t. rows.noted i k t inside h)) (note_below n _ _ _ _ j received_sender.1);
      }
    where
      go : (k : ℕ) → Dec (k < n) → flag_at words' i k ≡ (ltb k n && take_flag (state.count i k) (state.flag i k) (letter.entry k))
      go k (yes h) =
          ap (λ (x : Cell). x.direct) (received_cell got k h)
          ∙ rw (ready.holds.rows.counted i k (ready_node ready) h, ready.holds.rows.flagged i k (ready_node ready), lt-ltb k n h)
      go k (no h) = got.flags_above k (omega arith) ∙ ready.holds.rows.flagged i k (ready_node ready) ∙ rw (le-ltb k n (omega arith))

  -- the letter's slot is free
  slot_free : slot_at (slots (receipt i m ∷ cut)) slot ≡ none
  unfolding slots
  slot_free = vacate_at m (slots cut) slot ∙ rw ((ready_letter ready).4, eq-eqb m m refl)

  -- and the others are as they were
  slot_kept : (t : ℕ) → t ≢ slot → slot_at (slots (receipt i m ∷ cut)) t ≡ slot_at (slots cut) t
  unfolding slots
  slot_kept t d = vacate_at m (slots cut) t ∙ go (slot_at (slots cut) t) refl
    where
      go : (x : Slot) → slot_at (slots cut) t ≡ x → cond (bears m x) none x ≡ x
      go none e = refl
      go (some y) e = rw (ne_eqb y.number m (λ same. d (slot_once cut e (ready_letter ready).4 same)))

-- a receipt takes its letter as the machine does
pub received_follows : (n i slot : ℕ) (counts words mail counts' words' mail' : List ℕ) → Received n i slot counts words mail counts' words' mail'
    → length counts' ≡ length counts → length words' ≡ length words → length mail' ≡ length mail
    → (mode : Mode) (m : ℕ) → Follows mode n (receipt i m) slot counts words mail counts' words' mail' 0
unfolding barn short step learn_columns received element
received_follows n i slot counts words mail counts' words' mail' got counts_size words_size mail_size mode m cut ready =
    let few = (ready_nodes ready).1 in
    let only : OnlyRow n i counts words counts' words' =
    record { counts_size = counts_size; words_size = words_size; counts_else = got.counts_else; words_else = got.words_else } in (
      record {
        rows = rows_follow few (ready_node ready) ready.holds.rows only (received_shows ready got) _ _;
        letters =
            letters_follow few (ready_slot ready) ready.holds.letters mail_size got.mail_else
            (λ x h. rw (slot_free ready) (got.freed x h)) (λ t x d. rw (slot_kept ready t d));
      },
      refl,
    )
