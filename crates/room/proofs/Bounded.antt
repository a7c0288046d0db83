-- No count, in a node or in a letter, is above the number of events, and no letter carries a count of zero: by induction on
-- the cut, since an event raises no count by more than one. For any knowledge.
-- Assumes nothing.
use mathlib.Core.Path.{◌≡◌, refl}
use mathlib.Core.Bool.{Bool}
use mathlib.Core.List.{List, [], ◌∷◌}
use Prim.Native.Nat.{ℕ, suc, ◌<◌, ◌≤◌}
use native.Mathlib.Omega.{arith}
use lib.ListN.{length}
use Rattle.order.specs.Order.{Event, idle, mark, send, receipt}
use Rattle.machine.specs.Machine.{put, Entry, absent, present, Letter, State, start, marked, take_count, received, step}
use Rattle.machine.specs.Short.{Knowledge, brief, short}
use Rattle.verdict.specs.Lawful.{Lawful}
use Rattle.cells.specs.Cells.{code_of}
use Rattle.cells.proofs.Entries.{code_bound}
use Rattle.room.specs.declared.Mode.{Mode}
use Rattle.room.specs.Modes.{knowledge}
use Rattle.room.specs.Room.{barn}
use Rattle.machine.proofs.Small.{absent_present, put_cases, offer_present}

-- an entry that is carried has a count from 1 to b
abbrev UpTo : ℕ → Entry → Type 0
UpTo b e = (c : ℕ) (x : Bool) → e ≡ present c x → (0 < c) × (c ≤ b)

-- no count of the state is above b, nor that of a letter, and a letter carries no count of zero
record Bounded (b : ℕ) (s : State) : Type 0 where
  counts : (i k : ℕ) → s.count i k ≤ b
  letters : (m k : ℕ) → UpTo b ((s.letter m).entry k)

-- a receipt keeps the bound
take_bound : {b : ℕ} (c : ℕ) (e : Entry) → c ≤ b → UpTo b e → take_count c e ≤ b
unfolding take_count
take_bound c absent few h = few
take_bound c (present d y) few h = omega (arith, (h d y refl).1)

-- a larger bound serves too
entry_kept : {b : ℕ} (e : Entry) → UpTo b e → UpTo (suc b) e
entry_kept e h c x q = let l = h c x q in (l.0, omega arith)

-- an event raises the bound by at most one
module _ {b : ℕ} {s : State} (g : Bounded b s) where
  counts_kept : (i k : ℕ) → s.count i k ≤ suc b
  counts_kept i k = omega (arith, g.counts i k)

  letters_kept : (m k : ℕ) → UpTo (suc b) ((s.letter m).entry k)
  letters_kept m k = entry_kept ((s.letter m).entry k) (g.letters m k)

  bounded_step : (says : ℕ → ℕ → ℕ → Entry) (e : Event) → ((i j k : ℕ) → UpTo b (says i j k)) → Bounded (suc b) (step says e s)
  unfolding step marked received
  bounded_step says (idle i) h = record { counts = counts_kept; letters = letters_kept }
  bounded_step says (mark i) h =
      record {
        counts = λ j k. put_cases (λ (row : ℕ → ℕ). row k ≤ suc b) i (put i (suc (s.count i i)) (s.count i)) s.count j
            (λ here. put_cases (λ c. c ≤ suc b) i (suc (s.count i i)) (s.count i) k (λ own. omega (arith, g.counts i i)) (λ other. counts_kept i k))
            (λ other. counts_kept j k);
        letters = letters_kept;
      }
  bounded_step says (send i j m) h =
      record {
        counts = counts_kept;
        letters = λ l k. put_cases (λ (letter : Letter). UpTo (suc b) (letter.entry k)) m (record { from = i; entry = says i j }) s.letter l
            (λ here. entry_kept (says i j k) (h i j k)) (λ other. letters_kept l k);
      }
  bounded_step says (receipt i m) h =
      record {
        counts = λ j k. put_cases (λ (row : ℕ → ℕ). row k ≤ suc b) i (λ k. take_count (s.count i k) ((s.letter m).entry k)) s.count j
            (λ here. take_bound (s.count i k) ((s.letter m).entry k) (counts_kept i k) (letters_kept m k)) (λ other. counts_kept j k);
        letters = letters_kept;
      }

bounded : (K : Knowledge) (es : List Event) → Bounded (length es) (short K es).state
unfolding short start brief
bounded K [] = record { counts = λ i k. omega arith; letters = λ m k c x h. absent_present h }
bounded K (e ∷ past) =
    let g = bounded K past in
    bounded_step g (brief (short K past)) e (λ i j k c x h. let o = offer_present _ _ _ h in (o.2, omega (arith, g.counts i k)))

-- no count is above the number of events
pub count_bound : (K : Knowledge) (es : List Event) (i k : ℕ) → (short K es).state.count i k ≤ length es
count_bound K es = (bounded K es).counts

-- nor is a letter's, which is not zero
pub letter_bound : (K : Knowledge) (es : List Event) (m k c : ℕ) (x : Bool) → ((short K es).state.letter m).entry k ≡ present c x → (0 < c) × (c ≤ length es)
letter_bound K es = (bounded K es).letters

-- so an entry of a letter, as a number, is at most 8193
pub entry_most : (mode : Mode) {n : ℕ} {cut : List Event} → Lawful n cut → (m k : ℕ) → code_of (((barn mode cut).state.letter m).entry k) ≤ 8193
unfolding barn
entry_most mode {cut = cut} l m k =
    let most = code_bound (((short (knowledge mode) cut).state.letter m).entry k) (length cut) (λ c x e. (letter_bound (knowledge mode) cut m k c x e).1) in
    omega arith
