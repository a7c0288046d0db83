-- A step that changes one node's row and nothing else of the rows: the new rows hold the state with that row put in, since
-- the places of two nodes' rows do not meet.
-- Assumes nothing.
use mathlib.Core.Path.{◌≡◌, sym, ◌∙◌}
use mathlib.Core.Logic.{◌≢◌, inl, inr, ⊎_elim}
use mathlib.Core.Bool.{Bool, ◌&&◌}
use mathlib.Core.List.{List}
use Prim.Native.Nat.{ℕ, ◌+◌, ◌*◌, ◌<◌, ◌≤◌}
use native.Mathlib.Omega.{arith}
use lib.Dec.{ltb}
use lib.ListN.{length, get_or}
use Rattle.machine.specs.Machine.{put, Letter}
use Rattle.machine.proofs.Small.{put_cases}
use Rattle.bits.specs.Bits.{bit}
use Rattle.room.specs.Slots.{Slot}
use Rattle.room.specs.Room.{Barn, count_at, flag_at, column_at, Rows, Outside}
use Rattle.room.proofs.Places.{row_fits, other_row}

-- node i's row, flags and columns show these counts, flags and bits
pub record Shows (n i : ℕ) (count : ℕ → ℕ) (flag : ℕ → Bool) (column : ℕ → ℕ → Bool) (counts words : List ℕ) : Type 0 where
  pub counted : (k : ℕ) → k < n → count_at n counts i k ≡ count k
  pub flagged : (k : ℕ) → flag_at words i k ≡ (ltb k n && flag k)
  pub noted : (k j : ℕ) → k < n → bit (column_at n words i k) j ≡ (ltb j n && column k j)

-- the slices are as they were, but for node i's row, flags and columns
pub record OnlyRow (n i : ℕ) (counts words counts' words' : List ℕ) : Type 0 where
  pub counts_size : length counts' ≡ length counts
  pub words_size : length words' ≡ length words
  pub counts_else : (p : ℕ) → Outside (n * i) n p → get_or counts' p 0 ≡ get_or counts p 0
  pub words_else : (p : ℕ) → p ≢ i → Outside (32 + n * i) n p → get_or words' p 0 ≡ get_or words p 0

-- b with this row put in for node i, whatever its letters and slots
abbrev pub with_row : ℕ → (ℕ → ℕ) → (ℕ → Bool) → (ℕ → ℕ → Bool) → (ℕ → Letter) → List Slot → Barn → Barn
with_row i count flag column letter mail b =
    record {
      state = record { count = put i count b.state.count; flag = put i flag b.state.flag; letter = letter };
      known = put i column b.known;
      mail = mail;
    }

-- the columns of another node
other_columns : (n i o k : ℕ) → o ≢ i → k < n → Outside (32 + n * i) n (32 + n * o + k)
other_columns n i o k d h = ⊎_elim (λ l. inl (omega arith)) (λ l. inr (omega arith)) (other_row n i o k d h)

-- a step that changes one node's row
pub rows_follow : {n i : ℕ} {b : Barn} {counts words counts' words' : List ℕ} {count : ℕ → ℕ} {flag : ℕ → Bool} {column : ℕ → ℕ → Bool}
    → n ≤ 32 → i < n → Rows n b counts words → OnlyRow n i counts words counts' words' → Shows n i count flag column counts' words'
    → (letter : ℕ → Letter) (mail : List Slot) → Rows n (with_row i count flag column letter mail b) counts' words'
rows_follow {n} {i} {b} {counts' = counts'} {words' = words'} {count} {flag} {column} few inside rows rest row letter mail =
    record {
      counts_size = rest.counts_size ∙ rows.counts_size;
      words_size = rest.words_size ∙ rows.words_size;
      counted =
          λ o k h l. put_cases (λ f. count_at n counts' o k ≡ f k) i count b.state.count o (λ e. rw (← e) (row.counted k l))
          (λ d. rest.counts_else _ (other_row n i o k (λ e. d (sym e)) l) ∙ rows.counted o k h l);
      flagged =
          λ o k h. put_cases (λ f. flag_at words' o k ≡ (ltb k n && f k)) i flag b.state.flag o (λ e. rw (← e) (row.flagged k))
          (λ d. rw (rest.words_else o (λ e. d (sym e)) (inl (omega arith))) (rows.flagged o k h));
      noted =
          λ o k j h l. put_cases (λ f. bit (column_at n words' o k) j ≡ (ltb j n && f k j)) i column b.known o (λ e. rw (← e) (row.noted k j l))
          (λ d. rw (rest.words_else (32 + n * o + k) (λ e. omega arith) (other_columns n i o k (λ e. d (sym e)) l)) (rows.noted o k j h l));
      counts_rest = λ p h. rest.counts_else p (inr (omega (arith, row_fits n i inside))) ∙ rows.counts_rest p h;
      flags_rest = λ o h l. rest.words_else o (λ e. omega arith) (inl (omega arith)) ∙ rows.flags_rest o h l;
      words_rest = λ p h. rest.words_else p (λ e. omega arith) (inr (omega (arith, row_fits n i inside))) ∙ rows.words_rest p h;
    }
