-- A state has one room: what `Holds` says of each place of the three slices leaves no choice.
-- Assumes nothing.
use mathlib.Core.Path.{◌≡◌, refl, sym, ◌∙◌, ap}
use mathlib.Core.Bool.{Bool, ◌&&◌}
use mathlib.Core.List.{List}
use Prim.Native.Nat.{ℕ, ◌+◌, ◌-◌, ◌*◌, ◌/◌, ◌%◌, ◌<◌}
use native.Mathlib.Decide.{dec_lt}
use native.Mathlib.Omega.{arith}
use lib.Dec.{ltb}
use lib.ListN.{length, get_or}
use lib.Seq.{ext_get_or}
use Rattle.bits.proofs.Laws.{same_bits}
use Rattle.room.specs.Room.{Barn, Rows, Letters, Holds}
use Rattle.room.proofs.Places.{row_of}

-- rooms whose states have the same counts have the same rows of counts, and with the same flags the same words of flags
module _ {n : ℕ} {b b₂ : Barn} {c w c' w' : List ℕ} (r : Rows n b c w) (s : Rows n b₂ c' w') where
  pub same_counts : ((i k : ℕ) → b.state.count i k ≡ b₂.state.count i k) → c ≡ c'
  same_counts same = ext_get_or 0 c c' (r.counts_size ∙ sym s.counts_size) (λ p l. go p (dec_lt p (n * n)))
    where
      go : (p : ℕ) → Dec (p < n * n) → get_or c p 0 ≡ get_or c' p 0
      go p (yes h) =
          let (i, k, below, left, here) = row_of n p h in
          rw here (r.counted i k below left ∙ same i k ∙ sym (s.counted i k below left))
      go p (no h) = r.counts_rest p (omega arith) ∙ sym (s.counts_rest p (omega arith))

  pub same_flags : ((i k : ℕ) → b.state.flag i k ≡ b₂.state.flag i k) → (i : ℕ) → i < 32 → get_or w i 0 ≡ get_or w' i 0
  same_flags same i few = go (dec_lt i n)
    where
      go : Dec (i < n) → get_or w i 0 ≡ get_or w' i 0
      go (yes h) =
          same_bits (get_or w i 0) (get_or w' i 0)
          (λ k. r.flagged i k h ∙ ap (λ (f : Bool). ltb k n && f) (same i k) ∙ sym (s.flagged i k h))
      go (no h) = r.flags_rest i (omega arith) few ∙ sym (s.flags_rest i (omega arith) few)

-- and a state has one room
module _ {n : ℕ} {b : Barn} {c w c' w' : List ℕ} (r : Rows n b c w) (s : Rows n b c' w') where
  same_columns : (p : ℕ) → get_or w (32 + p) 0 ≡ get_or w' (32 + p) 0
  same_columns p = go (dec_lt p (n * n))
    where
      go : Dec (p < n * n) → get_or w (32 + p) 0 ≡ get_or w' (32 + p) 0
      go (yes h) =
          let (i, k, below, left, here) = row_of n p h in
          let there : 32 + p ≡ 32 + n * i + k = omega arith in
          rw there (same_bits _ _ (λ j. r.noted i k j below left ∙ sym (s.noted i k j below left)))
      go (no h) = r.words_rest (32 + p) (omega arith) ∙ sym (s.words_rest (32 + p) (omega arith))

  same_words : w ≡ w'
  same_words = ext_get_or 0 w w' (r.words_size ∙ sym s.words_size) (λ p l. go p (dec_lt p 32))
    where
      go : (p : ℕ) → Dec (p < 32) → get_or w p 0 ≡ get_or w' p 0
      go p (yes h) = same_flags r s (λ i k. refl) p h
      go p (no h) = let there : p ≡ 32 + (p - 32) = omega arith in rw there (same_columns (p - 32))

same_mail : {n : ℕ} {b : Barn} {m m' : List ℕ} → Letters n b m → Letters n b m' → m ≡ m'
same_mail {m = m} {m' = m'} r s = ext_get_or 0 m m' (r.mail_size ∙ sym s.mail_size) same
  where
    same : (p : ℕ) → p < length m → get_or m p 0 ≡ get_or m' p 0
    same p l =
        let few : p / 35 < 128 = omega arith in
        let left : p % 35 < 35 = omega arith in
        let there : p ≡ 35 * (p / 35) + p % 35 = omega arith in
        rw there (r.laid (p / 35) (p % 35) few left ∙ sym (s.laid (p / 35) (p % 35) few left))

pub one_room : {n : ℕ} {b : Barn} {c w m c' w' m' : List ℕ} → Holds n b c w m → Holds n b c' w' m' → (c ≡ c') × (w ≡ w') × (m ≡ m')
one_room h l = (same_counts h.rows l.rows (λ i k. refl), same_words h.rows l.rows, same_mail h.letters l.letters)
