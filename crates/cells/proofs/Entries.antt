-- Entries as numbers, what an entry makes of a cell, and columns as words: each by the cases of its tests.
-- Assumes nothing.
use mathlib.Core.Path.{◌≡◌, refl, sym, ◌∙◌, ap, ap₂}
use mathlib.Core.Logic.{◌≢◌}
use mathlib.Core.Bool.{Bool, true, false, ◌&&◌, cond, and-false}
use Prim.Native.Nat.{ℕ, zero, suc, ◌+◌, ◌*◌, ◌/◌, ◌%◌, ◌^◌, ◌<◌, ◌≤◌}
use native.Mathlib.Omega.{arith}
use borrow.Author.Tests.{ne_eqb, lt-ltb}
use lib.Dec.{eqb, ltb}
use lib.Bits.{bit_or}
use Rattle.bits.specs.Bits.{bit}
use Rattle.bits.proofs.Laws.{bit_one, bit_or_one, digit_small}
use Rattle.machine.specs.Machine.{put, Entry, absent, present, take_count, take_flag, meet}
use Rattle.machine.specs.Short.{note}
use Rattle.machine.specs.Answer.{weight, entries}
use Rattle.machine.proofs.Small.{put_cases, put_both}
use Rattle.cells.specs.declared.Cell.{Cell}
use Rattle.std.proofs.lemmas.Bool.Decides.{nat_tests}
use Rattle.cells.specs.Cells.{code_of, entry_of, note_word, merged}

-- ---- entries as numbers

-- a flag as a digit is found again
digit_decoded : (x : Bool) → eqb (cond x 1 0) 1 ≡ x
digit_decoded true = refl
digit_decoded false = refl

-- an entry that carries no count of zero is found again in its number
pub code_decoded : (e : Entry) → ((c : ℕ) (x : Bool) → e ≡ present c x → 0 < c) → entry_of (code_of e) ≡ e
code_decoded absent h = refl
code_decoded (present c x) h =
    let code : ℕ = 2 * c + cond x 1 0 in
    let some : code ≢ 0 = omega (arith, h c x refl) in
    let half : code / 2 ≡ c = omega (arith, digit_small x) in
    let rest : code % 2 ≡ cond x 1 0 = omega arith in
    rw (ne_eqb code 0 some, half, rest, digit_decoded x)

-- an entry's number is at most twice its count and one more
pub code_bound : (e : Entry) (b : ℕ) → ((c : ℕ) (x : Bool) → e ≡ present c x → c ≤ b) → code_of e ≤ 2 * b + 1
code_bound absent b h = omega arith
code_bound (present c x) b h = omega (arith, h c x refl, digit_small x)

-- ---- cells after an entry

pub merged_absent : (sender : ℕ) (x : Cell) → merged sender absent x ≡ x
unfolding merged note_word take_count take_flag
merged_absent sender x = refl

-- a larger count comes with its flag and its sender alone, an equal one leaves the lesser flag and adds its sender
pub merged_present : (sender c : ℕ) (y : Bool) (x : Cell) → merged sender (present c y) x
    ≡ cond (ltb x.count c) (record { count = c; column = sender; direct = y })
    (cond (ltb c x.count) x (record { count = x.count; column = bit_or x.column sender; direct = x.direct && y }))
unfolding merged note_word take_count take_flag meet
merged_present sender c y x = grind (arith, nat_tests)

-- ---- columns as words

-- the bits of a column's word after an entry are the machine's column after it
pub note_bits : (j c : ℕ) (e : Entry) (column l : ℕ) → bit (note_word (2 ^ j) c e column) l ≡ note j c e (bit column) l
unfolding note_word note put
note_bits j c absent column l = refl
note_bits j c (present d y) column l = go (ltb c d) (ltb d c)
  where
    one : (b : Bool) → b ≡ cond b true false
    one true = refl
    one false = refl

    go : (larger smaller : Bool) → bit (cond larger (2 ^ j) (cond smaller column (bit_or column (2 ^ j)))) l
        ≡ cond larger (put j true (λ l. false)) (cond smaller (bit column) (put j true (bit column))) l
    go true smaller = bit_one j l ∙ one (eqb j l)
    go false true = refl
    go false false = bit_or_one column j l

-- a column of bits below n, after an entry of a sender below n, has bits below n
pub note_below : (n j c : ℕ) (e : Entry) (column : ℕ → Bool) (l : ℕ) → j < n
    → note j c e (λ t. ltb t n && column t) l ≡ (ltb l n && note j c e column l)
unfolding note
note_below n j c absent column l h = refl
note_below n j c (present d y) column l h = go (ltb c d) (ltb d c)
  where
    low : ℕ → Bool
    low t = ltb t n && column t

    -- the sender's own bit
    own : j ≡ l → true ≡ (ltb l n && true)
    own e = rw (← e, lt-ltb j n h)

    go : (larger smaller : Bool) → cond larger (put j true (λ l. false)) (cond smaller low (put j true low)) l
        ≡ (ltb l n && cond larger (put j true (λ l. false)) (cond smaller column (put j true column)) l)
    go true smaller = put_cases (λ b. b ≡ (ltb l n && b)) j true (λ l. false) l own (λ other. sym (and-false (ltb l n)))
    go false true = refl
    go false false = put_both (λ a b. a ≡ (ltb l n && b)) j true low true column l own (λ other. refl)

-- ---- how many entries are carried

-- messages that say the same carry as many entries
pub entries_same : (n : ℕ) (f g : ℕ → Entry) → ((k : ℕ) → k < n → f k ≡ g k) → entries n f ≡ entries n g
unfolding entries
entries_same zero f g h = refl
entries_same (suc n) f g h = ap₂ ◌+◌ (entries_same n f g (λ k l. h k (omega arith))) (ap weight (h n (omega arith)))
