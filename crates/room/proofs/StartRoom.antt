-- A cleared room holds the barn before any event: all is zero in both.
-- Assumes nothing.
use mathlib.Core.Path.{◌≡◌, refl, sym, ◌∙◌}
use mathlib.Core.Bool.{false, ◌&&◌, and-false}
use mathlib.Core.List.{List, []}
use Prim.Native.Nat.{ℕ, zero, suc, ◌+◌, ◌*◌}
use lib.Dec.{ltb}
use lib.ListN.{length, get_or, replicate, length-replicate}
use Rattle.bits.specs.Bits.{bit}
use Rattle.bits.proofs.Laws.{bit_zero}
use Rattle.machine.specs.Machine.{start}
use Rattle.machine.specs.Short.{short}
use Rattle.room.specs.declared.Mode.{Mode}
use Rattle.room.specs.Slots.{slots}
use Rattle.room.specs.Room.{barn, element, Holds}

-- zeros are read as zero, and so is what lies behind their end
pub zeros_read : (size p : ℕ) → get_or {A = ℕ} (replicate size 0) p 0 ≡ 0
zeros_read zero p = refl
zeros_read (suc size) zero = refl
zeros_read (suc size) (suc p) = zeros_read size p

-- a list of this size that is zero everywhere
record Zeros (size : ℕ) (xs : List ℕ) : Type 0 where
  sized : length xs ≡ size
  zeros : (p : ℕ) → get_or xs p 0 ≡ 0

replicate_zeros : (size : ℕ) → Zeros size (replicate size 0)
replicate_zeros size = record { sized = length-replicate size 0; zeros = zeros_read size }

zeros_hold : (mode : Mode) {n : ℕ} {c w m : List ℕ} → Zeros 1024 c → Zeros 1056 w → Zeros 4480 m → Holds n (barn mode []) c w m
unfolding barn short start slots element
zeros_hold mode {n} {w = w} counts words mail =
    record {
      rows = record {
        counts_size = counts.sized;
        words_size = words.sized;
        counted = λ i k below left. counts.zeros (n * i + k);
        flagged = λ i k below. clear i k;
        noted = λ i k j below left. clear (32 + n * i + k) j;
        counts_rest = λ p rest. counts.zeros p;
        flags_rest = λ i above few. words.zeros i;
        words_rest = λ p rest. words.zeros p;
      };
      letters = record { mail_size = mail.sized; laid = λ s x few left. mail.zeros (35 * s + x) };
    }
  where
    -- no bit of a word is set
    clear : (p k : ℕ) → bit (get_or w p 0) k ≡ (ltb k n && false)
    clear p k = rw (words.zeros p) (bit_zero k ∙ sym (and-false (ltb k n)))

-- a cleared room holds the barn before any event
pub start_holds : (mode : Mode) {n : ℕ} → Holds n (barn mode []) (replicate 1024 0) (replicate 1056 0) (replicate 4480 0)
start_holds mode = zeros_hold mode (replicate_zeros 1024) (replicate_zeros 1056) (replicate_zeros 4480)
