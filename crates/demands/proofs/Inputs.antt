-- Inputs to try programs on: a log, and rooms that are all zero. A run may be given them, and the work rooms are large enough.
-- Assumes nothing.
use mathlib.Core.Path.{◌≡◌, refl}
use mathlib.Core.Bool.{Bool, true, false, false≢true, ◌&&◌}
use mathlib.Core.List.{List, [], ◌∷◌}
use Prim.Native.Nat.{ℕ, zero, suc, ◌^◌, ◌<◌}
use native.Mathlib.Omega.{arith}
use lib.Dec.{ltb}
use lib.ListN.{get_or, replicate}
use borrow.Author.Tests.{ltb-true}
use Rattle.room.specs.declared.Mode.{Mode}
use Rattle.room.proofs.StartRoom.{zeros_read}
use Rattle.demands.specs.Demands.{Roomy, Input, Below, Given}

-- zeros are numbers of any type
below_zeros : (bound n : ℕ) → 0 < bound → Below bound (replicate n 0)
below_zeros bound n some p = rw (zeros_read n p) some

-- a list whose elements pass the test
abbrev pub all_below : ℕ → List ℕ → Bool
all_below bound [] = true
all_below bound (x ∷ xs) = ltb x bound && all_below bound xs

-- has elements below the bound
below_tested : (bound : ℕ) → 0 < bound → (xs : List ℕ) → all_below bound xs ≡ true → Below bound xs
below_tested bound some [] h p = some
below_tested bound some (x ∷ xs) h p = go (ltb x bound) refl (all_below bound xs) refl h p (below_tested bound some xs)
  where
    go : (b : Bool) → ltb x bound ≡ b → (c : Bool) → all_below bound xs ≡ c → (b && c) ≡ true → (p : ℕ)
        → (all_below bound xs ≡ true → Below bound xs) → get_or (x ∷ xs) p 0 < bound
    go true e true f h zero rest = ltb-true x bound e
    go true e true f h (suc p) rest = rest f p
    go true e false f h p rest = absurd (false≢true h)
    go false e c f h p rest = absurd (false≢true h)

-- a log, in work rooms of the fixed sizes and a report room of so many bytes, all zero
abbrev pub sample : Mode → List ℕ → ℕ → Input
sample mode log size =
    record { mode = mode; log = log; counts = replicate 1024 0; words = replicate 1056 0; mail = replicate 4480 0; report = replicate size 0 }

-- a run may be given it
pub sample_given : (mode : Mode) (log : List ℕ) (size : ℕ) → all_below 256 log ≡ true → Given (sample mode log size)
sample_given mode log size h =
    record {
      log_bytes = below_tested 256 (omega arith) log h;
      counts_numbers = below_zeros (2 ^ 16) 1024 (omega arith);
      words_numbers = below_zeros (2 ^ 32) 1056 (omega arith);
      mail_numbers = below_zeros (2 ^ 16) 4480 (omega arith);
      report_bytes = below_zeros 256 size (omega arith);
    }

-- and its work rooms are large enough
pub sample_roomy : Roomy (replicate 1024 0) (replicate 1056 0) (replicate 4480 0)
sample_roomy =
    record {
      counts_fit = omega arith;
      words_fit = omega arith;
      mail_fits = omega arith;
    }
