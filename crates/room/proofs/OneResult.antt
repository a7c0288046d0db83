-- The contracts of `clear` and `find` have one result: clearing is said by equations, and of two slots that are each the first
-- to bear a number neither is before the other.
-- Assumes nothing.
use mathlib.Core.Path.{◌≡◌, refl, sym, ap, ◌∙◌}
use mathlib.Core.Bool.{Bool}
use mathlib.Core.List.{List}
use Prim.Native.Nat.{ℕ, ◌<◌}
use native.Mathlib.Omega.{arith}
use Rattle.room.specs.Room.{Cleared}
use Rattle.std.proofs.Common.{Option, Some}
use Rattle.room.specs.Finding.{Finds, finds, misses}

-- Two results of clearing one room are equal: the answer and the three slices.
pub cleared_unique : {counts words mail counts₁ words₁ mail₁ counts₂ words₂ mail₂ : List ℕ} {done₁ done₂ : Bool}
    → Cleared counts words mail counts₁ words₁ mail₁ done₁ → Cleared counts words mail counts₂ words₂ mail₂ done₂
    → (done₁ ≡ done₂) × (counts₁ ≡ counts₂) × (words₁ ≡ words₂) × (mail₁ ≡ mail₂)
cleared_unique {done₁ = done₁} {done₂} a b =
    let same : done₁ ≡ done₂ = a.answer ∙ sym b.answer in (
      same,
      a.counts_are ∙ rw same (sym b.counts_are),
      a.words_are ∙ rw same (sym b.words_are),
      a.mail_is ∙ rw same (sym b.mail_is),
    )

-- Two answers to the search for one number in one mail are equal.
pub finds_unique : {mail : List ℕ} {number : ℕ} {r s : Option ℕ} → Finds mail number r → Finds mail number s → r ≡ s
finds_unique (finds {s = s} h b first) (finds {s = t} l c lowest) =
    let before : ¬ (s < t) = λ less. lowest s less b in
    let behind : ¬ (t < s) = λ less. first t less c in
    ap Some (omega arith)
finds_unique (finds {s = s} h b first) (misses none) = absurd (none s h b)
finds_unique (misses none) (finds {s = s} h b first) = absurd (none s h b)
finds_unique (misses none) (misses also) = refl
