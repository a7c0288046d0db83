-- A buffer has one possible filling by known bytes: as many of them as fit, from the first on, are at its front, and the others
-- are left.
-- Assumes nothing.
use Rattle.std.proofs.Common.{ℕ, ◌+◌, ◌<◌, ◌≤◌, List, ◌++◌, length, take, drop, min, ◌≡◌, sym, ap, ◌∙◌, arith, length-take-le, length-append, Option, None, Some}
use Rattle.std.proofs.Math.Seq.{take-append_seam, drop-append_seam}
use Rattle.input.specs.Filled.{Filled}

-- how many bytes a buffer gets that has room for so many, out of so many, where there is a rest only if it is full
as_many : (size room all rest : ℕ) → size ≤ room → all ≡ size + rest → (size < room → rest ≡ 0) → size ≡ min room all
as_many size room all rest within split ended = grind arith

-- what a filling by known bytes is
pub filled_is : (xs : List ℕ) (left : Option (List ℕ)) (buffer : List ℕ) (size : ℕ) → Filled (Some xs) left buffer size
    → (size ≡ min (length buffer) (length xs)) × (take size buffer ≡ take size xs) × (left ≡ Some (drop size xs))
filled_is xs None buffer size filled = absurd filled.bytes
filled_is xs (Some rest) buffer size filled =
    let front : List ℕ = take size buffer in
    let long : length front ≡ size = length-take-le size buffer filled.within in
    let all : length xs ≡ length front + length rest = ap length filled.bytes ∙ length-append front rest in
    let ended : size < length buffer → length rest ≡ 0 = λ fewer. ap length (filled.ended fewer) in
    let split : xs ≡ front ++ rest = filled.bytes in (
      as_many size (length buffer) (length xs) (length rest) filled.within (omega (arith, long, all)) ended,
      sym (ap (take size) split ∙ ap (λ k. take k (front ++ rest)) (sym long) ∙ take-append_seam front rest),
      ap Some (sym (ap (drop size) split ∙ ap (λ k. drop k (front ++ rest)) (sym long) ∙ drop-append_seam front rest)),
    )

-- two fillings by the same bytes, of buffers of one length
pub filled_unique : {xs : List ℕ} {left left₂ : Option (List ℕ)} {buffer buffer₂ : List ℕ} {size size₂ : ℕ}
    → length buffer ≡ length buffer₂ → Filled (Some xs) left buffer size → Filled (Some xs) left₂ buffer₂ size₂
    → (size ≡ size₂) × (take size buffer ≡ take size₂ buffer₂) × (left ≡ left₂)
filled_unique {xs} same one other =
    let a = filled_is xs _ _ _ one in
    let b = filled_is xs _ _ _ other in
    let size_same = a.0 ∙ ap (λ n. min n (length xs)) same ∙ sym b.0 in (
      size_same,
      a.1 ∙ ap (λ n. take n xs) size_same ∙ sym b.1,
      a.2 ∙ ap (λ n. Some (drop n xs)) size_same ∙ sym b.2,
    )
