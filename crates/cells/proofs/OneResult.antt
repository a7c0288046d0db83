-- The contracts of `pack` and `join` have one result: they name each element of each list, and each bit of the flags.
-- Assumes nothing.
use mathlib.Core.Path.{◌≡◌, sym, ap, ◌∙◌}
use mathlib.Core.List.{List}
use Prim.Native.Nat.{ℕ, ◌<◌}
use native.Mathlib.Decide.{dec_lt}
use native.Mathlib.Omega.{arith}
use lib.ListN.{length, get_or}
use lib.Seq.{ext_get_or}
use Rattle.bits.proofs.Laws.{same_bits}
use Rattle.cells.specs.declared.Cell.{Cell}
use Rattle.cells.specs.Cells.{cell_at, Packed, Joined}

-- Two letters packed from one row are equal, and so are the numbers of entries that they carry.
pub packed_unique : {spared : ℕ} {row columns : List ℕ} {flags n : ℕ} {letter₁ letter₂ : List ℕ} {carried₁ carried₂ : ℕ}
    → length letter₁ ≡ n → Packed spared row columns flags n letter₁ carried₁
    → length letter₂ ≡ n → Packed spared row columns flags n letter₂ carried₂
    → (carried₁ ≡ carried₂) × (letter₁ ≡ letter₂)
packed_unique {letter₁ = letter₁} {letter₂} size p size₂ q = (
  p.counted ∙ sym q.counted,
  ext_get_or 0 letter₁ letter₂ (size ∙ sym size₂) (λ k h. p.written k (omega arith) ∙ sym (q.written k (omega arith))),
)

-- what two results of joining one letter into one row have at each place
module _ {sender : ℕ} {letter row columns : List ℕ} {flags n : ℕ} {letter₁ row₁ columns₁ letter₂ row₂ columns₂ : List ℕ} {flags₁ flags₂ : ℕ}
    (J : Joined sender letter row columns flags n letter₁ row₁ columns₁ flags₁)
    (K : Joined sender letter row columns flags n letter₂ row₂ columns₂ flags₂) (k : ℕ) where
  same_cells : cell_at row₁ columns₁ flags₁ k ≡ cell_at row₂ columns₂ flags₂ k
  same_cells = go (dec_lt k n)
    where
      go : Dec (k < n) → cell_at row₁ columns₁ flags₁ k ≡ cell_at row₂ columns₂ flags₂ k
      go (yes h) = J.within k h ∙ sym (K.within k h)
      go (no h) = J.above k (omega arith) ∙ sym (K.above k (omega arith))

  same_entries : get_or letter₁ k 0 ≡ get_or letter₂ k 0
  same_entries = go (dec_lt k n)
    where
      go : Dec (k < n) → get_or letter₁ k 0 ≡ get_or letter₂ k 0
      go (yes h) = J.emptied k h ∙ sym (K.emptied k h)
      go (no h) = J.kept k (omega arith) ∙ sym (K.kept k (omega arith))

-- Two results of joining one letter into one row are equal: the flags, the row, its columns, and what is left of the letter.
pub joined_unique : {sender : ℕ} {letter row columns : List ℕ} {flags n : ℕ}
    {letter₁ row₁ columns₁ letter₂ row₂ columns₂ : List ℕ} {flags₁ flags₂ : ℕ}
    → (length letter₁ ≡ length letter) × (length row₁ ≡ length row) × (length columns₁ ≡ length columns)
    → Joined sender letter row columns flags n letter₁ row₁ columns₁ flags₁
    → (length letter₂ ≡ length letter) × (length row₂ ≡ length row) × (length columns₂ ≡ length columns)
    → Joined sender letter row columns flags n letter₂ row₂ columns₂ flags₂
    → (flags₁ ≡ flags₂) × (row₁ ≡ row₂) × (columns₁ ≡ columns₂) × (letter₁ ≡ letter₂)
joined_unique {letter₁ = letter₁} {row₁} {columns₁} {letter₂} {row₂} {columns₂} {flags₁} {flags₂} size J size₂ K = (
  same_bits flags₁ flags₂ (λ k. ap (λ (x : Cell). x.direct) (same_cells J K k)),
  ext_get_or 0 row₁ row₂ (size.1 ∙ sym size₂.1) (λ k h. ap (λ (x : Cell). x.count) (same_cells J K k)),
  ext_get_or 0 columns₁ columns₂ (size.2 ∙ sym size₂.2) (λ k h. ap (λ (x : Cell). x.column) (same_cells J K k)),
  ext_get_or 0 letter₁ letter₂ (size.0 ∙ sym size₂.0) (λ k h. same_entries J K k),
)
