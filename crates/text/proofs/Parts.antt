-- A part of a report that is lent by itself: what is read in the part stands in the report. Byte by byte, then record by record.
-- Assumes nothing.
use mathlib.Core.Path.{◌≡◌, refl, sym, ap, ap₂, ◌∙◌}
use mathlib.Core.List.{List}
use Prim.Native.Nat.{ℕ, zero, suc, ◌+◌, ◌-◌, ◌*◌, ◌/◌, ◌<◌, ◌≤◌}
use native.Mathlib.Omega.{arith}
use lib.ListN.{length, get_or, take, drop, length-drop}
use lib.Seq.{length-take-le, drop-drop}
use Rattle.std.specs.Simd.{first_chunks}
use Rattle.std.proofs.lemmas.List.{get_or-drop, get_or-take}
use Rattle.reading.specs.Reading.{node_at, number_here, causes_at}
use Rattle.text.specs.Text.{named}

-- ---- a part of a report, from a place on

module _ (report : List ℕ) (p m : ℕ) where
  byte_of : (q r : ℕ) → q < m → r ≡ p + q → get_or (take m (drop p report)) q 0 ≡ get_or report r 0
  byte_of q r h e =
      get_or-take m (drop p report) q 0 h ∙ get_or-drop p report q 0 ∙ ap (λ (n : ℕ). get_or report n 0) (sym e)

  -- a record of the part is one of the report
  node_of : (q r : ℕ) → q + 4 ≤ m → r ≡ p + q → node_at (take m (drop p report)) q ≡ node_at report r
  node_of q r h e = byte_of (q + 1) (r + 1) (omega arith) (omega (arith, e))

  number_of : (q r : ℕ) → q + 4 ≤ m → r ≡ p + q → number_here (take m (drop p report)) q ≡ number_here report r
  number_of q r h e =
      ap₂ (λ (a b : ℕ). a + 256 * b) (byte_of (q + 2) (r + 2) (omega arith) (omega (arith, e)))
      (byte_of (q + 2 + 1) (r + 2 + 1) (omega arith) (omega (arith, e)))

  -- so are the direct predecessors
  causes_of : (n q r : ℕ) → q + 4 * n ≤ m → r ≡ p + q → causes_at (take m (drop p report)) q n ≡ causes_at report r n
  unfolding causes_at
  causes_of zero q r h e = refl
  causes_of (suc n) q r h e =
      rw (node_of q r (omega arith) e, number_of q r (omega arith) e, causes_of n (q + 4) (r + 4) (omega arith) (omega (arith, e)))

-- the records of a list of bytes, from a place on, name the direct predecessors that stand there
records_named : (bytes : List ℕ) (n q : ℕ) → named (first_chunks 4 n (drop q bytes)) ≡ causes_at bytes q n
unfolding causes_at
records_named bytes zero q = refl
records_named bytes (suc n) q =
    rw (
      node_of bytes q 4 0 q (omega arith) (omega arith),
      number_of bytes q 4 0 q (omega arith) (omega arith),
      drop-drop 4 q bytes,
      records_named bytes n (q + 4),
    )

-- so those of a part of a report name those that stand in it
pub part_named : (report : List ℕ) (p n : ℕ) {past : ℕ} → past ≡ p + 4 * n → past ≤ length report
    → let part = take (past - p) (drop p report) in named (first_chunks 4 (length part / 4) part) ≡ causes_at report p n
part_named report p n {past} e h =
    let part = take (past - p) (drop p report) in
    let long = length-take-le (past - p) (drop p report) (omega (arith, e, length-drop p report)) in
    let many : length part / 4 ≡ n = omega (arith, long, e) in
    rw many (records_named part n 0 ∙ causes_of report p (past - p) n 0 p (omega (arith, e)) (omega arith))
