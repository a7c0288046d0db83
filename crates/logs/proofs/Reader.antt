-- The reader's promise, kind by kind: the tests of its definition decided by the kind byte and the length.
-- Assumes nothing.
use mathlib.Core.Path.{◌≡◌}
use mathlib.Core.List.{List}
use Prim.Native.Nat.{ℕ, ◌+◌, ◌-◌, ◌<◌, ◌≤◌}
use native.Mathlib.Omega.{arith}
use lib.ListN.{length, get_or}
use borrow.Author.Tests.{le-leb, lt-leb, ne_eqb}
use Rattle.logs.specs.declared.Record.{Record}
use Rattle.logs.specs.Record.{place, whole_at, idle_at, mark_at, send_at, receipt_at, record_at}
use Rattle.std.specs.Prelude.{Some, None, Ok, Err}
use Rattle.logs.specs.Record.{refusal}
use Rattle.logs.specs.declared.Reason.TheVariants.{UnknownKind, CutShort}

-- ---- the promise at each kind

pub record_end : (log : List ℕ) (p : ℕ) → length log ≤ p → record_at log p ≡ Ok None
unfolding record_at
record_end log p h = simp (le-leb _ _ h)

module _ (log : List ℕ) (p : ℕ) (inside : p < length log) where
  pub record_idle : get_or log p 0 ≡ 0x11 → record_at log p ≡ idle_at log p
  unfolding record_at
  record_idle k = simp (lt-leb _ _ inside, k)

  pub record_mark : get_or log p 0 ≡ 0x12 → record_at log p ≡ mark_at log p
  unfolding record_at
  record_mark k = simp (lt-leb _ _ inside, k)

  pub record_send : get_or log p 0 ≡ 0x13 → record_at log p ≡ send_at log p
  unfolding record_at
  record_send k = simp (lt-leb _ _ inside, k)

  pub record_receipt : get_or log p 0 ≡ 0x14 → record_at log p ≡ receipt_at log p
  unfolding record_at
  record_receipt k = simp (lt-leb _ _ inside, k)

  pub record_unknown : ¬ (get_or log p 0 ≡ 0x11) → ¬ (get_or log p 0 ≡ 0x12) → ¬ (get_or log p 0 ≡ 0x13) → ¬ (get_or log p 0 ≡ 0x14) → record_at log p ≡ Err (refusal UnknownKind p)
  unfolding record_at
  record_unknown a b c d = simp (lt-leb _ _ inside, ne_eqb _ _ a, ne_eqb _ _ b, ne_eqb _ _ c, ne_eqb _ _ d)

  -- a record is read where all its bytes are there, and cut short where they are not
  pub whole_read : (size : ℕ) (r : Record) → size ≤ length log - p → whole_at log p size r ≡ Ok (Some (r, place (p + size)))
  unfolding whole_at
  whole_read size r h = let k : p + size ≤ length log = omega arith in simp (le-leb _ _ k)

  pub whole_short : (size : ℕ) (r : Record) → length log - p < size → whole_at log p size r ≡ Err (refusal CutShort p)
  unfolding whole_at
  whole_short size r h = let k : length log < p + size = omega arith in simp (lt-leb _ _ k)
