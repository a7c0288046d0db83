-- Where a refusal points: at the very byte that the table names, inside the record that is refused, and never past the
-- log's length; and which bytes are refused with 2, 3, 4 and 5. By the bytes behind each answer of the reader.
-- Assumes nothing.
use mathlib.Core.Path.{◌≡◌, refl, subst}
use mathlib.Core.Logic.{◌⊎◌, inl, inr, ◌≢◌, ◌↔◌}
use mathlib.Core.List.{List}
use Prim.Native.Nat.{ℕ, ◌+◌, ◌<◌, ◌≤◌}
use native.Mathlib.Omega.{arith}
use lib.ListN.{length, get_or}
use Rattle.order.specs.Order.{Event, Flying}
use Rattle.logs.specs.declared.Cursor.{Cursor}
use Rattle.logs.specs.declared.Record.{Record}
use Rattle.logs.specs.Record.{number_at, record_at}
use Rattle.verdict.specs.Table.{Reached, Breaks, breaks_12, breaks_6, breaks_6_to, breaks_7, breaks_8, breaks_9, breaks_10, breaks_11, Refused, refused_2, refused_3, refused_4, refused_5, refused_rule}
use Rattle.logs.proofs.Stands.{Kind, Stands, stands, stands_idle, stands_mark, stands_send, stands_receipt, read_forward, unknown_there, short_there, unknown_exactly, short_exactly}
use Rattle.logs.proofs.FirstRecord.{missing_there, range_there, missing_exactly, range_exactly}
use Rattle.std.specs.Prelude.{Some, Ok}

-- What the bytes are around the place of a refusal, for the record whose kind byte is at p. The last number is the place.
pub data Points (log : List ℕ) (n : ℕ) (cut : List Event) (p : ℕ) : ℕ → ℕ → Type 0 where
  -- the kind byte
  points_12 : Points log n cut p 12 p
  -- the node's byte
  points_6 : n ≤ get_or log (p + 1) 0 → Points log n cut p 6 (p + 1)
  -- the destination's byte, of a send
  points_6_to : get_or log p 0 ≡ 0x13 → n ≤ get_or log (p + 2) 0 → Points log n cut p 6 (p + 2)
  points_7 : get_or log p 0 ≡ 0x13 → get_or log (p + 1) 0 ≡ get_or log (p + 2) 0 → Points log n cut p 7 (p + 2)
  -- the first byte of a send's number
  points_8 : {a b s : ℕ} → get_or log p 0 ≡ 0x13 → Flying (number_at log (p + 3)).0 a b cut s → Points log n cut p 8 (p + 3)
  -- the kind byte of a send
  points_9 : get_or log p 0 ≡ 0x13 → Points log n cut p 9 p
  -- the first byte of a receipt's number
  points_10 : get_or log p 0 ≡ 0x14 → ((a b s : ℕ) → ¬ Flying (number_at log (p + 2)).0 a b cut s) → Points log n cut p 10 (p + 2)
  points_11 : {a b s : ℕ} → get_or log p 0 ≡ 0x14 → Flying (number_at log (p + 2)).0 a b cut s → b ≢ get_or log (p + 1) 0 → Points log n cut p 11 (p + 2)

module _ (log : List ℕ) (n : ℕ) (cut : List Event) (p : ℕ) where
  points : {r : Record} {c : Cursor} {x q : ℕ} → Stands log p (Ok (Some (r, c))) → Breaks n cut p r x q → Points log n cut p x q × (q < c.at)
  points (stands_idle k h) (breaks_12 a) = (points_12, omega arith)
  points (stands_idle k h) (breaks_6 a b) = (points_6 b, omega arith)
  points (stands_mark k h) (breaks_12 a) = (points_12, omega arith)
  points (stands_mark k h) (breaks_6 a b) = (points_6 b, omega arith)
  points (stands_send k h) (breaks_12 a) = (points_12, omega arith)
  points (stands_send k h) (breaks_6 a b) = (points_6 b, omega arith)
  points (stands_send k h) (breaks_6_to a b d) = (points_6_to k d, omega arith)
  points (stands_send k h) (breaks_7 a b d e) = (points_7 k e, omega arith)
  points (stands_send k h) (breaks_8 a b d e f) = (points_8 k f, omega arith)
  points (stands_send k h) (breaks_9 a b d) = (points_9 k, omega arith)
  points (stands_receipt k h) (breaks_12 a) = (points_12, omega arith)
  points (stands_receipt k h) (breaks_6 a b) = (points_6 b, omega arith)
  points (stands_receipt k h) (breaks_10 a b d) = (points_10 k d, omega arith)
  points (stands_receipt k h) (breaks_11 a b f d) = (points_11 k f d, omega arith)

  -- a broken rule points at its byte, inside the record
  pub breaks_point : {r : Record} {c : Cursor} {x q : ℕ} → record_at log p ≡ Ok (Some (r, c)) → Breaks n cut p r x q
      → Points log n cut p x q × (q < c.at)
  breaks_point e b = points (subst (Stands log p) e (stands log p)) b

-- a refusal's place is within the log, and 2 alone is given where there may be no byte: at 0
pub refused_within : {log : List ℕ} {x q : ℕ} → Refused log x q → ((x ≡ 2) × (q ≡ 0)) ⊎ (q < length log)
refused_within {log} (refused_2 e) = inl (refl, missing_there log e)
refused_within {log} (refused_3 e) = let h = range_there log e in inr (omega arith)
refused_within {log} (refused_4 {p = p} here e) = let h = unknown_there log p e in inr (omega arith)
refused_within {log} (refused_5 {p = p} here e) = let h = short_there log p e in inr (omega arith)
refused_within {log} (refused_rule {n = n} {p = p} {cut = cut} here e b) =
    let h = breaks_point log n cut p e b in
    let f = read_forward log p e in
    inr (omega arith)

-- the numbers of the rules are 6 to 12
breaks_number : {n p x q : ℕ} {cut : List Event} {r : Record} → Breaks n cut p r x q → (6 ≤ x) × (x ≤ 12)
breaks_number (breaks_12 a) = omega arith
breaks_number (breaks_6 a b) = omega arith
breaks_number (breaks_6_to a b c) = omega arith
breaks_number (breaks_7 a b c d) = omega arith
breaks_number (breaks_8 a b c d e) = omega arith
breaks_number (breaks_9 a b c) = omega arith
breaks_number (breaks_10 a b c) = omega arith
breaks_number (breaks_11 a b c d) = omega arith

-- the numbers of refusal are 2 to 12
pub refused_number : {log : List ℕ} {x q : ℕ} → Refused log x q → (2 ≤ x) × (x ≤ 12)
refused_number (refused_2 e) = omega arith
refused_number (refused_3 e) = omega arith
refused_number (refused_4 here e) = omega arith
refused_number (refused_5 here e) = omega arith
refused_number (refused_rule here e b) = let h = breaks_number b in omega arith

-- ---- the bytes that are refused with 2, 3, 4 and 5

module _ {log : List ℕ} {q : ℕ} where
  -- no whole 0x10 record at the start
  pub refused_2_exactly : Refused log 2 q ↔ ((q ≡ 0) × ((length log < 2) ⊎ (get_or log 0 0 ≢ 0x10)))
  refused_2_exactly = (go, λ h. refused_2 ((missing_exactly log).1 h))
    where
      go : Refused log 2 q → (q ≡ 0) × ((length log < 2) ⊎ (get_or log 0 0 ≢ 0x10))
      go (refused_2 e) = (missing_exactly log).0 e
      go (refused_rule here e b) = let h = breaks_number b in absurd (omega arith)

  -- node count 0 or above 32
  pub refused_3_exactly : Refused log 3 q ↔ ((q ≡ 1) × (2 ≤ length log) × (get_or log 0 0 ≡ 0x10) × ((get_or log 1 0 ≡ 0) ⊎ (32 < get_or log 1 0)))
  refused_3_exactly = (go, λ h. refused_3 ((range_exactly log).1 h))
    where
      go : Refused log 3 q → (q ≡ 1) × (2 ≤ length log) × (get_or log 0 0 ≡ 0x10) × ((get_or log 1 0 ≡ 0) ⊎ (32 < get_or log 1 0))
      go (refused_3 e) = (range_exactly log).0 e
      go (refused_rule here e b) = let h = breaks_number b in absurd (omega arith)

  -- after records that pass, a byte that is no kind of event
  pub refused_4_exactly : Refused log 4 q ↔ ((n : ℕ) × (cut : List Event) × Reached log n q cut × (q < length log) × ((size : ℕ) → ¬ Kind (get_or log q 0) size))
  refused_4_exactly = (go, λ h. refused_4 h.2 ((unknown_exactly log q).1 (refl, h.3, h.4)))
    where
      go : Refused log 4 q → (n : ℕ) × (cut : List Event) × Reached log n q cut × (q < length log) × ((size : ℕ) → ¬ Kind (get_or log q 0) size)
      go (refused_4 {n = n} {p = p} {cut = cut} here e) = let (same, h, none) = (unknown_exactly log p).0 e in rw same (n, cut, here, h, none)
      go (refused_rule here e b) = let h = breaks_number b in absurd (omega arith)

  -- after records that pass, the kind byte of a record of which the log lacks bytes
  pub refused_5_exactly : Refused log 5 q
      ↔ ((n : ℕ) × (cut : List Event) × Reached log n q cut × (q < length log) × ((size : ℕ) × Kind (get_or log q 0) size × (length log < q + size)))
  refused_5_exactly = (go, λ h. refused_5 h.2 ((short_exactly log q).1 (refl, h.3, h.4)))
    where
      go : Refused log 5 q → (n : ℕ) × (cut : List Event) × Reached log n q cut × (q < length log) × ((size : ℕ) × Kind (get_or log q 0) size × (length log < q + size))
      go (refused_5 {n = n} {p = p} {cut = cut} here e) = let (same, h, short) = (short_exactly log p).0 e in rw same (n, cut, here, h, short)
      go (refused_rule here e b) = let h = breaks_number b in absurd (omega arith)
