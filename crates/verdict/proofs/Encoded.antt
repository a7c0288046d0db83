-- A log is accepted exactly if it is the bytes of a lawful row of events: what was reached gives back the bytes before it,
-- and the bytes of a lawful row are read, record by record, as its events.
-- Assumes nothing.
use mathlib.Core.Path.{◌≡◌, refl, sym, ◌∙◌, ap, ap₂, subst}
use mathlib.Core.Logic.{◌↔◌}
use mathlib.Core.List.{List, [], ◌∷◌, ◌++◌}
use Prim.Native.Nat.{ℕ, suc, ◌+◌, ◌*◌, ◌/◌, ◌%◌, ◌≤◌}
use native.Mathlib.Nat.{le_refl}
use native.Mathlib.Omega.{arith}
use lib.ListN.{length, get_or, take, drop, length-append, get_or-append}
use lib.Seq.{take-length, take-add, drop-cons, get_or-append-add}
use Rattle.order.specs.Order.{Event, idle, mark, send, receipt}
use Rattle.logs.specs.declared.Cursor.{Cursor}
use Rattle.logs.specs.declared.Record.{Record}
use Rattle.logs.specs.declared.Record.TheVariants.{Idle, Mark, Send, Receipt}
use Rattle.logs.specs.Record.{place, record_at}
use Rattle.verdict.specs.Verdict.{accepted, event_of, verdict}
use Rattle.verdict.specs.Table.{Reached, reached_first, reached_next}
use Rattle.verdict.specs.Lawful.{Lawful, Bytes, record_of, bytes_of}
use Rattle.logs.proofs.Stands.{Stands, stands, stands_idle, stands_mark, stands_send, stands_receipt, stands_read}
use Rattle.logs.proofs.FirstRecord.{Opens, opens, opens_nodes, opens_read}
use Rattle.verdict.proofs.Verdict.{verdict_accepted}
use Rattle.verdict.proofs.Cuts.{reached_same}
use Rattle.verdict.proofs.Lawfully.{lawful_past, passes_lawful}
use Rattle.verdict.proofs.Accepted.{accepted_lawful}
use Rattle.std.specs.Prelude.{Some, Ok}

-- ---- from what was reached to the bytes

-- the list xs stands in the log from place p on
abbrev Spells : List ℕ → ℕ → List ℕ → Type 0
Spells log p [] = Unit {0}
Spells log p (x ∷ xs) = (get_or log p 0 ≡ x) × Spells log (suc p) xs

part_is : (log : List ℕ) (p : ℕ) (xs : List ℕ) → p + length xs ≤ length log → Spells log p xs → take (length xs) (drop p log) ≡ xs
part_is log p [] fits h = refl
part_is log p (x ∷ xs) fits h =
    rw (drop-cons log p 0 (omega arith)) (ap₂ (λ (y : ℕ) (ys : List ℕ). y ∷ ys) h.0 (part_is log (suc p) xs (omega arith) h.1))

module _ (log : List ℕ) (bytes : Bytes log) (p : ℕ) where
  at_place : (q r : ℕ) → q ≡ r → get_or log q 0 ≡ get_or log r 0
  at_place q r e = ap (λ (i : ℕ). get_or log i 0) e

  -- the low byte of a number that was read, and the high one
  low : (q r : ℕ) → q ≡ r → get_or log q 0 ≡ (get_or log r 0 + 256 * get_or log (r + 1) 0) % 256
  low q r e = let b = bytes r in at_place q r e ∙ omega arith

  high : (q r : ℕ) → q ≡ r + 1 → get_or log q 0 ≡ (get_or log r 0 + 256 * get_or log (r + 1) 0) / 256
  high q r e = let b = bytes r in at_place q (r + 1) e ∙ omega arith

  -- the bytes of a record that is read are those of its event
  read_bytes : {r : Record} {c : Cursor} → Stands log p (Ok (Some (r, c))) → (c.at ≡ p + length (record_of (event_of r))) × (take (length (record_of (event_of r))) (drop p log) ≡ record_of (event_of r))
  read_bytes (stands_idle k h) = (refl, part_is log p _ h (k, (at_place _ _ (omega arith), tt)))
  read_bytes (stands_mark k h) = (refl, part_is log p _ h (k, (at_place _ _ (omega arith), tt)))
  read_bytes (stands_send k h) =
      (refl, part_is log p _ h (k, (at_place _ _ (omega arith), (at_place _ _ (omega arith), (low _ (p + 3) (omega arith), (high _ (p + 3) (omega arith), tt))))))
  read_bytes (stands_receipt k h) =
      (refl, part_is log p _ h (k, (at_place _ _ (omega arith), (low _ (p + 2) (omega arith), (high _ (p + 2) (omega arith), tt)))))

module _ (log : List ℕ) (bytes : Bytes log) where
  opens_bytes : {n : ℕ} {c : Cursor} → Opens log (Ok (n, c)) → (c.at ≡ 2) × (take 2 log ≡ 0x10 ∷ n ∷ [])
  opens_bytes (opens_nodes a b h k) = (refl, part_is log 0 (0x10 ∷ get_or log 1 0 ∷ []) a (b, (refl, tt)))

  -- what was reached gives back the bytes before it
  reached_bytes : {n p : ℕ} {cut : List Event} → Reached log n p cut → take p log ≡ bytes_of n cut
  unfolding bytes_of
  reached_bytes (reached_first e) = let o = opens_bytes (subst (Opens log) e (opens log)) in rw o.0 o.1
  reached_bytes (reached_next {p = p} {r = r} before e h) =
      let b = read_bytes log bytes p (subst (Stands log p) e (stands log p)) in
      rw (b.0, take-add p (length (record_of (event_of r))) log, b.1, reached_bytes before)

-- ---- from a lawful row to what is reached

-- the record of an event
abbrev record_for : Event → Record
record_for (idle i) = Idle (record { 0 = i })
record_for (mark i) = Mark (record { 0 = i })
record_for (send i j m) = Send (record { 0 = i }) (record { 0 = j }) (record { 0 = m })
record_for (receipt j m) = Receipt (record { 0 = j }) (record { 0 = m })

record_event : (e : Event) → event_of (record_for e) ≡ e
record_event (idle i) = refl
record_event (mark i) = refl
record_event (send i j m) = refl
record_event (receipt j m) = refl

-- the bytes of an event behind any others are read as its record
module _ (xs : List ℕ) where
  behind : (ys : List ℕ) (k q : ℕ) → q ≡ length xs + k → get_or (xs ++ ys) q 0 ≡ get_or ys k 0
  behind ys k q e = ap (λ (i : ℕ). get_or (xs ++ ys) i 0) e ∙ get_or-append-add xs ys k 0

  number_behind : (ys : List ℕ) (k q m : ℕ) → q ≡ length xs + k → get_or ys k 0 ≡ m % 256 → get_or ys (suc k) 0 ≡ m / 256
      → get_or (xs ++ ys) q 0 + 256 * get_or (xs ++ ys) (q + 1) 0 ≡ m
  number_behind ys k q m e l h = omega (arith, behind ys k q e, behind ys (suc k) (q + 1) (omega arith))

  encoded_read : (e : Event) → record_at (xs ++ record_of e) (length xs) ≡ Ok (Some (record_for e, place (length xs + length (record_of e))))
  encoded_read (idle i) =
      let ys = record_of (idle i) in
      stands_read (xs ++ ys) (length xs) (stands_idle (behind ys 0 _ (omega arith)) (omega (arith, length-append xs ys)))
      ∙ rw (behind ys 1 (length xs + 1) refl)
  encoded_read (mark i) =
      let ys = record_of (mark i) in
      stands_read (xs ++ ys) (length xs) (stands_mark (behind ys 0 _ (omega arith)) (omega (arith, length-append xs ys)))
      ∙ rw (behind ys 1 (length xs + 1) refl)
  encoded_read (send i j m) =
      let ys = record_of (send i j m) in
      stands_read (xs ++ ys) (length xs) (stands_send (behind ys 0 _ (omega arith)) (omega (arith, length-append xs ys)))
      ∙ rw (behind ys 1 (length xs + 1) refl, behind ys 2 (length xs + 2) refl, number_behind ys 3 (length xs + 3) m refl refl refl)
  encoded_read (receipt j m) =
      let ys = record_of (receipt j m) in
      stands_read (xs ++ ys) (length xs) (stands_receipt (behind ys 0 _ (omega arith)) (omega (arith, length-append xs ys)))
      ∙ rw (behind ys 1 (length xs + 1) refl, number_behind ys 2 (length xs + 2) m refl refl refl)

-- the bytes of a lawful row are reached to their end, record by record
lawful_reached : {n : ℕ} (cut : List Event) → Lawful n cut → Reached (bytes_of n cut) n (length (bytes_of n cut)) cut
unfolding bytes_of
lawful_reached {n} [] l = reached_first (opens_read (0x10 ∷ n ∷ []) (opens_nodes (le_refl _) refl l.some_node l.few_nodes))
lawful_reached {n} (e ∷ past) l =
    let xs = bytes_of n past in
    let ys = record_of e in
    let here = reached_same xs (xs ++ ys) (length xs) (omega (arith, length-append xs ys)) (λ i h. sym (get_or-append xs ys 0 i h))
    (lawful_reached past (lawful_past l)) (le_refl _) in
    let next = reached_next here (encoded_read xs e) (passes_lawful (record_for e) (rw (record_event e) l)) in
    rw length-append (rw (record_event e) at next)

-- ---- both

-- a log is accepted exactly if it is the bytes of a lawful row of events
pub accepted_exactly : (log : List ℕ) → Bytes log → (n : ℕ) (cut : List Event) → (verdict log ≡ accepted n cut) ↔ (Lawful n cut × (log ≡ bytes_of n cut))
accepted_exactly log bytes n cut = (
  λ e. (accepted_lawful log n cut e, sym (take-length log) ∙ reached_bytes log bytes ((verdict_accepted log).0 e)),
  λ h. rw h.1 ((verdict_accepted (bytes_of n cut)).1 (lawful_reached cut h.0)),
)
