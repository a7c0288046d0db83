-- The events of an accepted log are lawful: sound, at most 4,096, and at most 128 messages in flight at every cut. By
-- induction on what was reached, event by event.
-- Assumes nothing.
use mathlib.Core.Path.{◌≡◌}
use mathlib.Core.Bool.{false≢true}
use mathlib.Core.List.{List, [], ◌∷◌, ◌++◌}
use Prim.Native.Nat.{ℕ, ◌+◌, ◌*◌, ◌≤◌}
use native.Mathlib.Omega.{arith}
use lib.ListN.{length}
use Rattle.order.specs.Order.{Event, sound_nil}
use Rattle.order.specs.Flight.{in_flight}
use Rattle.logs.specs.declared.Record.{Record}
use Rattle.logs.specs.declared.Record.TheVariants.{Idle, Mark, Send, Receipt}
use Rattle.verdict.specs.Verdict.{accepted, verdict}
use Rattle.verdict.specs.Table.{Reached, reached_first, reached_next, Row, row_accepted}
use Rattle.verdict.specs.Lawful.{Lawful}
use Rattle.logs.proofs.Stands.{size_of, read_size}
use Rattle.logs.proofs.FirstRecord.{nodes_there}
use Rattle.verdict.proofs.Verdict.{verdict_accepted}
use Rattle.verdict.proofs.Lawfully.{lawful_next}

-- ---- accepted events are lawful

-- what was reached is lawful
pub reached_lawful : {log : List ℕ} {n p : ℕ} {cut : List Event} → Reached log n p cut → Lawful n cut
unfolding in_flight
reached_lawful {log} (reached_first e) =
    let first = nodes_there log e in
    record { some_node = first.2; few_nodes = first.3; sound = sound_nil; few_events = omega arith; few_flying = none }
  where
    none : (later past : List Event) → [] ≡ later ++ past → length (in_flight past) ≤ 128
    none [] past q = rw (← q) (omega arith)
    none (x ∷ later) past q = absurd (false≢true (cc))
reached_lawful (reached_next {r = r} before e h) = lawful_next (reached_lawful before) r h

-- the events of an accepted log are lawful
pub row_lawful : {log : List ℕ} {n : ℕ} {cut : List Event} → Row log (accepted n cut) → Lawful n cut
row_lawful (row_accepted here) = reached_lawful here

pub accepted_lawful : (log : List ℕ) (n : ℕ) (cut : List Event) → verdict log ≡ accepted n cut → Lawful n cut
accepted_lawful log n cut e = reached_lawful ((verdict_accepted log).0 e)

-- ---- and their log is short

size_most : (r : Record) → size_of r ≤ 5
size_most (Idle i) = omega arith
size_most (Mark i) = omega arith
size_most (Send i j m) = omega arith
size_most (Receipt j m) = omega arith

-- a place that was reached is not far: no record has more than five bytes
pub reached_length : {log : List ℕ} {n p : ℕ} {cut : List Event} → Reached log n p cut → p ≤ 2 + 5 * length cut
reached_length {log} (reached_first e) = let h = nodes_there log e in omega arith
reached_length {log} (reached_next {p = p} {r = r} before e h) = omega (arith, reached_length before, read_size log p e, size_most r)

-- an accepted log has at most 20,482 bytes
pub accepted_length : (log : List ℕ) (n : ℕ) (cut : List Event) → verdict log ≡ accepted n cut → length log ≤ 20482
accepted_length log n cut e = let here = (verdict_accepted log).0 e in omega (arith, reached_length here, (reached_lawful here).few_events)
