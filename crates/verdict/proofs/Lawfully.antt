-- A lawful cut with one event less, and with one more: the earlier cut is lawful too, and an event may be added exactly if its
-- record passes.
-- Assumes nothing.
use mathlib.Core.Path.{◌≡◌, refl, ap}
use mathlib.Core.List.{List, [], ◌∷◌, ◌++◌}
use Prim.Native.Nat.{ℕ, ◌<◌, ◌≤◌}
use native.Mathlib.Nat.{le_trans}
use native.Mathlib.Omega.{arith}
use lib.ListN.{length}
use Rattle.order.specs.Order.{Event, idle, mark, send, receipt, Allowed, Sound, sound_cons}
use Rattle.order.specs.Flight.{in_flight}
use Rattle.order.proofs.Flight.{without_length, without_none, listed_flying}
use Rattle.logs.specs.declared.Record.{Record}
use Rattle.logs.specs.declared.Record.TheVariants.{Idle, Mark, Send, Receipt}
use Rattle.verdict.specs.Verdict.{event_of}
use Rattle.verdict.specs.Table.{Space, Passes}
use Rattle.verdict.specs.Lawful.{Lawful}

-- ---- one event less

sound_parts : {n : ℕ} {e : Event} {cut : List Event} → Sound n (e ∷ cut) → Allowed n cut e × Sound n cut
sound_parts (sound_cons ok before) = (ok, before)

-- the cut before the latest event is lawful
pub lawful_past : {n : ℕ} {e : Event} {cut : List Event} → Lawful n (e ∷ cut) → Lawful n cut
lawful_past {e = e} l =
    record {
      some_node = l.some_node;
      few_nodes = l.few_nodes;
      sound = (sound_parts l.sound).1;
      few_events = let h = l.few_events in omega arith;
      few_flying = λ later past h. l.few_flying (e ∷ later) past (ap (λ (x : List Event). e ∷ x) h);
    }

-- the latest event may follow it
pub lawful_allowed : {n : ℕ} {e : Event} {cut : List Event} → Lawful n (e ∷ cut) → Allowed n cut e
lawful_allowed l = (sound_parts l.sound).0

-- a send found room
pub lawful_room : {n : ℕ} {i j m : ℕ} {cut : List Event} → Lawful n (send i j m ∷ cut) → length (in_flight cut) < 128
unfolding in_flight
lawful_room {m = m} {cut = cut} l =
    let same = without_none m (in_flight cut) (λ x k q. (lawful_allowed l).3 x.from x.to x.sent (rw q at (listed_flying cut x k))) in
    rw same at (l.few_flying [] (send _ _ m ∷ cut) refl)

-- the latest event's record passes
pub passes_lawful : {n : ℕ} {cut : List Event} (r : Record) → Lawful n (event_of r ∷ cut) → Passes n cut r
passes_lawful (Idle i) l = (l.few_events, lawful_allowed l, tt)
passes_lawful (Mark i) l = (l.few_events, lawful_allowed l, tt)
passes_lawful (Send i j m) l = (l.few_events, lawful_allowed l, lawful_room l)
passes_lawful (Receipt j m) l = (l.few_events, lawful_allowed l, tt)

-- ---- one event more

-- an event that finds room keeps the messages in flight to 128
space_flying : (cut : List Event) (e : Event) → Space cut e → length (in_flight cut) ≤ 128 → length (in_flight (e ∷ cut)) ≤ 128
unfolding in_flight
space_flying cut (idle i) room few = few
space_flying cut (mark i) room few = few
space_flying cut (send i j m) room few = omega (arith, without_length m (in_flight cut))
space_flying cut (receipt j m) room few = le_trans (without_length m (in_flight cut)) few

-- a lawful cut with the event of a record that passes is lawful
pub lawful_next : {n : ℕ} {cut : List Event} → Lawful n cut → (r : Record) → Passes n cut r → Lawful n (event_of r ∷ cut)
lawful_next {cut = cut} l r h =
    record {
      some_node = l.some_node;
      few_nodes = l.few_nodes;
      sound = sound_cons h.1 l.sound;
      few_events = h.0;
      few_flying = few;
    }
  where
    few : (later past : List Event) → event_of r ∷ cut ≡ later ++ past → length (in_flight past) ≤ 128
    few [] past q = rw (← q) (space_flying cut (event_of r) h.2 (l.few_flying [] cut refl))
    few (e ∷ later) past q = l.few_flying later past (cc)
