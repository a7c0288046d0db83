-- The verdict on a whole log, of its bytes alone: the first refusal of 01's table "Refusal numbers", or the node count and
-- the events. It computes. The records are read by the reader's promise, one after the other from the front.
-- Assumes nothing.
use Rattle.std.specs.Prelude.{Bool, cond, not, ◌&&◌, ◌||◌, false, List, [], ◌∷◌, ℕ, zero, suc, ◌+◌, eqb, leb, length, Some, None, Ok, Err}
use Rattle.std.proofs.Math.Option.{Option, none, some}
use Rattle.order.specs.Order.{Event, idle, mark, send, receipt}
use Rattle.order.specs.Flight.{Message, in_flight}
use Rattle.logs.specs.declared.Record.{Record}
use Rattle.logs.specs.declared.Record.TheVariants.{Idle, Mark, Send, Receipt}
use Rattle.logs.specs.Record.{number_of, Step, Opening, record_at, opening_of}

-- refused with a number and a place; or accepted, with the node count and the events, the latest first
pub data Verdict : Type 0 where
  refused : ℕ → ℕ → Verdict
  accepted : ℕ → List Event → Verdict

-- the event that a record reports
abbrev pub event_of : Record → Event
event_of (Idle i) = idle i.0
event_of (Mark i) = mark i.0
event_of (Send i j m) = send i.0 j.0 m.0
event_of (Receipt j m) = receipt j.0 m.0

-- ---- the rules for one record

-- some message of the list passes the test
abbrev pub any : (Message → Bool) → List Message → Bool
any test [] = false
any test (x ∷ xs) = test x || any test xs

-- the cut has as many events as a log may have; and as many messages in flight
abbrev pub filled : List Event → Bool
filled cut = leb 4096 (length cut)

abbrev pub crowded : List Event → Bool
crowded cut = leb 128 (length (in_flight cut))

-- message number m is in flight at the end of the cut; and it is in flight to another node than j
abbrev pub flies : ℕ → List Event → Bool
flies m cut = any (λ x. eqb x.number m) (in_flight cut)

abbrev pub flies_elsewhere : ℕ → ℕ → List Event → Bool
flies_elsewhere m j cut = any (λ x. eqb x.number m && not (eqb x.to j)) (in_flight cut)

-- a rule of the table: its number, the place of its refusal, and whether it is broken
pub record Rule : Type 0 where
  pub number : ℕ
  pub place : ℕ
  pub broken : Bool

abbrev pub rule : ℕ → ℕ → Bool → Rule
rule x p b = record { number = x; place = p; broken = b }

-- The rules for a whole record at place p, in the order in which they are tested, for n nodes after the events of cut.
unfoldable pub rules : ℕ → List Event → ℕ → Record → List Rule
rules n cut p (Idle i) =
    rule 12 p (filled cut)
    ∷ rule 6 (p + 1) (leb n i.0)
    ∷ []
rules n cut p (Mark i) =
    rule 12 p (filled cut)
    ∷ rule 6 (p + 1) (leb n i.0)
    ∷ []
rules n cut p (Send i j m) =
    rule 12 p (filled cut)
    ∷ rule 6 (p + 1) (leb n i.0) ∷ rule 6 (p + 2) (leb n j.0)
    ∷ rule 7 (p + 2) (eqb i.0 j.0)
    ∷ rule 8 (p + 3) (flies m.0 cut)
    ∷ rule 9 p (crowded cut)
    ∷ []
rules n cut p (Receipt j m) =
    rule 12 p (filled cut)
    ∷ rule 6 (p + 1) (leb n j.0)
    ∷ rule 10 (p + 2) (not (flies m.0 cut))
    ∷ rule 11 (p + 2) (flies_elsewhere m.0 j.0 cut)
    ∷ []

-- the first rule of the list that is broken
abbrev pub first_broken : List Rule → Option Rule
first_broken [] = none
first_broken (r ∷ rs) = cond r.broken (some r) (first_broken rs)

-- ---- the walk over the records

-- what follows each answer of the reader; a refusal has its reason's number
abbrev pub after_opening : Opening → (ℕ → ℕ → Verdict) → Verdict
after_opening (Err f) go = refused (number_of f.reason) f.place
after_opening (Ok (n, c)) go = go n c.at

abbrev pub after_step : Step → ℕ → List Event → (Record → ℕ → Verdict) → Verdict
after_step (Ok None) n cut go = accepted n cut
after_step (Err f) n cut go = refused (number_of f.reason) f.place
after_step (Ok (Some (r, c))) n cut go = go r c.at

abbrev pub after_rules : Option Rule → Verdict → Verdict
after_rules (some r) rest = refused r.number r.place
after_rules none rest = rest

-- The verdict on the records from place p on, for n nodes after the events of cut. It takes a turn for each record, and a
-- record has two bytes at least, so as many turns as the log has bytes are enough.
unfoldable pub walk : ℕ → List ℕ → ℕ → ℕ → List Event → Verdict
walk zero log n p cut = accepted n cut
walk (suc turns) log n p cut =
    after_step (record_at log p) n cut
    (λ r q. after_rules (first_broken (rules n cut p r)) (walk turns log n q (event_of r ∷ cut)))

-- the verdict on a log
unfoldable pub verdict : List ℕ → Verdict
verdict log = after_opening (opening_of log) (λ n p. walk (length log) log n p [])
