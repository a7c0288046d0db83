-- A turn of the pass does what the table of refusals says of the record at its place: by cases on what the reader answers, and
-- on whether the record is admitted.
-- Assumes nothing.
use mathlib.Core.Path.{◌≡◌, sym, subst}
use mathlib.Core.Logic.{◌⊎◌, inl, inr}
use mathlib.Core.List.{List, ◌∷◌}
use Prim.Native.Nat.{ℕ, ◌+◌, ◌^◌, ◌<◌, ◌≤◌}
use Rattle.std.specs.Prelude.{Some, None, Ok, Err}
use native.Mathlib.Omega.{arith}
use lib.ListN.{length}
use Rattle.order.specs.Order.{Event}
use Rattle.logs.specs.Record.{refusal, number_of, record_at}
use Rattle.logs.specs.declared.Record.{Record}
use Rattle.logs.specs.declared.Cursor.{Cursor}
use Rattle.logs.specs.declared.Reason.TheVariants.{UnknownKind, CutShort}
use Rattle.logs.specs.declared.Refusal.{Refusal}
use Rattle.logs.proofs.Stands.{read_forward, end_there, refused_there}
use Rattle.verdict.specs.Verdict.{event_of}
use Rattle.verdict.specs.Table as table
use Rattle.verdict.specs.Table.{Reached, reached_next, refused_4, refused_5, refused_rule}
use Rattle.verdict.proofs.Verdict.{reached_bound}
use Rattle.verdict.proofs.Accepted.{reached_lawful, reached_length}
use Rattle.machine.proofs.Totals.{total_events}
use Rattle.room.specs.declared.Mode.{Mode}
use Rattle.room.specs.Modes.{says}
use Rattle.room.specs.Finding.{Mailed}
use Rattle.protocol.specs.Admission.{Judges}
use Rattle.protocol.proofs.Judged.{admitted_passes, refused_breaks}
use Rattle.passes.specs.declared.Tally.{Tally}
use Rattle.passes.specs.Report.{tally_of}
use Rattle.passes.specs.Pass.{Noted, Stands, Halts, halts_4, halts_5, halts_rule, Turned, goes, ends, stops}

module _
    {mode : Mode} {log : List ℕ} {n p : ℕ} {cut : List Event} {room counts words mail report : List ℕ} {tally : Tally}
    (here : Stands mode log n p cut room counts words mail report tally) where
  -- what a look at the mail asks
  pub stands_mailed : Mailed n cut mail
  stands_mailed = record { lawful = reached_lawful here.reached; mode = mode; letters = here.noted.holds.letters }

  pub stands_place : p + 3 < 2 ^ 64
  stands_place = omega (arith, reached_length here.reached, (reached_lawful here.reached).few_events)

  -- as many events were counted as the cut has
  pub stands_events : length cut ≡ tally.events
  unfolding tally_of
  stands_events = rw here.noted.tallied (sym (total_events n (says mode) cut))

  -- no record is left
  pub turn_ends : record_at log p ≡ Ok None → Turned mode log n p cut room counts words mail report tally (Ok None)
  turn_ends e =
      let q : p ≡ length log = omega (arith, end_there log p e, reached_bound here.reached) in
      ends (subst (λ (p : ℕ). Stands mode log n p cut room counts words mail report tally) q here)

  -- the record there is no record, or is cut short
  pub turn_unread : {f : Refusal} → record_at log p ≡ Err f → Turned mode log n p cut room counts words mail report tally (Err f)
  turn_unread {f} e = go (refused_there log p e)
    where
      go : (f ≡ refusal UnknownKind p) ⊎ (f ≡ refusal CutShort p) → Turned mode log n p cut room counts words mail report tally (Err f)
      go (inl h) = rw h (stops here (halts_4 (rw h at e)))
      go (inr h) = rw h (stops here (halts_5 (rw h at e)))

  module _ {r : Record} {c : Cursor} (e : record_at log p ≡ Ok (Some (r, c))) where
    -- it breaks a rule
    pub turn_refused : {f : Refusal} → Judges n cut p r (Err f) → Turned mode log n p cut room counts words mail report tally (Err f)
    turn_refused j = stops here (halts_rule e (refused_breaks j))

    -- it is applied, and then noted
    pub turn_goes : {slot : ℕ} {sum : Tally} {counts' words' mail' report' : List ℕ} → Judges n cut p r (Ok slot)
        → Noted mode n (event_of r ∷ cut) room counts' words' mail' report' sum
        → Turned mode log n p cut room counts' words' mail' report' tally (Ok (Some (c, sum)))
    turn_goes j noted =
        goes (read_forward log p e).0 (record { reached = reached_next here.reached e (admitted_passes j).0; noted = noted })

-- ---- what a turn tells

module _
    {mode : Mode} {log : List ℕ} {n p : ℕ} {cut : List Event} {room counts words mail report : List ℕ} {tally : Tally} where
  pub next_stands : {next : Cursor} {sum : Tally} → Turned mode log n p cut room counts words mail report tally (Ok (Some (next, sum)))
      → (e : Event) × Stands mode log n next.at (e ∷ cut) room counts words mail report sum
  next_stands (goes {e = e} h there) = (e, there)

  pub next_forward : {next : Cursor} {sum : Tally} → Turned mode log n p cut room counts words mail report tally (Ok (Some (next, sum)))
      → (p < next.at) × (next.at ≤ length log)
  next_forward (goes h there) = (h, (reached_bound there.reached).1)

  pub last_stands : Turned mode log n p cut room counts words mail report tally (Ok None)
      → Stands mode log n (length log) cut room counts words mail report tally
  last_stands (ends there) = there

  pub stop_halts : {f : Refusal} → Turned mode log n p cut room counts words mail report tally (Err f)
      → Stands mode log n p cut room counts words mail report tally × Halts log n p cut (number_of f.reason) f.place
  stop_halts (stops there h) = (there, h)

-- a log that is refused at a place that was reached is refused
pub halts_refused : {log : List ℕ} {n p x q : ℕ} {cut : List Event} → Reached log n p cut → Halts log n p cut x q → table.Refused log x q
halts_refused here (halts_4 e) = refused_4 here e
halts_refused here (halts_5 e) = refused_5 here e
halts_refused here (halts_rule e b) = refused_rule here e b
