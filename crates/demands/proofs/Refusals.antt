-- Demand 1, from the promise of a run: its number and place are those of the one row of 01's table that fits, its totals and
-- what its four rooms hold afterwards are fixed. By the four ways to end, each of which has its row.
-- Assumes nothing.
use mathlib.Core.Path.{◌≡◌, refl, sym, ◌∙◌, ap, subst}
use mathlib.Core.Logic.{◌≢◌, ◌↔◌, ⊎_elim}
use mathlib.Core.List.{List}
use Prim.Native.Nat.{ℕ, ◌+◌, ◌≤◌}
use native.Mathlib.Nat.{zero-add, le_refl}
use native.Mathlib.Omega.{arith}
use lib.ListN.{length, take, drop}
use lib.Seq.{take-append_seam, drop-append_seam}
use Rattle.order.specs.Order.{Event}
use Rattle.verdict.specs.Verdict.{accepted}
use Rattle.verdict.specs.Table.{Row}
use Rattle.verdict.proofs.Verdict.{row_unique}
use Rattle.verdict.proofs.Points.{refused_number, refused_within}
use Rattle.room.specs.declared.Mode.{Mode}
use Rattle.room.specs.declared.Mode.TheVariants.{Full}
use Rattle.groups.specs.Groups.{laid}
use Rattle.report.specs.declared.Answer.{Answer}
use Rattle.passes.specs.Report.{report_of, tally_of, bytes_alone}
use Rattle.report.specs.Run.{Ending, answer_of, report_after, number_of, place_of, totals_of, RoomsAfter, Ran}
use Rattle.report.specs.Settling.{Zero}
use Rattle.report.proofs.Endings.{zeroed_zero, zeroed_kept}
use Rattle.demands.specs.Demands.{Roomy, Answers, Completed, answers_0, answers_1, answers_log, answers_13}
use Rattle.demands.proofs.Endings.{Ended, ended_cramped, ended_refusal, ended_overlong, ended_complete, ended, ended_only, Outcome, outcome, outcome_of}

-- ---- the table

-- the row of a way to end
answers_ended : (mode : Mode) {log counts words mail : List ℕ} {size : ℕ} {e : Ending} → Ended log counts words mail size e
    → Answers log counts words mail size (number_of (answer_of mode log e)) (place_of (answer_of mode log e))
answers_ended mode (ended_cramped h) = answers_1 h
answers_ended mode (ended_refusal h f) = answers_log h f
answers_ended mode (ended_overlong h row long) = answers_13 h row long
answers_ended mode (ended_complete h row short) = answers_0 h row short

-- and the way of a row
ended_answers : (mode : Mode) {log counts words mail : List ℕ} {size x q : ℕ} → Answers log counts words mail size x q
    → (e : Ending) × Ended log counts words mail size e × (x ≡ number_of (answer_of mode log e)) × (q ≡ place_of (answer_of mode log e))
ended_answers mode (answers_0 h row short) = (_, ended_complete h row short, refl, refl)
ended_answers mode (answers_1 h) = (_, ended_cramped h, refl, refl)
ended_answers mode (answers_log h f) = (_, ended_refusal h f, refl, refl)
ended_answers mode (answers_13 h row long) = (_, ended_overlong h row long, refl, refl)

-- Every run has a row of the table, and no two.
pub table_some : (log counts words mail : List ℕ) (size : ℕ) → (x q : ℕ) × Answers log counts words mail size x q
table_some log counts words mail size = (_, _, answers_ended Full (ended log counts words mail size))

pub table_one : {log counts words mail : List ℕ} {size x q y p : ℕ} → Answers log counts words mail size x q → Answers log counts words mail size y p → (x ≡ y) × (q ≡ p)
table_one {log} {counts} {words} {mail} {size} a b =
    let (e, way, number, place) = ended_answers Full a in
    let (f, other, number₂, place₂) = ended_answers Full b in
    let same : e ≡ f = sym (ended_only log counts words mail size way) ∙ ended_only log counts words mail size other in
    (number ∙ ap (λ (e : Ending). number_of (answer_of Full log e)) same ∙ sym number₂, place ∙ ap (λ (e : Ending). place_of (answer_of Full log e)) same ∙ sym place₂)

-- ---- what a run leaves

-- bytes laid over the front of a room fill it, and what lies behind is as it was
pub laid_front : (bytes room : List ℕ) → take (length bytes) (laid 0 bytes room) ≡ bytes
laid_front bytes room = take-append_seam bytes (drop (0 + length bytes) room)

laid_behind : (bytes room : List ℕ) → drop (length bytes) (laid 0 bytes room) ≡ drop (length bytes) room
laid_behind bytes room = drop-append_seam bytes (drop (0 + length bytes) room) ∙ ap (λ k. drop k room) (zero-add (length bytes))

module _ {mode : Mode} {log counts words mail report counts' words' mail' report' : List ℕ} {r : Answer}
    (ran : Ran mode log counts words mail report counts' words' mail' report' r) where
  -- the run, way by way
  abbrev Seen : Type 0
  Seen = Outcome mode log counts words mail report counts' words' mail' report' r

  -- The table, both ways: a row of it gives this number at this place exactly if the run answers with them.
  pub refusal_table : (x q : ℕ) → Answers log counts words mail (length report) x q ↔ ((x ≡ number_of r) × (q ≡ place_of r))
  refusal_table x q = (to, from)
    where
      to : Answers log counts words mail (length report) x q → (x ≡ number_of r) × (q ≡ place_of r)
      to a =
          let (e, way, number, place) = ended_answers mode a in
          let answer : r ≡ answer_of mode log e = ran.answer_is ∙ ap (answer_of mode log) (ended_only log counts words mail (length report) way) in
          (number ∙ sym (ap number_of answer), place ∙ sym (ap place_of answer))

      from : (x ≡ number_of r) × (q ≡ place_of r) → Answers log counts words mail (length report) x q
      from h = rw (h.0, h.1, ran.answer_is) (answers_ended mode (ended log counts words mail (length report)))

  -- the number is one of the table's
  pub number_known : number_of r ≤ 13
  number_known = go (outcome_of ran)
    where
      go : Seen → number_of r ≤ 13
      go (outcome (ended_cramped h) a b c) = rw a (omega arith)
      go (outcome (ended_refusal h f) a b c) = rw a (omega (arith, refused_number f))
      go (outcome (ended_overlong h row long) a b c) = rw a (omega arith)
      go (outcome (ended_complete h row short) a b c) = rw a (omega arith)

  -- and the place is one of the log's, or its end
  pub place_known : place_of r ≤ length log
  place_known = go (outcome_of ran)
    where
      go : Seen → place_of r ≤ length log
      go (outcome (ended_cramped h) a b c) = rw a (omega arith)
      go (outcome (ended_refusal h f) a b c) = rw a (⊎_elim (λ x. omega arith) (λ x. omega arith) (refused_within f))
      go (outcome (ended_overlong h row long) a b c) = rw a (le_refl _)
      go (outcome (ended_complete h row short) a b c) = rw a (le_refl _)

  -- on a refusal all totals are 0
  pub totals_refused : number_of r ≢ 0 → number_of r ≢ 13 → totals_of r ≡ bytes_alone 0
  totals_refused some other = go (outcome_of ran)
    where
      go : Seen → totals_of r ≡ bytes_alone 0
      go (outcome (ended_cramped h) a b c) = ap totals_of a
      go (outcome (ended_refusal h f) a b c) = ap totals_of a
      go (outcome (ended_overlong h row long) a b c) = absurd (other (ap number_of a))
      go (outcome (ended_complete h row short) a b c) = absurd (some (ap number_of a))

  -- but 13 gives the bytes that the report needs
  pub totals_needed : number_of r ≡ 13 → (n : ℕ) × (cut : List Event) × Row log (accepted n cut) × (totals_of r ≡ bytes_alone (length (report_of n cut)))
  totals_needed here = go (outcome_of ran)
    where
      go : Seen → (n : ℕ) × (cut : List Event) × Row log (accepted n cut) × (totals_of r ≡ bytes_alone (length (report_of n cut)))
      go (outcome (ended_cramped h) a b c) = absurd (omega (arith, ap number_of a))
      go (outcome (ended_refusal h f) a b c) = absurd (omega (arith, ap number_of a, refused_number f))
      go (outcome (ended_overlong h row long) a b c) = (_, _, row, ap totals_of a)
      go (outcome (ended_complete h row short) a b c) = absurd (omega (arith, ap number_of a))

  -- on a refusal the report room is as it was
  pub report_kept : number_of r ≢ 0 → report' ≡ report
  report_kept some = go (outcome_of ran)
    where
      go : Seen → report' ≡ report
      go (outcome (ended_cramped h) a b c) = b
      go (outcome (ended_refusal h f) a b c) = b
      go (outcome (ended_overlong h row long) a b c) = b
      go (outcome (ended_complete h row short) a b c) = absurd (some (ap number_of a))

  -- on 1 the work rooms are as they were
  pub rooms_kept : number_of r ≡ 1 → (counts' ≡ counts) × (words' ≡ words) × (mail' ≡ mail)
  rooms_kept here = go (outcome_of ran)
    where
      go : Seen → (counts' ≡ counts) × (words' ≡ words) × (mail' ≡ mail)
      go (outcome (ended_cramped h) a b c) = c
      go (outcome (ended_refusal h f) a b c) = absurd (omega (arith, ap number_of a, refused_number f))
      go (outcome (ended_overlong h row long) a b c) = absurd (omega (arith, ap number_of a))
      go (outcome (ended_complete h row short) a b c) = absurd (omega (arith, ap number_of a))

  -- on every other refusal they are all zero
  pub rooms_zero : number_of r ≢ 0 → number_of r ≢ 1 → Zero (take 1024 counts') (take 1056 words') (take 4480 mail')
  rooms_zero some other = go (outcome_of ran)
    where
      go : Seen → Zero (take 1024 counts') (take 1056 words') (take 4480 mail')
      go (outcome (ended_cramped h) a b c) = absurd (other (ap number_of a))
      go (outcome (ended_refusal h f) a b c) = zeroed_zero counts words mail c
      go (outcome (ended_overlong h row long) a b c) = zeroed_zero counts words mail c
      go (outcome (ended_complete h row short) a b c) = absurd (some (ap number_of a))

  -- in every case the work rooms are as they were behind their fixed sizes
  pub behind_kept : (drop 1024 counts' ≡ drop 1024 counts) × (drop 1056 words' ≡ drop 1056 words) × (drop 4480 mail' ≡ drop 4480 mail)
  behind_kept = go (outcome_of ran)
    where
      go : Seen → (drop 1024 counts' ≡ drop 1024 counts) × (drop 1056 words' ≡ drop 1056 words) × (drop 4480 mail' ≡ drop 4480 mail)
      go (outcome (ended_cramped h) a b c) = (ap (drop 1024) c.0, ap (drop 1056) c.1, ap (drop 4480) c.2)
      go (outcome (ended_refusal h f) a b c) = zeroed_kept counts words mail c
      go (outcome (ended_overlong h row long) a b c) = zeroed_kept counts words mail c
      go (outcome (ended_complete h row short) a b c) = (c.1, c.2, c.3)

  -- On 0 the totals and the report are those of the log's events, and the work room holds the state after the last of them.
  pub run_completed : number_of r ≡ 0 → (n : ℕ) × (cut : List Event) × Completed mode log n cut report counts' words' mail' report' r
  run_completed here = go (outcome_of ran)
    where
      go : Seen → (n : ℕ) × (cut : List Event) × Completed mode log n cut report counts' words' mail' report' r
      go (outcome (ended_cramped h) a b c) = absurd (omega (arith, ap number_of a))
      go (outcome (ended_refusal h f) a b c) = absurd (omega (arith, ap number_of a, refused_number f))
      go (outcome (ended_overlong h row long) a b c) = absurd (omega (arith, ap number_of a))
      go (outcome (ended_complete h row short) a b c) =
          (_, _, record { accepted_is = row; answer_is = a; report_fits = short; report_laid = b; state_held = c.0 })

  -- It is so with the events that the log is accepted with,
  pub run_with : {n : ℕ} {cut : List Event} → number_of r ≡ 0 → Row log (accepted n cut) → Completed mode log n cut report counts' words' mail' report' r
  run_with {n} {cut} here row =
      let (m, past, done) = run_completed here in
      let same : accepted m past ≡ accepted n cut = row_unique log done.accepted_is row in
      let nodes : m ≡ n = cc in
      let events : past ≡ cut = cc in
      rw (nodes, events) at done

  -- and where the rooms are large enough and the log is accepted.
  pub run_completes : {n : ℕ} {cut : List Event} → Roomy counts words mail → Row log (accepted n cut) → length (report_of n cut) ≤ length report
      → Completed mode log n cut report counts' words' mail' report' r
  run_completes h row short =
      let end = ended_only log counts words mail (length report) (ended_complete h row short) in
      record {
        accepted_is = row;
        answer_is = ran.answer_is ∙ ap (answer_of mode log) end;
        report_fits = short;
        report_laid = ran.report_is ∙ ap (λ (e : Ending). report_after e report) end;
        state_held = (subst (λ e. RoomsAfter mode e counts words mail counts' words' mail') end ran.rooms_are).0;
      }

  -- So a run answers 0 exactly if the work rooms are large enough, the log is accepted and its report fits.
  pub accepted_when : (number_of r ≡ 0)
      ↔ (Roomy counts words mail × ((n : ℕ) × (cut : List Event) × Row log (accepted n cut) × (length (report_of n cut) ≤ length report)))
  accepted_when = (λ here. go here (outcome_of ran), λ h. ap number_of (run_completes h.0 h.1.2 h.1.3).answer_is)
    where
      go : number_of r ≡ 0 → Seen → Roomy counts words mail × ((n : ℕ) × (cut : List Event) × Row log (accepted n cut) × (length (report_of n cut) ≤ length report))
      go here (outcome (ended_cramped h) a b c) = absurd (omega (arith, ap number_of a))
      go here (outcome (ended_refusal h f) a b c) = absurd (omega (arith, ap number_of a, refused_number f))
      go here (outcome (ended_overlong h row long) a b c) = absurd (omega (arith, ap number_of a))
      go here (outcome (ended_complete h row short) a b c) = (h, (_, _, row, short))

-- where the report fills the front of its room, and the rest is as it was
pub report_filled : {mode : Mode} {log : List ℕ} {n : ℕ} {cut : List Event} {report counts' words' mail' report' : List ℕ} {r : Answer}
    → Completed mode log n cut report counts' words' mail' report' r
    → ((totals_of r).bytes ≡ length (report_of n cut))
    × (take (totals_of r).bytes report' ≡ report_of n cut) × (drop (totals_of r).bytes report' ≡ drop (totals_of r).bytes report)
unfolding tally_of
report_filled {n = n} {cut = cut} {report = report} {r = r} done =
    let size : (totals_of r).bytes ≡ length (report_of n cut) = ap (λ (a : Answer). (totals_of a).bytes) done.answer_is in
    (size, rw (size, done.report_laid) (laid_front (report_of n cut) report), rw (size, done.report_laid) (laid_behind (report_of n cut) report))
