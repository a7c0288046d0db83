-- What a run answers, tells and leaves, said with the report of its log alone, the groups of the right answers to its marks: since an
-- accepted log has one such report and it is the machine's.
-- Assumes nothing.
use mathlib.Core.Path.{◌≡◌, refl, sym, ◌∙◌, ap}
use mathlib.Core.Logic.{◌≢◌, ◌↔◌, ◌⊎◌, ⊎_elim}
use mathlib.Core.List.{List}
use Prim.Native.Nat.{ℕ, ◌≤◌}
use native.Mathlib.Omega.{arith}
use lib.ListN.{length}
use Rattle.order.specs.Order.{Event}
use Rattle.verdict.specs.Verdict.{accepted}
use Rattle.verdict.specs.Table.{Row, Refused}
use Rattle.verdict.proofs.Verdict.{row_unique}
use Rattle.verdict.proofs.Accepted.{row_lawful}
use Rattle.verdict.proofs.Points.{refused_number}
use Rattle.room.specs.declared.Mode.{Mode}
use Rattle.groups.specs.Groups.{laid}
use Rattle.report.specs.declared.Answer.{Answer}
use Rattle.passes.specs.Report.{report_of, tally_of, bytes_alone}
use Rattle.report.specs.Run.{number_of, place_of, totals_of, Ran}
use Rattle.demands.specs.Demands.{Reports, Roomy, Answers, Completed, answers_0, answers_1, answers_log, answers_13}
use Rattle.demands.proofs.Endings.{ended_cramped, ended_refusal, ended_overlong, ended_complete, Outcome, outcome, outcome_of}
use Rattle.demands.proofs.Refusals.{refusal_table, totals_needed, run_completed, run_with, run_completes, accepted_when, report_filled}
use Rattle.demands.proofs.ListedMarks.{reports_some, reports_one, reports_long}

-- the report of an accepted log is the machine's, and no other has its length
pub own_report_lem : {log : List ℕ} {n : ℕ} {cut : List Event} → Row log (accepted n cut) → Reports n cut (report_of n cut)
own_report_lem row = reports_some (row_lawful row).sound

pub own_length : {log : List ℕ} {n : ℕ} {cut : List Event} {bytes : List ℕ} → Row log (accepted n cut) → Reports n cut bytes
    → length bytes ≡ length (report_of n cut)
own_length row reports = reports_long (row_lawful row).sound reports

module _ {mode : Mode} {log counts words mail report counts' words' mail' report' : List ℕ} {r : Answer}
    (ran : Ran mode log counts words mail report counts' words' mail' report' r) where
  -- It answers with any other number but 0, 1 and 13 exactly if the work rooms are large enough and the log is refused with it.
  pub refused_when : {x q : ℕ} → x ≢ 0 → x ≢ 1 → x ≢ 13 → ((x ≡ number_of r) × (q ≡ place_of r)) ↔ (Roomy counts words mail × Refused log x q)
  refused_when {x} {q} some other last = (λ h. go some other last ((refusal_table ran x q).1 h), λ h. (refusal_table ran x q).0 (answers_log h.0 h.1))
    where
      go : {x q : ℕ} → x ≢ 0 → x ≢ 1 → x ≢ 13 → Answers log counts words mail (length report) x q → Roomy counts words mail × Refused log x q
      go some other last (answers_0 h row short) = absurd (some refl)
      go some other last (answers_1 h) = absurd (other refl)
      go some other last (answers_log h f) = (h, f)
      go some other last (answers_13 h row long) = absurd (last refl)

  -- The bytes that it tells are those of the log's report, whether that fits or not.
  pub bytes_told : (number_of r ≡ 0) ⊎ (number_of r ≡ 13) → {n : ℕ} {cut : List Event} {bytes : List ℕ} → Row log (accepted n cut) → Reports n cut bytes
      → (totals_of r).bytes ≡ length bytes
  unfolding tally_of
  bytes_told known {n} {cut} row reports = sym (own_length row reports ∙ sym (go known (outcome_of ran)))
    where
      same : {m : ℕ} {past : List Event} → Row log (accepted m past) → length (report_of m past) ≡ length (report_of n cut)
      same {m} {past} other =
          let e : accepted m past ≡ accepted n cut = row_unique log other row in
          let nodes : m ≡ n = cc in
          let events : past ≡ cut = cc in
          rw (nodes, events)

      go : (number_of r ≡ 0) ⊎ (number_of r ≡ 13) → Outcome mode log counts words mail report counts' words' mail' report' r
          → (totals_of r).bytes ≡ length (report_of n cut)
      go known (outcome (ended_cramped h) a b c) = absurd (⊎_elim (λ z. omega (arith, ap number_of a)) (λ z. omega (arith, ap number_of a)) known)
      go known (outcome (ended_refusal h f) a b c) =
          absurd (⊎_elim (λ z. omega (arith, ap number_of a, refused_number f)) (λ z. omega (arith, ap number_of a, refused_number f)) known)
      go known (outcome (ended_overlong h other long) a b c) = ap (λ (t : Answer). (totals_of t).bytes) a ∙ same other
      go known (outcome (ended_complete h other short) a b c) = ap (λ (t : Answer). (totals_of t).bytes) a ∙ same other

  -- 13 gives the bytes that the log's report needs
  pub reports_needed : number_of r ≡ 13 → (n : ℕ) × (cut : List Event) × (bytes : List ℕ) × Row log (accepted n cut) × Reports n cut bytes
      × (totals_of r ≡ bytes_alone (length bytes))
  reports_needed here = let (n, cut, row, totals) = totals_needed ran here in (n, cut, report_of n cut, row, own_report_lem row, totals)

  -- where the work rooms are large enough and the log is accepted and its report fits, the run completes
  pub reports_complete : {n : ℕ} {cut : List Event} {bytes : List ℕ} → Roomy counts words mail → Row log (accepted n cut) → Reports n cut bytes
      → length bytes ≤ length report → Completed mode log n cut report counts' words' mail' report' r
  reports_complete h row reports short = run_completes ran h row (rw (own_length row reports) at short)

  -- So a run answers 0 exactly if the work rooms are large enough, the log is accepted and its report fits.
  pub reports_accepted : (number_of r ≡ 0)
      ↔ (Roomy counts words mail × ((n : ℕ) × (cut : List Event) × (bytes : List ℕ) × Row log (accepted n cut) × Reports n cut bytes × (length bytes ≤ length report)))
  reports_accepted = (
    λ here. let (roomy, (n, cut, row, short)) = (accepted_when ran).0 here in (roomy, (n, cut, report_of n cut, row, own_report_lem row, short)),
    λ h. ap number_of (reports_complete h.0 h.1.3 h.1.4 h.1.5).answer_is,
  )

  module _ (here : number_of r ≡ 0) where
    -- The report that an accepted run leaves is its log's, and behind it the room is as it was.
    pub reports_true : (n : ℕ) × (cut : List Event) × (bytes : List ℕ) × Row log (accepted n cut) × Reports n cut bytes
        × (report' ≡ laid 0 bytes report) × ((totals_of r).bytes ≡ length bytes)
    reports_true =
        let (n, cut, done) = run_completed ran here in
        (n, cut, report_of n cut, done.accepted_is, own_report_lem done.accepted_is, done.report_laid, (report_filled done).0)

    -- Whatever bytes are the report of the log, they are what the run leaves.
    pub reports_only : {n : ℕ} {cut : List Event} {bytes : List ℕ} → Row log (accepted n cut) → Reports n cut bytes
        → (report' ≡ laid 0 bytes report) × ((totals_of r).bytes ≡ length bytes)
    reports_only row reports =
        let done = run_with ran here row in
        rw (reports_one reports (own_report_lem row)) (done.report_laid, (report_filled done).0)
