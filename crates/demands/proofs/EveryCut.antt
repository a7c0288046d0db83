-- Demand 3 at every cut: an accepted log that is cut after any record is an accepted log, with an earlier cut of the events, so
-- both runs of it are accepted too and agree, and their rooms hold the state after that cut.
-- Assumes nothing.
use mathlib.Core.Path.{◌≡◌, subst}
use mathlib.Core.List.{List, ◌++◌}
use Prim.Native.Nat.{ℕ, ◌≤◌}
use native.Mathlib.Omega.{arith}
use lib.ListN.{length, take, length-append}
use Rattle.order.specs.Order.{Event}
use Rattle.verdict.specs.Verdict.{accepted}
use Rattle.verdict.specs.Table.{Row, Ends}
use Rattle.verdict.proofs.Verdict.{row_verdict, verdict_row}
use Rattle.verdict.proofs.Cuts.{ends_accepted}
use Rattle.machine.specs.Machine.{full}
use Rattle.machine.specs.Answer.{answers}
use Rattle.machine.proofs.Answers.{answers_grown}
use Rattle.room.specs.declared.Mode.TheVariants.{Full, Short}
use Rattle.groups.proofs.GroupsSame.{groups_append}
use Rattle.groups.specs.Groups.{groups_of}
use Rattle.report.specs.declared.Answer as run
use Rattle.passes.specs.Report.{report_of}
use Rattle.report.specs.Run.{Ran}
use Rattle.demands.specs.Demands.{Roomy, Completed, SameButCarried, SameArrows, RunsAgree}
use Rattle.demands.proofs.Refusals.{run_completes}
use Rattle.demands.proofs.Reported.{reports_complete}
use Rattle.demands.proofs.Messages.{same_arrows, same_answers}

-- the report of a cut is no longer than that of a later one
report_grows : (n : ℕ) (later past : List Event) {cut : List Event} → cut ≡ later ++ past → length (report_of n past) ≤ length (report_of n cut)
unfolding report_of
report_grows n later past parts =
    let (rest, more) = answers_grown n full past later in
    rw (parts, more, groups_append n (answers n full past) rest) (omega (arith, length-append (groups_of n (answers n full past)) (groups_of n rest)))

-- Cut an accepted log after any record, and run what is left with full and with short messages, in rooms that are large enough for
-- the whole log. Both runs are accepted, with an earlier cut of the log's events. They answer the same but for the entries that the
-- messages carried, every node holds the same counts and flags, and the report is the same.
pub cuts_agree : {log : List ℕ} {n : ℕ} {cut : List Event} {p : ℕ} → Row log (accepted n cut) → Ends log p
    → {counts words mail report counts' words' mail' report' : List ℕ} {r : run.Answer}
    {counts₂ words₂ mail₂ report₂ counts₂' words₂' mail₂' report₂' : List ℕ} {s : run.Answer}
    → Roomy counts words mail → length (report_of n cut) ≤ length report
    → Roomy counts₂ words₂ mail₂ → length (report_of n cut) ≤ length report₂
    → Ran Full (take p log) counts words mail report counts' words' mail' report' r
    → Ran Short (take p log) counts₂ words₂ mail₂ report₂ counts₂' words₂' mail₂' report₂' s
    → (later past : List Event) × (cut ≡ later ++ past)
    × Completed Full (take p log) n past report counts' words' mail' report' r
    × Completed Short (take p log) n past report₂ counts₂' words₂' mail₂' report₂' s
    × SameButCarried r s × SameArrows counts' words' report' counts₂' words₂' report₂' r s
cuts_agree {log} {n} {cut} {p} row here roomy large roomy₂ large₂ a b =
    let (later, past, parts, ok) = ends_accepted log n cut (row_verdict log row) here in
    let there : Row (take p log) (accepted n past) = subst (Row (take p log)) ok (verdict_row (take p log)) in
    let grown = report_grows n later past parts in
    let done = run_completes a roomy there (omega arith) in
    let other = run_completes b roomy₂ there (omega arith) in
    (later, past, parts, done, other, same_answers done other, same_arrows done other)

-- What is left of an accepted log that is cut after any record is accepted, with an earlier cut of the events, and every two runs of it
-- agree, one full and one short, in rooms that are large enough for what is left and its own report.
pub cut_runs_agree : {log : List ℕ} {n : ℕ} {cut : List Event} {p : ℕ} → Row log (accepted n cut) → Ends log p
    → (later past : List Event) × (cut ≡ later ++ past) × Row (take p log) (accepted n past) × RunsAgree (take p log) n past
cut_runs_agree {log} {n} {cut} {p} row here =
    let (later, past, parts, ok) = ends_accepted log n cut (row_verdict log row) here in
    let there : Row (take p log) (accepted n past) = subst (Row (take p log)) ok (verdict_row (take p log)) in (
      later,
      past,
      parts,
      there,
      record {
        runs = λ reports roomy large roomy₂ large₂ a b.
            let done = reports_complete a roomy there reports large in
            let other = reports_complete b roomy₂ there reports large₂ in
            (done, other, same_answers done other, same_arrows done other);
      },
    )
