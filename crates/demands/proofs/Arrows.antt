-- Demand 2, from the promise of a run down to the bytes of its report: it is the groups of the right answers to the log's marks,
-- in log order, and there are no other right answers.
-- Assumes nothing.
use mathlib.Core.Path.{◌≡◌, refl, sym, ◌∙◌, ap}
use mathlib.Core.List.{List, [], ◌++◌, append_assoc, Memᴰ}
use Prim.Native.Nat.{ℕ}
use lib.ListN.{length, take}
use Rattle.order.specs.Order.{Event, mark, At}
use Rattle.verdict.specs.Verdict.{accepted}
use Rattle.verdict.specs.Table.{Row}
use Rattle.verdict.proofs.Accepted.{row_lawful}
use Rattle.machine.specs.Machine.{full}
use Rattle.machine.specs.Answer.{Answer, answers, Right}
use Rattle.room.specs.declared.Mode.{Mode}
use Rattle.groups.specs.Groups.{group_of, groups_of, laid}
use Rattle.report.specs.declared.Answer as run
use Rattle.passes.specs.Report.{report_of}
use Rattle.report.specs.Run.{number_of, totals_of, Ran}
use Rattle.demands.specs.Demands.{marks_of, Each}
use Rattle.demands.proofs.Refusals.{laid_front, run_completed, run_with, report_filled}
use Rattle.demands.proofs.ListedMarks.{marks_listed, each_partner, answers_right, answers_only}

-- the group of an answer stands among the groups
groups_part : (n : ℕ) {a : Answer} {told : List Answer} → Memᴰ a told → (front behind : List ℕ) × (groups_of n told ≡ front ++ (group_of n a ++ behind))
unfolding groups_of
groups_part n (Memᴰ.head {xs = xs} e) = ([], groups_of n xs, rw e refl)
groups_part n (Memᴰ.tail {x = x} m) =
    let (front, behind, parts) = groups_part n m in
    (group_of n x ++ front, behind, ap (λ l. group_of n x ++ l) parts ∙ sym (append_assoc (group_of n x) front _))

module _ {mode : Mode} {log counts words mail report counts' words' mail' report' : List ℕ} {r : run.Answer}
    (ran : Ran mode log counts words mail report counts' words' mail' report' r) (here : number_of r ≡ 0) where
  -- The report of an accepted log: for each of its marks in log order the group of an answer that is right, stamp and direct
  -- predecessors, and nothing else; behind it the room is as it was.
  pub report_true : (n : ℕ) × (cut : List Event) × (told : List Answer) × Row log (accepted n cut) × Each (Right cut) (marks_of cut) told
      × (report' ≡ laid 0 (groups_of n told) report) × ((totals_of r).bytes ≡ length (groups_of n told))
  unfolding report_of
  report_true =
      let (n, cut, done) = run_completed ran here in
      (n, cut, answers n full cut, done.accepted_is, answers_right (row_lawful done.accepted_is).sound, done.report_laid, (report_filled done).0)

  -- Whatever answers are right for the marks of the log, their groups are the report.
  pub report_only : {n : ℕ} {cut : List Event} {told : List Answer} → Row log (accepted n cut) → Each (Right cut) (marks_of cut) told
      → (report' ≡ laid 0 (groups_of n told) report) × ((totals_of r).bytes ≡ length (groups_of n told))
  unfolding report_of
  report_only row each =
      let done = run_with ran here row in
      rw (answers_only each (answers_right (row_lawful row).sound)) (done.report_laid, (report_filled done).0)

  -- Every mark of the log has its group in the report, with its stamp and its direct predecessors.
  pub mark_reported : {n : ℕ} {cut : List Event} {p i : ℕ} → Row log (accepted n cut) → At cut p (mark i)
      → (a : Answer) × Right cut p a × (front behind : List ℕ) × (take (totals_of r).bytes report' ≡ front ++ (group_of n a ++ behind))
  mark_reported {n} {cut} {p} {i} row there =
      let told = answers n full cut in
      let each = answers_right (row_lawful row).sound in
      let (is, size) = report_only row each in
      let (a, listed, right) = each_partner each ((marks_listed cut p).1 (i, there)) in
      let (front, behind, parts) = groups_part n listed in
      (a, right, front, behind, rw (size, is) (laid_front (groups_of n told) report ∙ parts))
