-- Comparing in the report that a run left, from the promise of the run alone, with full or with short messages: the report is the
-- log's own, so what is said of that holds of it.
-- Assumes nothing.
use mathlib.Core.Path.{◌≡◌, sym}
use mathlib.Core.Logic.{◌↔◌}
use mathlib.Core.List.{List}
use Prim.Native.Nat.{ℕ}
use lib.ListN.{length}
use Rattle.std.specs.Prelude.{Ok}
use Rattle.order.specs.Order.{Event, Before}
use Rattle.verdict.specs.Verdict.{accepted}
use Rattle.verdict.specs.Lawful.{Lawful}
use Rattle.verdict.specs.Table.{Row}
use Rattle.verdict.proofs.Accepted.{row_lawful}
use Rattle.machine.specs.Machine.{full}
use Rattle.machine.specs.Answer.{answers}
use Rattle.machine.proofs.Totals.{answers_many}
use Rattle.room.specs.declared.Mode.{Mode}
use Rattle.room.specs.Modes.{says}
use Rattle.groups.specs.Groups.{groups_of}
use Rattle.report.specs.declared.Answer as run
use Rattle.passes.specs.Report.{report_of, tally_of}
use Rattle.report.specs.Run.{totals_of, Ran}
use Rattle.report.specs.Run as told
use Rattle.demands.proofs.Refusals.{laid_front, run_with}
use Rattle.demands.proofs.ListedMarks.{answers_right}
use Rattle.demands.proofs.Arrows.{report_only}
use Rattle.shape.specs.declared.Mark.{Mark}
use Rattle.checking.specs.WellFormed.{WellFormed}
use Rattle.comparing.specs.declared.Standing.TheVariants as variants
use Rattle.comparing.specs.Compare.{number_of, compared}
use Rattle.comparisons.specs.OwnReport.{IsMark, HasMark, own_report}
use Rattle.comparisons.proofs.OwnReport as own

module _ {mode : Mode} {log counts words mail report counts' words' mail' report' : List ℕ} {r : run.Answer}
    (ran : Ran mode log counts words mail report counts' words' mail' report' r) (here : told.number_of r ≡ 0)
    {n : ℕ} {cut : List Event} (row : Row log (accepted n cut)) where
  lawful : Lawful n cut
  lawful = row_lawful row

  -- the report that the run left is the log's own
  left : own_report r report' ≡ report_of n cut
  unfolding report_of
  left =
      let (is, size) = report_only ran here row (answers_right lawful.sound) in
      rw (size, is) (laid_front (groups_of n (answers n full cut)) report)

  -- the total of marks is the number of their answers
  marks_many : (totals_of r).marks ≡ length (answers n full cut)
  unfolding tally_of
  marks_many = rw (run_with ran here row).answer_is (sym (answers_many n (says mode) full cut))

  -- It is well formed, with a group for each mark of the log,
  pub run_well_formed : WellFormed (own_report r report') (totals_of r).marks
  run_well_formed = rw (left, marks_many) (own.own_well_formed lawful)

  -- so comparing never refuses it.
  pub run_never_14 : (e f : Mark) → ¬ (number_of (compared (own_report r report') e f) ≡ 14)
  run_never_14 e f = rw left (own.own_never_14 lawful e f)

  -- For two marks of the log, at places p and q: before, just if the first is before the second in Lamport's order;
  module _ {e f : Mark} {p q : ℕ} (first : IsMark cut e p) (second : IsMark cut f q) where
    pub run_before : (compared (own_report r report') e f ≡ Ok variants.Before) ↔ Before cut p q
    run_before = rw left (own.own_before lawful first second)

    -- after, just if the second is before the first;
    pub run_after : (compared (own_report r report') e f ≡ Ok variants.After) ↔ Before cut q p
    run_after = rw left (own.own_after lawful first second)

    -- apart, just if neither is before the other.
    pub run_apart : (compared (own_report r report') e f ≡ Ok variants.Apart) ↔ ((¬ Before cut p q) × (¬ Before cut q p))
    run_apart = rw left (own.own_apart lawful first second)

  -- A first mark that the log has not is 15, and no other is;
  pub run_15 : (e f : Mark) → (number_of (compared (own_report r report') e f) ≡ 15) ↔ (¬ HasMark cut e)
  run_15 e f = rw left (own.own_15 lawful e f)

  -- a second one is 16.
  pub run_16 : (e f : Mark) → (number_of (compared (own_report r report') e f) ≡ 16) ↔ (HasMark cut e × (¬ HasMark cut f))
  run_16 e f = rw left (own.own_16 lawful e f)
