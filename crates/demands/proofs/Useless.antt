-- 01's promise (c), of reports: programs that refuse everything, write nothing, give one fixed report or pass over all events
-- but the first do not keep the promise. Each fails on a log of two marks, or on one without events, computed.
-- Assumes nothing.
use mathlib.Core.Path.{◌≡◌, refl, sym, ◌∙◌, ap}
use mathlib.Core.Logic.{◌≢◌}
use mathlib.Core.List.{List, [], ◌∷◌}
use Prim.Native.Nat.{ℕ}
use native.Mathlib.Omega.{arith}
use lib.ListN.{get_or, replicate}
use Rattle.order.specs.Flight.{without, in_flight}
use Rattle.logs.specs.Record.{whole_at, record_at, opening_of}
use Rattle.verdict.specs.Verdict.{rules, walk, verdict}
use Rattle.machine.specs.Machine.{put, start, marked, meet, take_count, take_flag, received, step, whole, full}
use Rattle.machine.specs.Short.{offer, brief, short, note, learn_columns}
use Rattle.machine.specs.Answer.{flagged, answer, answers, weight, entries, more, totals}
use Rattle.room.specs.declared.Mode.{Mode}
use Rattle.room.specs.declared.Mode.TheVariants.{Full, Short}
use Rattle.room.specs.Modes.{says}
use Rattle.groups.specs.Groups.{stamp_record, stamp_records, cause_records, group_of, groups_of, laid}
use Rattle.passes.specs.Report.{report_of, tally_of}
use Rattle.report.specs.Run.{settled, ending, number_of}
use Rattle.demands.specs.Demands.{FirstEnds, first_ends, Input, cut_at, Given, Program, Meets}
use Rattle.demands.proofs.Inputs.{sample, sample_given, sample_roomy}
use Rattle.demands.proofs.Seen.{two_marks, two_report, seen, seen_run}

-- ---- the logs

-- no events; one mark, which is the first of two marks
abbrev no_events : List ℕ
no_events = 0x10 ∷ 1 ∷ []

abbrev one_mark : List ℕ
one_mark = 0x10 ∷ 1 ∷ 0x12 ∷ 0 ∷ []

abbrev one_report : List ℕ
one_report = 0x21 ∷ 0 ∷ 1 ∷ 0 ∷ 0 ∷ 0x22 ∷ 0 ∷ 1 ∷ 0 ∷ []

-- the first of two marks ends at place 4
first_mark : FirstEnds two_marks 4
unfolding opening_of record_at whole_at
first_mark = first_ends {c = record { at = 2 }} {d = record { at = 4 }} refl refl

-- what is to be seen of their runs
sample_reports : (mode : Mode)
    → ((seen mode no_events 22).number ≡ 0) × ((seen mode no_events 22).report ≡ [])
    × ((seen mode one_mark 22).report ≡ one_report)
    × ((seen mode two_marks 22).number ≡ 0) × ((seen mode two_marks 22).report ≡ two_report)
unfolding verdict walk rules record_at opening_of whole_at in_flight without settled ending tally_of report_of says answers answer flagged weight entries more totals full whole step start marked received meet take_count take_flag put short brief offer note learn_columns stamp_record stamp_records cause_records group_of groups_of
sample_reports Full = (refl, refl, refl, refl, refl)
sample_reports Short = (refl, refl, refl, refl, refl)

-- ---- useless reports

-- what a program that keeps the promise reports of them
module _ (program : Program) (mode : Mode) (meets : Meets program) where
  no_events_lem : (number_of (program (sample mode no_events 22)).answer ≡ 0) × ((program (sample mode no_events 22)).report ≡ replicate 22 0)
  no_events_lem =
      let ran = seen_run sample_roomy (meets (sample mode no_events 22) (sample_given mode no_events 22 refl)) in
      (ran.0 ∙ (sample_reports mode).0, ran.3 ∙ ap (λ l. laid 0 l (replicate 22 0)) (sample_reports mode).1)

  one_mark_lem : (program (sample mode one_mark 22)).report ≡ laid 0 one_report (replicate 22 0)
  one_mark_lem =
      let ran = seen_run sample_roomy (meets (sample mode one_mark 22) (sample_given mode one_mark 22 refl)) in
      ran.3 ∙ ap (λ l. laid 0 l (replicate 22 0)) (sample_reports mode).2

  two_marks_lem : (number_of (program (sample mode two_marks 22)).answer ≡ 0) × ((program (sample mode two_marks 22)).report ≡ two_report)
  two_marks_lem =
      let ran = seen_run sample_roomy (meets (sample mode two_marks 22) (sample_given mode two_marks 22 refl)) in
      (ran.0 ∙ (sample_reports mode).3, ran.3 ∙ ap (λ l. laid 0 l (replicate 22 0)) (sample_reports mode).4)

module _ (program : Program) (mode : Mode) where
  -- A program that refuses everything, in one of the modes, does not keep the promise.
  pub refusing_all : ((i : Input) → Given i → i.mode ≡ mode → number_of (program i).answer ≢ 0) → ¬ Meets program
  refusing_all useless meets = useless (sample mode no_events 22) (sample_given mode no_events 22 refl) refl (no_events_lem program mode meets).0

  -- One that writes nothing does not.
  pub writing_nothing : ((i : Input) → Given i → i.mode ≡ mode → (program i).report ≡ i.report) → ¬ Meets program
  writing_nothing useless meets = omega (arith, ap (λ (l : List ℕ). get_or l 0 0) same)
    where
      same : two_report ≡ replicate 22 0
      same = sym (two_marks_lem program mode meets).1 ∙ useless (sample mode two_marks 22) (sample_given mode two_marks 22 refl) refl

  -- One that lays one fixed report over the room for every log that it accepts does not.
  pub fixed_report : (fixed : List ℕ)
      → ((i : Input) → Given i → i.mode ≡ mode → number_of (program i).answer ≡ 0 → (program i).report ≡ laid 0 fixed i.report) → ¬ Meets program
  fixed_report fixed useless meets = omega (arith, ap (λ (l : List ℕ). get_or l 0 0) (sym two ∙ none))
    where
      none : laid 0 fixed (replicate 22 0) ≡ replicate 22 0
      none =
          let (number, report) = no_events_lem program mode meets in
          sym (useless (sample mode no_events 22) (sample_given mode no_events 22 refl) refl number) ∙ report

      two : laid 0 fixed (replicate 22 0) ≡ two_report
      two =
          let (number, report) = two_marks_lem program mode meets in
          sym (useless (sample mode two_marks 22) (sample_given mode two_marks 22 refl) refl number) ∙ report

  -- One that works through the first event and passes over the rest does not.
  pub first_event_only : ((i : Input) → Given i → i.mode ≡ mode → (q : ℕ) → FirstEnds i.log q → (program i).report ≡ (program (cut_at q i)).report)
      → ¬ Meets program
  first_event_only useless meets = omega (arith, ap (λ (l : List ℕ). get_or l 9 0) same)
    where
      same : two_report ≡ laid 0 one_report (replicate 22 0)
      same =
          sym (two_marks_lem program mode meets).1
          ∙ useless (sample mode two_marks 22) (sample_given mode two_marks 22 refl) refl 4 first_mark
          ∙ one_mark_lem program mode meets
