-- 01's promise (c), of messages: programs that carry everything or nothing in short messages, or invent the total of what they
-- carry, do not keep the promise.
-- Assumes nothing.
use mathlib.Core.Path.{◌≡◌, refl, ◌∙◌, ap, subst}
use mathlib.Core.Logic.{◌≢◌}
use mathlib.Core.Bool.{true}
use mathlib.Core.List.{List, [], ◌∷◌}
use Prim.Native.Nat.{ℕ, ◌+◌, ◌*◌, ◌<◌, ◌≤◌}
use native.Mathlib.Omega.{arith}
use lib.ListN.{length, get_or}
use Rattle.order.specs.Order.{Event, mark, send, receipt}
use Rattle.order.specs.Flight.{without, in_flight}
use Rattle.logs.specs.Record.{whole_at, record_at, opening_of}
use Rattle.verdict.specs.Verdict.{accepted, rules, walk, verdict}
use Rattle.verdict.specs.Table.{Row}
use Rattle.verdict.proofs.Verdict.{verdict_row}
use Rattle.verdict.proofs.Cases.{log_b}
use Rattle.machine.specs.Machine.{put, start, marked, meet, take_count, take_flag, received, step, whole, full}
use Rattle.machine.specs.Short.{offer, brief, short, note, learn_columns, columns}
use Rattle.machine.specs.History.{DueInAll}
use Rattle.machine.specs.Answer.{flagged, answer, answers, weight, entries, more, totals}
use Rattle.room.specs.declared.Mode.{Mode}
use Rattle.room.specs.declared.Mode.TheVariants.{Full, Short}
use Rattle.room.specs.Modes.{says}
use Rattle.room.specs.Slots.{slot_at, fill, vacate, slots}
use Rattle.room.specs.Room.{barn, element}
use Rattle.groups.specs.Groups.{stamp_record, stamp_records, cause_records, group_of, groups_of}
use Rattle.passes.specs.declared.Tally.{Tally}
use Rattle.passes.specs.Report.{report_of, tally_of}
use Rattle.report.specs.Run.{settled, ending, number_of, totals_of, Ran}
use Rattle.demands.specs.Demands.{Reports, Roomy, Input, in_mode, Given, Program, Meets}
use Rattle.demands.proofs.Refusals.{run_completes}
use Rattle.demands.proofs.Reported.{own_length}
use Rattle.demands.proofs.Messages.{carried_only}
use Rattle.demands.proofs.Letters.{mail_at}
use Rattle.demands.proofs.Inputs.{all_below, sample, sample_given, sample_roomy}
use Rattle.demands.proofs.Seen.{seen, seen_run}

-- ---- useless totals

-- what is to be seen of log B with short messages: 3 entries in 3 sends
sample_totals : ((seen Short log_b 43).number ≡ 0) × ((seen Short log_b 43).totals.sends ≡ 3) × ((seen Short log_b 43).totals.carried ≡ 3)
unfolding verdict walk rules record_at opening_of whole_at in_flight without settled ending tally_of report_of says answers answer flagged weight entries more totals full whole step start marked received meet take_count take_flag put short brief offer note learn_columns stamp_record stamp_records cause_records group_of groups_of
sample_totals = (refl, refl, refl)

module _ (program : Program) where
  -- A program whose total of carried entries, with short messages, is not the one that is due does not keep the promise: on any
  -- accepted log, in rooms that are large enough.
  pub invented_total : (i : Input) → Given i → i.mode ≡ Short → Roomy i.counts i.words i.mail
      → {n : ℕ} {cut : List Event} {d : ℕ} → Row i.log (accepted n cut) → length (report_of n cut) ≤ length i.report
      → DueInAll columns n cut d → (totals_of (program i).answer).carried ≢ d → ¬ Meets program
  invented_total i given in_short roomy row large due other meets = other (carried_only (run_completes ran roomy row large) due)
    where
      ran : Ran Short i.log i.counts i.words i.mail i.report
          (program i).counts (program i).words (program i).mail (program i).report (program i).answer
      ran =
          subst (λ (mode : Mode). Ran mode i.log i.counts i.words i.mail i.report
          (program i).counts (program i).words (program i).mail (program i).report (program i).answer) in_short (meets i given)

  -- the same, where whatever bytes are the report of the log fit
  pub reports_invented : (i : Input) → Given i → i.mode ≡ Short → Roomy i.counts i.words i.mail
      → {n : ℕ} {cut : List Event} {bytes : List ℕ} {d : ℕ} → Row i.log (accepted n cut) → Reports n cut bytes → length bytes ≤ length i.report
      → DueInAll columns n cut d → (totals_of (program i).answer).carried ≢ d → ¬ Meets program
  reports_invented i given in_short roomy row reports large due other = invented_total i given in_short roomy row (rw (own_length row reports) at large) due other

  -- what a program that keeps the promise answers of log B
  log_B : Meets program → (number_of (program (sample Short log_b 43)).answer ≡ 0)
      × ((totals_of (program (sample Short log_b 43)).answer).sends ≡ 3) × ((totals_of (program (sample Short log_b 43)).answer).carried ≡ 3)
  log_B meets =
      let ran = seen_run sample_roomy (meets (sample Short log_b 43) (sample_given Short log_b 43 refl)) in
      (ran.0 ∙ sample_totals.0, ap (λ (t : Tally). t.sends) ran.2 ∙ sample_totals.1, ap (λ (t : Tally). t.carried) ran.2 ∙ sample_totals.2)

  -- One that carries everything in short messages, an entry for each node with each send, does not.
  pub carrying_all : ((i : Input) → Given i → i.mode ≡ Short → number_of (program i).answer ≡ 0
      → (totals_of (program i).answer).carried ≡ get_or i.log 1 0 * (totals_of (program i).answer).sends) → ¬ Meets program
  carrying_all useless meets =
      let (number, sends, carried) = log_B meets in
      let all = useless (sample Short log_b 43) (sample_given Short log_b 43 refl) refl number in
      omega arith

  -- One that carries nothing does not.
  pub carrying_nothing : ((i : Input) → Given i → i.mode ≡ Short → number_of (program i).answer ≡ 0 → (totals_of (program i).answer).carried ≡ 0)
      → ¬ Meets program
  carrying_nothing useless meets =
      let (number, sends, carried) = log_B meets in
      let none = useless (sample Short log_b 43) (sample_given Short log_b 43 refl) refl number in
      omega arith

-- ---- useless letters

-- log B up to its first message, and up to the message that node 1 sends back
abbrev sent : List ℕ
sent = 0x10 ∷ 2 ∷ 0x12 ∷ 0 ∷ 0x13 ∷ 0 ∷ 1 ∷ 1 ∷ 0 ∷ []

abbrev cut_sent : List Event
cut_sent = send 0 1 1 ∷ mark 0 ∷ []

abbrev answered : List ℕ
answered = 0x10 ∷ 2 ∷ 0x12 ∷ 0 ∷ 0x13 ∷ 0 ∷ 1 ∷ 1 ∷ 0 ∷ 0x14 ∷ 1 ∷ 1 ∷ 0 ∷ 0x13 ∷ 1 ∷ 0 ∷ 2 ∷ 0 ∷ []

abbrev cut_answered : List Event
cut_answered = send 1 0 2 ∷ receipt 1 1 ∷ cut_sent

-- they are accepted with these events, and their reports have 9 bytes
sent_accepted : (verdict sent ≡ accepted 2 cut_sent) × (length (report_of 2 cut_sent) ≡ 9)
    × (verdict answered ≡ accepted 2 cut_answered) × (length (report_of 2 cut_answered) ≡ 9)
unfolding verdict walk rules record_at opening_of whole_at in_flight without report_of answers answer flagged full whole step start marked received meet take_count take_flag put stamp_record stamp_records cause_records group_of groups_of
sent_accepted = (refl, refl, refl, refl)

-- What the last letter of each says of node 0: its count 1 with the flag set, also in short; but back to node 0 in short nothing.
sent_says : (element 2 (barn Short cut_sent).state.letter (slot_at (slots cut_sent) 0) 3 ≡ 3)
    × (element 2 (barn Full cut_answered).state.letter (slot_at (slots cut_answered) 0) 3 ≡ 3)
    × (element 2 (barn Short cut_answered).state.letter (slot_at (slots cut_answered) 0) 3 ≡ 0)
unfolding barn short step brief offer put start marked received take_count take_flag meet learn_columns note slots fill vacate element
sent_says = (refl, refl, refl)

module _ (program : Program) where
  -- the entry for node 0 in the first slot, after a run that keeps the promise
  first_entry : Meets program → (mode : Mode) (log : List ℕ) (cut : List Event) → all_below 256 log ≡ true → verdict log ≡ accepted 2 cut → length (report_of 2 cut) ≡ 9
      → (number_of (program (sample mode log 9)).answer ≡ 0)
      × (get_or (program (sample mode log 9)).mail 3 0 ≡ element 2 (barn mode cut).state.letter (slot_at (slots cut) 0) 3)
  first_entry meets mode log cut bytes ok size =
      let row : Row log (accepted 2 cut) = subst (Row log) ok (verdict_row log) in
      let done = run_completes (meets (sample mode log 9) (sample_given mode log 9 bytes)) sample_roomy row (omega arith) in
      (ap number_of done.answer_is, mail_at done 0 3 (omega arith) (omega arith))

  -- A program that carries everything in short messages, so that they are as with full ones, does not keep the promise.
  pub full_letters : ((i : Input) → Given i → (program (in_mode Short i)).mail ≡ (program (in_mode Full i)).mail) → ¬ Meets program
  full_letters useless meets =
      let (number, short_says) = first_entry meets Short answered cut_answered refl sent_accepted.2 sent_accepted.3 in
      let (number₂, full_says) = first_entry meets Full answered cut_answered refl sent_accepted.2 sent_accepted.3 in
      let same = ap (λ (l : List ℕ). get_or l 3 0) (useless (sample Short answered 9) (sample_given Short answered 9 refl)) in
      omega (arith, sent_says.1, sent_says.2)

  -- One whose short messages carry nothing does not.
  pub empty_letters : ((i : Input) → Given i → i.mode ≡ Short → number_of (program i).answer ≡ 0
      → (s k : ℕ) → s < 128 → k < 32 → get_or (program i).mail (35 * s + 3 + k) 0 ≡ 0) → ¬ Meets program
  empty_letters useless meets =
      let (number, says) = first_entry meets Short sent cut_sent refl sent_accepted.0 sent_accepted.1 in
      let none = useless (sample Short sent 9) (sample_given Short sent 9 refl) refl number 0 0 (omega arith) (omega arith) in
      omega (arith, sent_says.0)
