-- Demand 3, from the promises of two runs of one log: with short messages a run answers as with full ones but for what they
-- carried, every node holds the same counts and flags, and the report is the same; and short messages carry just what is due.
-- Assumes nothing.
use mathlib.Core.Path.{◌≡◌, refl, sym, ◌∙◌}
use mathlib.Core.List.{List}
use Prim.Native.Nat.{ℕ, ◌*◌}
use native.Mathlib.Omega.{arith}
use lib.ListN.{length}
use lib.Seq.{get_or-take}
use Rattle.order.specs.Order.{Event, mark, send, At, Counts}
use Rattle.order.proofs.Counts.{counts_unique}
use Rattle.verdict.proofs.Accepted.{row_lawful}
use Rattle.machine.specs.Short.{columns}
use Rattle.machine.specs.History.{InAll, DueInAll}
use Rattle.machine.proofs.Totals.{total_events, total_marks, total_sends, full_carried, short_carried, due_unique}
use Rattle.room.specs.declared.Mode.{Mode}
use Rattle.room.specs.declared.Mode.TheVariants.{Full, Short}
use Rattle.room.specs.Modes.{Counted, says}
use Rattle.room.specs.Room.{fits}
use Rattle.room.proofs.OneRoom.{same_counts, same_flags}
use Rattle.room.proofs.BothModes.{mode_counts, mode_flags, mode_carried}
use Rattle.report.specs.declared.Answer.{Answer}
use Rattle.passes.specs.Report.{tally_of}
use Rattle.report.specs.Run.{Ending, cramped, refusal, overlong, complete, ending, answer_of, number_of, totals_of, Ran}
use Rattle.demands.specs.Demands.{Completed, SameButCarried, SameArrows}
use Rattle.demands.proofs.Refusals.{run_completed, run_with, report_filled}

-- ---- the totals

module _ {mode : Mode} {log : List ℕ} {n : ℕ} {cut : List Event} {report counts' words' mail' report' : List ℕ} {r : Answer}
    (done : Completed mode log n cut report counts' words' mail' report' r) where
  -- the totals of a run that is accepted are the log's events, marks and sends
  pub totals_counted : ((totals_of r).events ≡ length cut)
      × Counts (λ p. (i : ℕ) × At cut p (mark i)) (length cut) (totals_of r).marks
      × Counts (λ p. (i j m : ℕ) × At cut p (send i j m)) (length cut) (totals_of r).sends
  unfolding tally_of
  totals_counted = rw done.answer_is (total_events n (says mode) cut, total_marks n (says mode) cut, total_sends n (says mode) cut)

module _ {log : List ℕ} {n : ℕ} {cut : List Event} {report counts' words' mail' report' : List ℕ} {r : Answer} where
  -- full messages carry n entries for each send
  pub carried_full : Completed Full log n cut report counts' words' mail' report' r → (totals_of r).carried ≡ n * (totals_of r).sends
  unfolding tally_of says
  carried_full done = rw done.answer_is (full_carried n cut)

  -- in either mode they carry what counts, in all: what went along, and with full messages the counts of zero too
  pub carried_counted : (mode : Mode) → Completed mode log n cut report counts' words' mail' report' r → InAll (Counted mode) n cut (totals_of r).carried
  unfolding tally_of
  carried_counted mode done = rw done.answer_is (mode_carried mode (row_lawful done.accepted_is).sound)

  -- short messages carry what is due, in all
  pub carried_short : Completed Short log n cut report counts' words' mail' report' r → DueInAll columns n cut (totals_of r).carried
  unfolding tally_of says
  carried_short done = rw done.answer_is (short_carried (row_lawful done.accepted_is).sound)

  -- and nothing else: no other total is what is due
  pub carried_only : Completed Short log n cut report counts' words' mail' report' r → {d : ℕ} → DueInAll columns n cut d → (totals_of r).carried ≡ d
  carried_only done due = due_unique (carried_short done) due

-- ---- the answers

-- an answer and itself
itself : (r : Answer) → SameButCarried r r
itself r = record { number_same = refl; place_same = refl; events_same = refl; marks_same = refl; sends_same = refl; bytes_same = refl }

-- the answers of the two modes, for each way to end
modes_answer : (log : List ℕ) (e : Ending) → SameButCarried (answer_of Full log e) (answer_of Short log e)
unfolding tally_of
modes_answer log cramped = itself (answer_of Short log cramped)
modes_answer log (refusal x q) = itself (answer_of Short log (refusal x q))
modes_answer log (overlong n cut) = itself (answer_of Short log (overlong n cut))
modes_answer log (complete n cut) =
    record {
      number_same = refl;
      place_same = refl;
      events_same = total_events n (says Full) cut ∙ sym (total_events n (says Short) cut);
      marks_same = counts_unique (total_marks n (says Full) cut) (total_marks n (says Short) cut);
      sends_same = counts_unique (total_sends n (says Full) cut) (total_sends n (says Short) cut);
      bytes_same = refl;
    }

-- A run with full and a run with short messages, in rooms of the same sizes: accepted or refused, they answer the same but for the
-- entries that the messages carried.
pub modes_alike : {log counts words mail report counts' words' mail' report' : List ℕ} {r : Answer}
    {counts₂ words₂ mail₂ report₂ counts₂' words₂' mail₂' report₂' : List ℕ} {s : Answer}
    → Ran Full log counts words mail report counts' words' mail' report' r
    → Ran Short log counts₂ words₂ mail₂ report₂ counts₂' words₂' mail₂' report₂' s
    → length counts ≡ length counts₂ → length words ≡ length words₂ → length mail ≡ length mail₂ → length report ≡ length report₂
    → SameButCarried r s
modes_alike {log} {counts₂ = counts₂} {words₂} {mail₂} {report₂} a b c w m p =
    rw (a.answer_is, b.answer_is, c, w, m, p) (modes_answer log (ending log (fits counts₂ words₂ mail₂) (length report₂)))

-- ---- the rooms

module _ {log : List ℕ} {n : ℕ} {cut : List Event}
    {report counts' words' mail' report' : List ℕ} {r : Answer} {report₂ counts₂' words₂' mail₂' report₂' : List ℕ} {s : Answer}
    (a : Completed Full log n cut report counts' words' mail' report' r) (b : Completed Short log n cut report₂ counts₂' words₂' mail₂' report₂' s) where
  -- both rooms have the log's counts and flags, and both reports are the log's
  pub same_arrows : SameArrows counts' words' report' counts₂' words₂' report₂' r s
  same_arrows =
      let law = row_lawful a.accepted_is in
      let flags = same_flags a.state_held.rows b.state_held.rows (λ i k. mode_flags Full law.sound i k ∙ sym (mode_flags Short law.sound i k)) in
      record {
        counts_same = same_counts a.state_held.rows b.state_held.rows (λ i k. mode_counts Full law.sound i k ∙ sym (mode_counts Short law.sound i k));
        flags_same = λ i h. sym (get_or-take 1056 words' i 0 (omega arith)) ∙ flags i h ∙ get_or-take 1056 words₂' i 0 (omega arith);
        report_same = (report_filled a).1 ∙ sym (report_filled b).1;
      }

  -- and both answers are the log's
  pub same_answers : SameButCarried r s
  same_answers = rw (a.answer_is, b.answer_is) (modes_answer log (complete n cut))

-- A run with full and a run with short messages that are both accepted: every node holds the same counts and flags, and the report
-- is the same.
pub modes_agree : {log counts words mail report counts' words' mail' report' : List ℕ} {r : Answer}
    {counts₂ words₂ mail₂ report₂ counts₂' words₂' mail₂' report₂' : List ℕ} {s : Answer}
    → Ran Full log counts words mail report counts' words' mail' report' r → number_of r ≡ 0
    → Ran Short log counts₂ words₂ mail₂ report₂ counts₂' words₂' mail₂' report₂' s → number_of s ≡ 0
    → SameButCarried r s × SameArrows counts' words' report' counts₂' words₂' report₂' r s
modes_agree a x b y =
    let (n, cut, done) = run_completed a x in
    let other = run_with b y done.accepted_is in
    (same_answers done other, same_arrows done other)
