-- How a run ends, by what its first pass said: refused, too long for the report room, or written by the second pass, which
-- comes to the same cut as the first since a log has one verdict.
-- Assumes nothing.
use mathlib.Core.Path.{◌≡◌, sym, ◌∙◌, ap, subst}
use mathlib.Core.Logic.{◌⊎◌, inl, inr}
use mathlib.Core.Bool.{Bool, true, false, cond}
use mathlib.Core.List.{List, [], ◌++◌, append-nil}
use Prim.Native.Nat.{ℕ, ◌<◌, ◌≤◌}
use lib.Dec.{leb}
use lib.ListN.{length, take, drop, replicate}
use lib.Seq.{drop-length, take_at, drop_at}
use borrow.Author.Tests.{le-leb, lt-leb}
use Rattle.order.specs.Order.{Event}
use Rattle.verdict.specs.Verdict.{Verdict, refused, accepted, verdict}
use Rattle.verdict.specs.Table as table
use Rattle.verdict.specs.Table.{refused_2, refused_3, row_accepted, row_refused}
use Rattle.verdict.proofs.Verdict.{row_verdict, row_unique, not_accepted}
use Rattle.room.specs.declared.Mode.{Mode}
use Rattle.room.specs.Room.{barn, Holds, fits, zeroed, Cleared}
use Rattle.room.proofs.StartRoom.{start_holds}
use Rattle.room.proofs.Zeroed.{zeroed_front, zeroed_behind, zeroed_length}
use Rattle.passes.specs.declared.Tally.{Tally}
use Rattle.passes.proofs.Notes.{shown_fits}
use Rattle.passes.proofs.Turns.{halts_refused}
use Rattle.report.specs.declared.Answer.{Answer}
use Rattle.report.specs.declared.Answer.TheVariants.{Accepted, SmallRooms, Refused, SmallReport}
use Rattle.std.specs.Prelude.{Result, Ok, Err}
use Rattle.logs.specs.declared.Refusal.{Refusal}
use Rattle.logs.specs.Record.{refusal, number_of, opening_of}
use Rattle.logs.specs.declared.Reason.TheVariants.{NoOpening, NodeCount}
use Rattle.logs.proofs.FirstRecord.{unopened_there}
use Rattle.passes.specs.Report.{report_of, tally_of}
use Rattle.passes.specs.Pass.{Passing, whole, halted}
use Rattle.report.specs.Run.{overlong, complete, settled, ending, RoomsAfter, Ran}
use Rattle.report.specs.Settling.{Looked, looked_whole, looked_halted, Zero, FrontAfter, Settles}

-- ---- the first record

-- a log whose first record is not read is refused
pub opening_refused : {log : List ℕ} {f : Refusal} → opening_of log ≡ Err f → table.Refused log (number_of f.reason) f.place
opening_refused {log} {f} e = go (unopened_there log e)
  where
    go : (f ≡ refusal NoOpening 0) ⊎ (f ≡ refusal NodeCount 1) → table.Refused log (number_of f.reason) f.place
    go (inl h) = rw h (refused_2 (rw h at e))
    go (inr h) = rw h (refused_3 (rw h at e))

-- ---- clearing rooms of the fixed sizes

all_zero : (size : ℕ) (xs : List ℕ) → length xs ≡ size → zeroed size xs ≡ replicate size 0
all_zero size xs e = ap (λ (ys : List ℕ). replicate size 0 ++ ys) (subst (λ (n : ℕ). drop n xs ≡ []) e (drop-length xs)) ∙ append-nil _

module _ (counts words mail : List ℕ) {counts' words' mail' : List ℕ}
    (clear : (counts' ≡ zeroed 1024 counts) × (words' ≡ zeroed 1056 words) × (mail' ≡ zeroed 4480 mail)) where
  -- the fronts of cleared rooms are zero
  pub zeroed_zero : Zero (take 1024 counts') (take 1056 words') (take 4480 mail')
  zeroed_zero =
      rw (clear.0, clear.1, clear.2)
      (record { counts_zero = zeroed_front 1024 counts; words_zero = zeroed_front 1056 words; mail_zero = zeroed_front 4480 mail })

  -- and behind them nothing has changed
  pub zeroed_kept : (drop 1024 counts' ≡ drop 1024 counts) × (drop 1056 words' ≡ drop 1056 words) × (drop 4480 mail' ≡ drop 4480 mail)
  zeroed_kept = rw (clear.0, clear.1, clear.2) (zeroed_behind 1024 counts, zeroed_behind 1056 words, zeroed_behind 4480 mail)

-- rooms of the fixed sizes are all zero when they are cleared
pub cleared_zero : {counts words mail counts' words' mail' : List ℕ} {done : Bool} → length counts ≡ 1024 → length words ≡ 1056 → length mail ≡ 4480
    → Cleared counts words mail counts' words' mail' done → Zero counts' words' mail'
cleared_zero {counts} {words} {mail} {done = done} c w m h =
    record {
      counts_zero = h.counts_are ∙ rw fit (all_zero 1024 counts c);
      words_zero = h.words_are ∙ rw fit (all_zero 1056 words w);
      mail_zero = h.mail_is ∙ rw fit (all_zero 4480 mail m);
    }
  where
    fit : done ≡ true
    fit = h.answer ∙ simp (c, w, m)

-- and then they hold the state before any event
pub zero_holds : (mode : Mode) {n : ℕ} {counts words mail : List ℕ} → Zero counts words mail → Holds n (barn mode []) counts words mail
zero_holds mode z = rw (z.counts_zero, z.words_zero, z.mail_zero) (start_holds mode)

-- ---- after the first pass

-- what a pass tells, whatever it left in the rooms
pub passing_looked : {mode : Mode} {log : List ℕ} {n : ℕ} {room counts words mail report : List ℕ} {r : Result Tally Refusal}
    → Passing mode log n room counts words mail report r → Looked mode log n r
passing_looked {mode} {log} {n} (whole here) =
    subst (λ (t : Tally). Looked mode log n (Ok t)) (sym here.noted.tallied) (looked_whole here.reached)
passing_looked (halted here h) = looked_halted (halts_refused here.reached h)

module _ {mode : Mode} {log : List ℕ} {n : ℕ} {room : List ℕ} where
  pub settles_refused : {f : Refusal} {counts words mail : List ℕ} → Looked mode log n (Err f) → Zero counts words mail
      → Settles mode log room counts words mail room (Refused (number_of f.reason) f.place)
  unfolding settled
  settles_refused (looked_halted h) zero =
      let says = row_verdict log (row_refused h) in
      record { answered = rw says; reported = rw says; fronted = rw says zero }

  pub settles_overlong : {tally : Tally} {counts words mail : List ℕ} → Looked mode log n (Ok tally)
      → length room < tally.bytes → Zero counts words mail → Settles mode log room counts words mail room (SmallReport (length log) tally.bytes)
  unfolding settled tally_of
  settles_overlong (looked_whole here) long zero =
      let says = row_verdict log (row_accepted here) in
      let far = lt-leb _ _ long in
      record { answered = rw (says, far); reported = rw (says, far); fronted = rw (says, far) zero }

  pub settles_complete : {tally : Tally} {counts words mail report : List ℕ} {second : Result Tally Refusal} → Looked mode log n (Ok tally)
      → tally.bytes ≤ length room → Passing mode log n room counts words mail report second
      → Settles mode log room counts words mail report (Accepted (length log) tally)
  unfolding settled tally_of
  settles_complete (looked_whole here) near (halted there h) =
      not_accepted (row_unique log (row_refused (halts_refused there.reached h)) (row_accepted here))
  settles_complete (looked_whole {cut = cut} here) near (whole {cut = again} there) =
      let says = row_verdict log (row_accepted here) in
      let fit = le-leb _ _ near in
      let one = row_unique log (row_accepted there.reached) (row_accepted here) in
      let same : again ≡ cut = cc in
      let last = rw same at there in
      record {
        answered = rw (says, fit);
        reported = rw (says, fit) (last.noted.shown ∙ shown_fits n room cut near);
        fronted = rw (says, fit) last.noted.holds;
      }

-- ---- the whole run

-- a work room is too small
pub ran_cramped : {mode : Mode} {log report counts words mail counts' words' mail' : List ℕ} {done : Bool} → done ≡ false → Cleared counts words mail counts' words' mail' done
    → Ran mode log counts words mail report counts' words' mail' report SmallRooms
unfolding ending
ran_cramped {counts = counts} {words} {mail} small h =
    let unfit : fits counts words mail ≡ false = sym h.answer ∙ small in
    record {
      answer_is = rw unfit;
      report_is = rw unfit;
      rooms_are = rw unfit (h.counts_are ∙ rw small, h.words_are ∙ rw small, h.mail_is ∙ rw small);
    }

module _
    {counts words mail counts' words' mail' : List ℕ} {done : Bool} (large : done ≡ true)
    (h : Cleared counts words mail counts' words' mail' done) where
  fit : fits counts words mail ≡ true
  fit = sym h.answer ∙ large

  clear : (counts' ≡ zeroed 1024 counts) × (words' ≡ zeroed 1056 words) × (mail' ≡ zeroed 4480 mail)
  clear = (h.counts_are ∙ rw large, h.words_are ∙ rw large, h.mail_is ∙ rw large)

  -- the rooms have the fixed sizes, and their fronts are zero
  pub cleared_large : (1024 ≤ length counts') × (1056 ≤ length words') × (4480 ≤ length mail')
  cleared_large = rw (clear.0, clear.1, clear.2) (zeroed_length 1024 counts, zeroed_length 1056 words, zeroed_length 4480 mail)

  pub cleared_fronts : Zero (take 1024 counts') (take 1056 words') (take 4480 mail')
  cleared_fronts = zeroed_zero counts words mail clear

  -- behind them nothing has changed
  behind : (drop 1024 counts' ≡ drop 1024 counts) × (drop 1056 words' ≡ drop 1056 words) × (drop 4480 mail' ≡ drop 4480 mail)
  behind = zeroed_kept counts words mail clear

  -- the first record is refused
  pub ran_refused : {mode : Mode} {log report : List ℕ} {x q : ℕ} → table.Refused log x q → Ran mode log counts words mail report counts' words' mail' report (Refused x q)
  unfolding ending settled
  ran_refused {log = log} row =
      let says = row_verdict log (row_refused row) in
      record { answer_is = rw (fit, says); report_is = rw (fit, says); rooms_are = rw (fit, says) clear }

  module _ (mode : Mode) (fore mid aft : List ℕ) (c : length fore ≡ 1024) (w : length mid ≡ 1056) (m : length aft ≡ 4480) where
    rooms_zero : Zero fore mid aft → (fore ++ drop 1024 counts' ≡ zeroed 1024 counts) × (mid ++ drop 1056 words' ≡ zeroed 1056 words) × (aft ++ drop 4480 mail' ≡ zeroed 4480 mail)
    rooms_zero z = (rw (z.counts_zero, behind.0), rw (z.words_zero, behind.1), rw (z.mail_zero, behind.2))

    rooms_hold : (n : ℕ) (cut : List Event) → Holds n (barn mode cut) fore mid aft
        → RoomsAfter mode (complete n cut) counts words mail (fore ++ drop 1024 counts') (mid ++ drop 1056 words') (aft ++ drop 4480 mail')
    rooms_hold n cut holds = (
      rw (take_at fore (drop 1024 counts') 1024 c, take_at mid (drop 1056 words') 1056 w, take_at aft (drop 4480 mail') 4480 m) holds,
      drop_at fore (drop 1024 counts') 1024 c ∙ behind.0,
      drop_at mid (drop 1056 words') 1056 w ∙ behind.1,
      drop_at aft (drop 4480 mail') 4480 m ∙ behind.2,
    )

    rooms_after : (v : Verdict) (size : ℕ) → FrontAfter mode (settled v size) fore mid aft
        → RoomsAfter mode (settled v size) counts words mail (fore ++ drop 1024 counts') (mid ++ drop 1056 words') (aft ++ drop 4480 mail')
    unfolding settled
    rooms_after (refused x p) size front = rooms_zero front
    rooms_after (accepted n cut) size front = by_size (leb (length (report_of n cut)) size) front
      where
        by_size : (b : Bool) → FrontAfter mode (cond b (complete n cut) (overlong n cut)) fore mid aft
            → RoomsAfter mode (cond b (complete n cut) (overlong n cut)) counts words mail (fore ++ drop 1024 counts') (mid ++ drop 1056 words') (aft ++ drop 4480 mail')
        by_size true holds = rooms_hold n cut holds
        by_size false zero = rooms_zero zero

    -- the fronts of the cleared rooms went through the passes
    pub ran_settled : {log report report' : List ℕ} {r : Answer} → Settles mode log report fore mid aft report' r
        → Ran mode log counts words mail report (fore ++ drop 1024 counts') (mid ++ drop 1056 words') (aft ++ drop 4480 mail') report' r
    unfolding ending
    ran_settled {log} {report} s =
        record {
          answer_is = rw fit s.answered;
          report_is = rw fit s.reported;
          rooms_are = rw fit (rooms_after (verdict log) (length report) s.fronted);
        }
