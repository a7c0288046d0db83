-- A run ends in one of four ways, and each is known by plain facts: whether the work rooms fit, the row of the log in the table
-- of refusals, and whether the report fits. The four exclude each other, so a run is looked at way by way.
-- Assumes nothing.
use mathlib.Core.Path.{◌≡◌, refl}
use mathlib.Core.Bool.{Bool, true, false, cond, ◌&&◌}
use mathlib.Core.List.{List}
use Prim.Native.Nat.{ℕ, ◌<◌, ◌≤◌}
use native.Mathlib.Omega.{arith}
use lib.Dec.{leb}
use lib.ListN.{length}
use borrow.Author.Tests.{leb-true, leb-false, le-leb, lt-leb}
use Rattle.order.specs.Order.{Event}
use Rattle.verdict.specs.Verdict.{Verdict, accepted, verdict}
use Rattle.verdict.specs.Table.{Refused, Row, row_accepted, row_refused}
use Rattle.verdict.proofs.Verdict.{verdict_row, row_verdict}
use Rattle.room.specs.Room.{fits}
use Rattle.room.specs.declared.Mode.{Mode}
use Rattle.report.specs.declared.Answer.{Answer}
use Rattle.passes.specs.Report.{report_of}
use Rattle.report.specs.Run.{Ending, cramped, refusal, overlong, complete, settled, ending, answer_of, report_after, RoomsAfter, Ran}
use Rattle.demands.specs.Demands.{Roomy}

-- ---- the work rooms fit

-- the test of the work rooms and what it says
data Fitting (counts words mail : List ℕ) : Bool → Type 0 where
  fitting : Roomy counts words mail → Fitting counts words mail true
  unfitting : ¬ Roomy counts words mail → Fitting counts words mail false

fits_says : (counts words mail : List ℕ) → Fitting counts words mail (fits counts words mail)
fits_says counts words mail = go (leb 1024 (length counts)) refl (leb 1056 (length words)) refl (leb 4480 (length mail)) refl
  where
    go : (a : Bool) → leb 1024 (length counts) ≡ a → (b : Bool) → leb 1056 (length words) ≡ b → (c : Bool) → leb 4480 (length mail) ≡ c
        → Fitting counts words mail (a && (b && c))
    go true ea true eb true ec = fitting (record { counts_fit = leb-true _ _ ea; words_fit = leb-true _ _ eb; mail_fits = leb-true _ _ ec })
    go true ea true eb false ec = unfitting (λ h. omega (arith, leb-false 4480 (length mail) ec))
    go true ea false eb c ec = unfitting (λ h. omega (arith, leb-false 1056 (length words) eb))
    go false ea b eb c ec = unfitting (λ h. omega (arith, leb-false 1024 (length counts) ea))

-- rooms that are large enough pass the test
pub roomy_fits : {counts words mail : List ℕ} → Roomy counts words mail → fits counts words mail ≡ true
roomy_fits {counts} {words} {mail} h = go (fits_says counts words mail)
  where
    go : {b : Bool} → Fitting counts words mail b → b ≡ true
    go (fitting k) = refl
    go (unfitting k) = absurd (k h)

-- ---- the four ways

-- the facts behind each way to end
pub data Ended (log counts words mail : List ℕ) (size : ℕ) : Ending → Type 0 where
  ended_cramped : ¬ Roomy counts words mail → Ended log counts words mail size cramped
  ended_refusal : {x q : ℕ} → Roomy counts words mail → Refused log x q → Ended log counts words mail size (refusal x q)
  ended_overlong : {n : ℕ} {cut : List Event} → Roomy counts words mail → Row log (accepted n cut) → size < length (report_of n cut)
      → Ended log counts words mail size (overlong n cut)
  ended_complete : {n : ℕ} {cut : List Event} → Roomy counts words mail → Row log (accepted n cut) → length (report_of n cut) ≤ size
      → Ended log counts words mail size (complete n cut)

module _ (log counts words mail : List ℕ) (size : ℕ) where
  -- a run ends in one of them
  pub ended : Ended log counts words mail size (ending log (fits counts words mail) size)
  unfolding ending settled
  ended = by_fit (fits_says counts words mail)
    where
      by_size : Roomy counts words mail → {n : ℕ} {cut : List Event} → Row log (accepted n cut) → (b : Bool) → leb (length (report_of n cut)) size ≡ b
          → Ended log counts words mail size (cond b (complete n cut) (overlong n cut))
      by_size h row true e = ended_complete h row (leb-true _ _ e)
      by_size h row false e = ended_overlong h row (leb-false _ _ e)

      by_row : Roomy counts words mail → {v : Verdict} → Row log v → Ended log counts words mail size (settled v size)
      by_row h (row_refused f) = ended_refusal h f
      by_row h (row_accepted here) = by_size h (row_accepted here) _ refl

      by_fit : {fit : Bool} → Fitting counts words mail fit → Ended log counts words mail size (cond fit (settled (verdict log) size) cramped)
      by_fit (fitting h) = by_row h (verdict_row log)
      by_fit (unfitting h) = ended_cramped h

  -- and in no other
  pub ended_only : {e : Ending} → Ended log counts words mail size e → ending log (fits counts words mail) size ≡ e
  unfolding ending settled
  ended_only {e} way = by_fit (fits_says counts words mail) way
    where
      by_fit : {fit : Bool} → Fitting counts words mail fit → {e : Ending} → Ended log counts words mail size e → cond fit (settled (verdict log) size) cramped ≡ e
      by_fit (fitting h) (ended_cramped k) = absurd (k h)
      by_fit (fitting h) (ended_refusal k f) = rw (row_verdict log (row_refused f))
      by_fit (fitting h) (ended_overlong k row long) = rw (row_verdict log row, lt-leb _ _ long)
      by_fit (fitting h) (ended_complete k row short) = rw (row_verdict log row, le-leb _ _ short)
      by_fit (unfitting h) (ended_cramped k) = refl
      by_fit (unfitting h) (ended_refusal k f) = absurd (h k)
      by_fit (unfitting h) (ended_overlong k row long) = absurd (h k)
      by_fit (unfitting h) (ended_complete k row short) = absurd (h k)

-- ---- a run, way by way

-- the way in which a run ended, and what it left
pub data Outcome (mode : Mode) (log counts words mail report counts' words' mail' report' : List ℕ) (r : Answer) : Type 0 where
  outcome : {e : Ending} → Ended log counts words mail (length report) e → r ≡ answer_of mode log e → report' ≡ report_after e report
      → RoomsAfter mode e counts words mail counts' words' mail' → Outcome mode log counts words mail report counts' words' mail' report' r

pub outcome_of : {mode : Mode} {log counts words mail report counts' words' mail' report' : List ℕ} {r : Answer}
    → Ran mode log counts words mail report counts' words' mail' report' r → Outcome mode log counts words mail report counts' words' mail' report' r
outcome_of {log = log} {counts} {words} {mail} {report} ran =
    outcome (ended log counts words mail (length report)) ran.answer_is ran.report_is ran.rooms_are
