-- What the rooms held before does not matter: how a run ends depends on their sizes alone, and its answer, the fronts of the work
-- rooms and the report depend on that.
-- Assumes nothing.
use mathlib.Core.Path.{◌≡◌, sym, ◌∙◌, ap, subst}
use mathlib.Core.Logic.{◌≢◌}
use mathlib.Core.List.{List}
use Prim.Native.Nat.{ℕ}
use native.Mathlib.Omega.{arith}
use lib.ListN.{length, take}
use Rattle.room.specs.declared.Mode.{Mode}
use Rattle.room.specs.Room.{fits, zeroed}
use Rattle.room.proofs.OneRoom.{one_room}
use Rattle.report.specs.declared.Answer.{Answer}
use Rattle.passes.specs.Report.{report_of, tally_of}
use Rattle.report.specs.Run.{Ending, cramped, refusal, overlong, complete, ending, answer_of, report_after, RoomsAfter, number_of, totals_of, Ran}
use Rattle.demands.specs.Demands.{SameFronts}
use Rattle.room.proofs.Zeroed.{zeroed_front}
use Rattle.demands.proofs.Refusals.{laid_front}

-- what was put to zero is the same
zeros_same : (size : ℕ) (xs ys : List ℕ) {xs' ys' : List ℕ} → xs' ≡ zeroed size xs → ys' ≡ zeroed size ys → take size xs' ≡ take size ys'
zeros_same size xs ys x y = rw (x, y) (zeroed_front size xs ∙ sym (zeroed_front size ys))

module _ {mode : Mode} {log : List ℕ}
    {counts words mail report counts' words' mail' report' : List ℕ} {r : Answer}
    {counts₂ words₂ mail₂ report₂ counts₂' words₂' mail₂' report₂' : List ℕ} {s : Answer}
    (a : Ran mode log counts words mail report counts' words' mail' report' r)
    (b : Ran mode log counts₂ words₂ mail₂ report₂ counts₂' words₂' mail₂' report₂' s)
    (counts_size : length counts ≡ length counts₂) (words_size : length words ≡ length words₂)
    (mail_size : length mail ≡ length mail₂) (report-size : length report ≡ length report₂) where
  -- both end in this way
  abbrev end : Ending
  end = ending log (fits counts₂ words₂ mail₂) (length report₂)

  same_end : ending log (fits counts words mail) (length report) ≡ end
  same_end = rw (counts_size, words_size, mail_size, report-size)

  -- so they answer the same
  answer : r ≡ answer_of mode log end
  answer = a.answer_is ∙ ap (answer_of mode log) same_end

  -- and have the same fronts
  fronts_same : number_of r ≢ 1 → SameFronts counts' words' mail' counts₂' words₂' mail₂'
  fronts_same other = go end answer (subst (λ e. RoomsAfter mode e counts words mail counts' words' mail') same_end a.rooms_are) b.rooms_are
    where
      zeros : (counts' ≡ zeroed 1024 counts) × (words' ≡ zeroed 1056 words) × (mail' ≡ zeroed 4480 mail)
          → (counts₂' ≡ zeroed 1024 counts₂) × (words₂' ≡ zeroed 1056 words₂) × (mail₂' ≡ zeroed 4480 mail₂)
          → SameFronts counts' words' mail' counts₂' words₂' mail₂'
      zeros x y = (zeros_same 1024 counts counts₂ x.0 y.0, zeros_same 1056 words words₂ x.1 y.1, zeros_same 4480 mail mail₂ x.2 y.2)

      go : (e : Ending) → r ≡ answer_of mode log e
          → RoomsAfter mode e counts words mail counts' words' mail' → RoomsAfter mode e counts₂ words₂ mail₂ counts₂' words₂' mail₂'
          → SameFronts counts' words' mail' counts₂' words₂' mail₂'
      go cramped q x y = absurd (other (ap number_of q))
      go (refusal z p) q x y = zeros x y
      go (overlong n cut) q x y = zeros x y
      go (complete n cut) q x y = one_room x.0 y.0

  -- and the same report
  report_same : number_of r ≡ 0 → take (totals_of r).bytes report' ≡ take (totals_of r).bytes report₂'
  unfolding tally_of
  report_same here = go end answer (subst (λ e. report' ≡ report_after e report) same_end a.report_is) b.report_is
    where
      go : (e : Ending) → r ≡ answer_of mode log e → report' ≡ report_after e report → report₂' ≡ report_after e report₂
          → take (totals_of r).bytes report' ≡ take (totals_of r).bytes report₂'
      go cramped q x y = absurd (omega (arith, ap number_of q))
      go (refusal z p) q x y = ap (λ (t : Answer). take (totals_of t).bytes report') q ∙ sym (ap (λ (t : Answer). take (totals_of t).bytes report₂') q)
      go (overlong n cut) q x y = absurd (omega (arith, ap number_of q))
      go (complete n cut) q x y =
          let size : (totals_of r).bytes ≡ length (report_of n cut) = ap (λ (t : Answer). (totals_of t).bytes) q in
          rw (size, x, y) (laid_front (report_of n cut) report ∙ sym (laid_front (report_of n cut) report₂))

  -- Two runs of one log in rooms of the same sizes, whatever the rooms held: they answer the same, the fronts of the work rooms
  -- are the same, unless the rooms are too small and so untouched, and the reports are the same.
  pub rooms_before : (r ≡ s)
      × (number_of r ≢ 1 → SameFronts counts' words' mail' counts₂' words₂' mail₂')
      × (number_of r ≡ 0 → take (totals_of r).bytes report' ≡ take (totals_of r).bytes report₂')
  rooms_before = (answer ∙ sym b.answer_is, fronts_same, report_same)
