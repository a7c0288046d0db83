-- `shape::stamp` meets its contract: record by record the counts of the nodes below the next one are passed, and the own count is
-- kept on the way.
use mathlib.Core.Path.{sym, ap, ◌∙◌}
use native.Mathlib.Omega.{arith}
use borrow.Author.Tests.{eqb-true, eqb-false}
use Rattle.logs.specs.declared.MarkNumber.{MarkNumber}
use Rattle.shape.proofs.Entries.{not_given, entry_given}
use Rattle.shape.proofs.StampPassed.{passed_none, passed_more, passed_all, passed_broken}
use Rattle.shape.proofs.stamp.Goals as goal
use Rattle.shape.proofs.stamp.Goals.{then-eq, else-eq}

pub loop-low-init : goal.loop-low-init
loop-low-init c = passed_none c.requires.0

pub returns-in_err-count : goal.returns-in_err-count
returns-in_err-count c = let l = c.loop-low in
    rw (c.from_residual.ensures, passed_broken l.invariant (sym c.whole.ensures ∙ c.loop-low-test.true) (not_given _ _ c.in_err-count.ensures))

pub overflow_add-low : goal.overflow_add-low
overflow_add-low c =
    let (fits, there, node, number) = entry_given _ _ _ _ c.in_ok-count.ensures in
    omega (arith, there.below)

pub loop-low-smaller : goal.loop-low-smaller
loop-low-smaller c =
    let (fits, there, node, number) = entry_given _ _ _ _ c.in_ok-count.ensures in
    omega (arith, there.inside)

pub loop-low-preserved : goal.loop-low-preserved
loop-low-preserved c =
    let (fits, there, node, number) = entry_given _ _ _ _ c.in_ok-count.ensures in
    rw node
    (passed_more c.loop-low.invariant fits c.if-eq.own.0
    (λ here. elim c.if-eq.branch [
      | then-eq w ↦ ap (λ (n : MarkNumber). n.0) w.own-is ∙ number
      | else-eq w ↦ absurd (eqb-false _ _ (sym c.eq.ensures ∙ w.if-eq.false) (node ∙ here))
    ])
    (λ other. elim c.if-eq.branch [
      | then-eq w ↦ absurd (other (sym node ∙ eqb-true _ _ (sym c.eq.ensures ∙ w.if-eq.true)))
      | else-eq w ↦ ap (λ (n : MarkNumber). n.0) w.own-is
    ]))

pub returns : goal.returns
returns c =
    let (fits, ends, place, own) = passed_all c.loop-low.invariant (sym c.whole.ensures ∙ c.loop-low-test.false) c.requires.1 in
    rw (fits, ends, place, own) (grind arith)
