-- `checking::find` meets its contract: the groups that are passed are good, and each way out gives the survey of the whole.
use mathlib.Core.Path.{refl, sym, ◌∙◌}
use native.Mathlib.Numerals.{add-one}
use Rattle.checking.specs.WellFormed.{same_mark}
use Rattle.checking.proofs.Walking.{walking_none, walking_more}
use Rattle.checking.proofs.find.Goals as goal

pub loop-mark-init : goal.loop-mark-init
loop-mark-init c = walking_none _ _ _ _ refl

pub loop-mark-preserved : goal.loop-mark-preserved
unfolding same_mark
loop-mark-preserved c =
    let told = rw c.in-Some.is at c.in_ok-mark.ensures in
    let more = walking_more c.loop-mark.invariant _ _ (sym told) c.if-survey-eq-MOST_GROUPS.false (sym c.repeated.ensures.found ∙ c.if-repeated.false) c.repeated.ensures.greatest in
    rw (add-one c.loop-mark.survey.groups, c.or.ensures, c.then_some.ensures, c.eq.ensures, c.or-in-Some.ensures, c.then_some-in-Some.ensures, c.eq-in-Some.ensures) more
