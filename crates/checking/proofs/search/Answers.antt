-- `checking::search` meets its contract: none of the groups that are passed is of the mark.
use mathlib.Core.Path.{sym}
use mathlib.Core.Bool.{false≢true}
use native.Mathlib.Numerals.{add-one}
use Rattle.checking.specs.WellFormed.{same_mark}
use Rattle.checking.proofs.Marks.{unfound_none, unfound_more, unfound_here, unfound_seen}
use Rattle.checking.proofs.search.Goals as goal

pub loop-init : goal.loop-init
loop-init c = unfound_none _ _ _

pub returns-in_default : goal.returns-in_default
returns-in_default c =
    let seen = unfound_seen _ _ c.loop.invariant c.requires c.loop-test.true in
    let other = c.in_default.ensures in
    absurd (false≢true (cc))

pub returns-in_default-2 : goal.returns-in_default-2
returns-in_default-2 c =
    let seen = unfound_seen _ _ c.loop.invariant c.requires c.loop-test.true in
    let other = c.group.ensures in
    absurd (false≢true (cc))

pub returns-then-eq : goal.returns-then-eq
unfolding same_mark
returns-then-eq c =
    let told = rw c.in-Ok-Some.field-0-is at c.in-Ok-Some.ensures in
    unfound_here _ _ c.loop.invariant c.requires c.loop-test.true (sym told) (sym c.if-eq.ensures)

pub loop-preserved : goal.loop-preserved
unfolding same_mark
loop-preserved c =
    let told = rw c.in-Ok-Some.field-0-is at c.in-Ok-Some.ensures in
    rw (add-one c.loop.counter) (unfound_more _ _ c.loop.invariant c.requires c.loop-test.true (sym told) (sym c.if-eq.ensures))
