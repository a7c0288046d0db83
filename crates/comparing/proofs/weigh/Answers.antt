-- `comparing::weigh` meets its contract: count by count it is noted which stamp has the greater one, and the two notes decide.
use mathlib.Core.Path.{◌∙◌}
use native.Mathlib.Omega.{arith}
use Rattle.comparing.proofs.Weighing.{weighed_none, weighed_more, weighed_all}
use Rattle.comparing.proofs.weigh.Goals as goal

pub loop-k-init : goal.loop-k-init
loop-k-init c = weighed_none c.requires.0 c.requires.1

pub loop-k-preserved : goal.loop-k-preserved
loop-k-preserved c =
    let (one, past) = c.count_at-a.ensures in
    let (other, behind) = c.count_at-b.ensures in
    rw (one, other, past, behind) (weighed_more c.loop-k.invariant c.loop-k-test.true)

pub returns : goal.returns
returns c = c.judge.ensures ∙ weighed_all c.loop-k.invariant (omega (arith, c.loop-k-test.false))
