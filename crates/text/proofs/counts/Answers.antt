-- `text::counts` meets its contract: after k turns the counts of the first k nodes are laid.
use mathlib.Core.Path.{refl, ◌∙◌}
use native.Mathlib.Omega.{arith}
use Rattle.groups.proofs.Laying.{none_laid}
use Rattle.reading.proofs.Standing.{place_none, place_more}
use Rattle.text.specs.Text.{stamp_text}
use Rattle.text.proofs.Turns.{stamp_more}
use Rattle.text.proofs.counts.Goals as goal

pub loop-k-init : goal.loop-k-init
unfolding stamp_text
loop-k-init c = (place_none _ _, (refl, refl), omega arith, none_laid _ _ (omega arith))

pub loop-k-preserved : goal.loop-k-preserved
loop-k-preserved c =
    let l = c.loop-k.invariant in
    let found = c.count_at-found.ensures in
    let s = c.count.ensures in (
      found.1 ∙ place_more _ _ _ _ l.0,
      (s.same.0 ∙ l.1.0, s.same.1 ∙ l.1.1),
      omega (arith, s.ends_by),
      stamp_more _ _ _ l.0 found.0 l.3 s.laid,
    )
