-- `text::causes` meets its contract: after k turns the first k direct predecessors are laid.
use mathlib.Core.Path.{◌≡◌, refl, ◌∙◌}
use mathlib.Core.List.{[]}
use native.Mathlib.Omega.{arith}
use lib.ListN.{get_or}
use Rattle.groups.proofs.Laying.{none_laid}
use Rattle.reading.specs.Reading.{number_here}
use Rattle.text.specs.Text.{causes_text}
use Rattle.text.proofs.Turns.{causes_more}
use Rattle.text.proofs.causes.Goals as goal

pub loop-node-init : goal.loop-node-init
unfolding causes_text
loop-node-init c = ((refl, refl), omega arith, none_laid _ _ (omega arith))

pub loop-node-preserved : goal.loop-node-preserved
loop-node-preserved c =
    let l = c.loop-node.invariant in
    let s = c.name.ensures in
    let number : c.from_le_bytes.result ≡ number_here (get_or c.args.records.now c.loop-node.node-index []) 0 = omega (arith, c.from_le_bytes.ensures) in
    ((s.same.0 ∙ l.0.0, s.same.1 ∙ l.0.1), omega (arith, l.1, s.ends_by), causes_more _ _ c.loop-node-test.true l.2 (rw number at s.laid))
