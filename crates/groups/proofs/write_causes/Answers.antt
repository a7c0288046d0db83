-- `groups::write_causes` meets its contract: after k turns the predecessors among the first k nodes are laid.
use mathlib.Core.Path.{refl, ◌∙◌}
use native.Mathlib.Omega.{arith}
use lib.ListN.{get_or}
use Rattle.bits.specs.Bits.{bit}
use Rattle.machine.specs.Answer.{flagged}
use Rattle.groups.specs.Groups.{cause_records}
use Rattle.groups.proofs.Laying.{none_laid}
use Rattle.groups.proofs.Records.{causes_grow}
use Rattle.groups.proofs.Turns.{turn_fits, turn_done}
use Rattle.groups.proofs.write_causes.Goals as goal
use Rattle.groups.proofs.write_causes.Goals.{then-test, else-test}

pub loop-k-init : goal.loop-k-init
unfolding cause_records flagged
loop-k-init c = ((refl, refl), none_laid _ _ (omega arith))

pub four_bytes-requires : goal.four_bytes-requires
unfolding cause_records
four_bytes-requires c =
    let l = c.loop-k in
    let grow = causes_grow (λ k. get_or c.args.row.now k 0) (bit c.args.flags) in
    let fits = turn_fits grow _ _ _ c.requires.flags_in_bounds c.loop-k-test.true l.invariant.0.1 l.invariant.1 in
    rw (← c.if-test.ensures) at fits

pub loop-k-preserved : goal.loop-k-preserved
unfolding cause_records
loop-k-preserved c =
    let grow = causes_grow (λ k. get_or c.args.row.now k 0) (bit c.args.flags) in
    let l = c.loop-k.invariant in
    elim c.if-test.branch [
      | then-test w ↦
          let s = w.four_bytes.ensures in
          rw w.pen-is
          ((s.same.0 ∙ l.0.0, s.same.1 ∙ l.0.1), turn_done grow _ _ _ c.requires.flags_in_bounds l.1 (rw (← w.if-test.ensures) s.laid))
      | else-test w ↦
          let none = none_laid c.loop-k.pen.room.now c.loop-k.pen.at (omega (arith, l.1.within, l.0.1)) in
          rw w.pen-is (l.0, turn_done grow _ _ _ c.requires.flags_in_bounds l.1 (rw (← w.if-test.ensures) none))
    ]
