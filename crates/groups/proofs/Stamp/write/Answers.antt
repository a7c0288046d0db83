-- `Stamp::write` meets its contract: after k turns the records of the first k nodes are laid.
use mathlib.Core.Path.{refl, ◌∙◌}
use native.Mathlib.Omega.{arith}
use Rattle.groups.specs.Groups.{stamp_of, stamp_records}
use Rattle.groups.proofs.Laying.{none_laid}
use Rattle.groups.proofs.Records.{stamps_grow}
use Rattle.groups.proofs.Turns.{turn_fits, turn_done}
use Rattle.groups.proofs.Stamp.write.Goals as goal

pub loop-k-init : goal.loop-k-init
unfolding stamp_records
loop-k-init c = ((refl, refl), none_laid _ _ (omega arith))

pub stamp_record-requires : goal.stamp_record-requires
stamp_record-requires c =
    let l = c.loop-k in
    let grow = stamps_grow (stamp_of c.args.self.own c.args.self.row.now) in
    rw c.at.ensures (turn_fits grow _ _ _ c.requires c.loop-k-test.true l.invariant.0.1 l.invariant.1)

pub loop-k-preserved : goal.loop-k-preserved
loop-k-preserved c =
    let grow = stamps_grow (stamp_of c.args.self.own c.args.self.row.now) in
    let l = c.loop-k.invariant in
    let s = c.stamp_record.ensures in
    ((s.same.0 ∙ l.0.0, s.same.1 ∙ l.0.1), turn_done grow _ _ _ c.requires l.1 (rw c.at.ensures at s.laid))
