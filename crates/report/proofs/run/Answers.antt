-- `run` meets its contract: by whether the rooms are large enough, and what the first record says.
use mathlib.Core.Path.{sym, ◌∙◌}
use Prim.Native.Nat.{◌≤◌}
use lib.ListN.{length}
use lib.Seq.{length-take-le}
use Rattle.report.proofs.Endings.{opening_refused, cleared_large, cleared_fronts, ran_cramped, ran_refused, ran_settled}
use Rattle.report.proofs.run.Goals as goal

pub settle_in-requires : goal.settle_in-requires
settle_in-requires c = cleared_fronts c.if-not-clear.false c.clear.ensures

pub returns-in-Err : goal.returns-in-Err
returns-in-Err c = rw c.from.ensures (ran_refused c.if-not-clear.false c.clear.ensures (opening_refused (sym c.in-Err.ensures)))

pub returns-in-Ok : goal.returns-in-Ok
returns-in-Ok c =
    let sizes : (1024 ≤ length c.clear.new.counts) × (1056 ≤ length c.clear.new.words) × (4480 ≤ length c.clear.new.mail)
    = cleared_large c.if-not-clear.false c.clear.ensures in
    ran_settled c.if-not-clear.false c.clear.ensures c.args.mode _ _ _
    (c.settle_in.auto.counts ∙ length-take-le 1024 c.clear.new.counts sizes.0)
    (c.settle_in.auto.words ∙ length-take-le 1056 c.clear.new.words sizes.1)
    (c.settle_in.auto.mail ∙ length-take-le 4480 c.clear.new.mail sizes.2)
    c.settle_in.ensures

pub returns-then-not-clear : goal.returns-then-not-clear
returns-then-not-clear c = ran_cramped c.if-not-clear.true c.clear.ensures
