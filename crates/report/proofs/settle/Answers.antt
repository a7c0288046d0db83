-- `settle` meets its contract: by what the look at the log told.
use native.Mathlib.Omega.{arith}
use Rattle.report.proofs.Endings.{settles_refused}
use Rattle.report.proofs.settle.Goals as goal

pub returns-in-Err-clause-settles : goal.returns-in-Err-clause-settles
returns-in-Err-clause-settles c =
    let l = c.look.ensures in
    let refused = settles_refused {room = c.args.report.now} c.in-Err.ensures.looked l.zero_again in
    rw l.report_unchanged (grind (arith, refused))
