-- `finish` meets its contract: by the test of the report room, and what the second pass leaves.
use native.Mathlib.Omega.{arith}
use Rattle.report.proofs.Endings.{zero_holds, settles_overlong, settles_complete}
use Rattle.report.proofs.finish.Goals as goal

pub returns-then-report-bytes-clause-settles : goal.returns-then-report-bytes-clause-settles
returns-then-report-bytes-clause-settles c =
    settles_overlong c.requires.looked (omega (arith, c.if-report-bytes.true)) c.requires.zero

pub pass-requires : goal.pass-requires
pass-requires c = zero_holds c.args.course.now.mode c.requires.zero

pub returns-clause-settles : goal.returns-clause-settles
returns-clause-settles c =
    settles_complete c.requires.looked (omega (arith, c.if-report-bytes.false)) c.pass.ensures.passing
