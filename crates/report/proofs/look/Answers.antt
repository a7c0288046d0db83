-- `look` meets its contract: what the pass tells does not hang on the rooms, and they are cleared.
use Rattle.report.proofs.Endings.{zero_holds, passing_looked, cleared_zero}
use Rattle.report.proofs.look.Goals as goal

pub pass-passed-requires : goal.pass-passed-requires
pass-passed-requires c = zero_holds c.args.course.now.mode c.requires

pub returns-clause-looked : goal.returns-clause-looked
returns-clause-looked c = passing_looked c.pass-passed.ensures.passing

pub returns-clause-zero_again : goal.returns-clause-zero_again
returns-clause-zero_again c =
    let size = c.pass-passed.new.room.sized in
    cleared_zero size.0 size.1 size.2 c.clear.ensures
