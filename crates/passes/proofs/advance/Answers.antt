-- `advance` meets its contract: the group is the mark's, the step follows the machine, and both are counted.
use Rattle.verdict.specs.Verdict.{event_of}
use Rattle.passes.proofs.Notes.{noted_small, noted_more}
use Rattle.passes.proofs.advance.Goals as goal

pub count-requires : goal.count-requires
count-requires c =
    let cut = c.requires.0 in
    noted_small c.requires.2 c.requires.3 (c.show-bytes.ensures c.args.course.now.mode cut c.args.slot c.args.room.now.mail.now c.requires.2) (c.apply-carried.ensures.follows cut c.requires.2).1

pub returns-clause-noted : goal.returns-clause-noted
returns-clause-noted c =
    λ cut blank ready noted.
    rw c.count.ensures
    (noted_more c.args.course.now.mode c.args.course.now.nodes cut (event_of c.args.event) noted
    (c.show-bytes.ensures c.args.course.now.mode cut c.args.slot c.args.room.now.mail.now ready)
    (c.apply-carried.ensures.follows cut ready))
