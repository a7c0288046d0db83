-- `text::lay_mark` meets its contract: the three parts of the line lie one behind the other, and the stamp has the mark's own number.
use mathlib.Core.Path.{◌∙◌}
use native.Mathlib.Omega.{arith}
use Rattle.groups.proofs.Laying.{and_then}
use Rattle.reading.specs.Reading.{cause_place, cause_count, answer_at}
use Rattle.shape.proofs.FittingGroup.{group_parts}
use Rattle.text.specs.Text.{mark_part, line_of}
use Rattle.text.proofs.Answered.{past_is, causes_start, group_ends}
use Rattle.text.proofs.Parts.{part_named}
use Rattle.text.proofs.lay_mark.Goals as goal

pub returns-clause-laid : goal.returns-clause-laid
unfolding answer_at line_of mark_part
returns-clause-laid c =
    let (there, ends) = c.requires.group_there in
    let report = c.args.report.now in
    let place = c.args.place in
    let causes = part_named report (cause_place report place) (cause_count report place) (ends ∙ past_is _ _)
    (omega (arith, ends, group_ends _ _ there)) in
    rw (group_parts there).own_count (and_then (and_then (rw c.number_at.ensures at c.name.ensures.laid) c.stamp.ensures.laid)
    (rw (c.as_chunks.ensures.front, causes_start _ _ ends, causes) at c.ending.ensures.laid))
