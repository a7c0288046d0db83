-- `admit_node` meets its contract: the test is the table's row 6.
use Rattle.std.proofs.Common.{rules, ◌≡◌, ◌+◌, Err}
use Rattle.logs.specs.declared.Reason.TheVariants.{NoSuchNode}
use Rattle.logs.specs.Record.{refusal}
use Rattle.verdict.specs.Table.{breaks_6}
use Rattle.protocol.specs.Admission.{admits, refuses}
use Rattle.protocol.proofs.admit_node.Goals as goal

pub returns-in_err-row_of : goal.returns-in_err-row_of
returns-in_err-row_of c =
    let e : c.from_residual.result ≡ Err (refusal NoSuchNode (c.args.at + 1)) = search rules in
    let above = c.in_err-row_of.ensures.1 in
    λ cut few. rw e (refuses (breaks_6 few above), refuses (breaks_6 few above))

pub returns : goal.returns
returns c = λ cut few. (admits (few, c.in_ok-row_of.ensures.1, tt), admits (few, c.in_ok-row_of.ensures.1, tt))
