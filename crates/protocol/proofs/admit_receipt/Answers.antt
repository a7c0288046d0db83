-- `admit_receipt` meets its contract: each test is a row of the table, in the table's order.
use Rattle.std.proofs.Common.{rules, ◌≡◌, ◌+◌, Err}
use Rattle.logs.specs.declared.Reason.TheVariants.{NoSuchNode}
use Rattle.logs.specs.Record.{refusal}
use Rattle.verdict.specs.Table.{breaks_6}
use Rattle.protocol.specs.Admission.{refuses}
use Rattle.protocol.proofs.Admitting.{judged_elsewhere, judged_arrived, judged_missing}
use Rattle.protocol.proofs.admit_receipt.Goals as goal

pub returns-in_err-row_of : goal.returns-in_err-row_of
returns-in_err-row_of c =
    let e : c.from_residual.result ≡ Err (refusal NoSuchNode (c.args.at + 1)) = search rules in
    λ cut few mail. rw e (refuses (breaks_6 few c.in_err-row_of.ensures.1))

pub returns-in-Some : goal.returns-in-Some
returns-in-Some c =
    λ cut few mail.
    judged_arrived mail few _ c.in_ok-row_of.ensures.1 c.in-Some.ensures c.if-mail-slot.true

pub returns-in-Some-2 : goal.returns-in-Some-2
returns-in-Some-2 c =
    λ cut few mail.
    rw c.at.ensures (judged_elsewhere mail few _ c.in_ok-row_of.ensures.1 c.in-Some.ensures c.if-mail-slot.false)

pub returns-in-None : goal.returns-in-None
returns-in-None c =
    λ cut few mail.
    rw c.at-in-None.ensures (judged_missing mail few _ c.in_ok-row_of.ensures.1 c.in-None.ensures)
