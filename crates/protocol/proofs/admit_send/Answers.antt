-- `admit_send` meets its contract: each test is a row of the table, in the table's order.
use Rattle.std.proofs.Common.{rules, ◌≡◌, ◌≢◌, ◌+◌, sym, ◌∙◌, Err}
use Rattle.logs.specs.declared.Reason.TheVariants.{NoSuchNode}
use Rattle.logs.specs.Record.{refusal}
use Rattle.verdict.specs.Table.{breaks_6, breaks_6_to, breaks_7}
use Rattle.protocol.specs.Admission.{refuses}
use Rattle.protocol.proofs.Admitting.{judged_repeated, judged_crowded, judged_free}
use Rattle.protocol.proofs.admit_send.Goals as goal

pub returns-in_err-i : goal.returns-in_err-i
returns-in_err-i c =
    let e : c.from_residual.result ≡ Err (refusal NoSuchNode (c.args.at + 1)) = search rules in
    λ cut few mail. rw e (refuses (breaks_6 few c.in_err-i.ensures.1))

pub returns-in_err-j : goal.returns-in_err-j
returns-in_err-j c =
    let e : c.from_residual-in_err-j.result ≡ Err (refusal NoSuchNode (c.args.at + 2)) = search rules in
    λ cut few mail. rw e (refuses (breaks_6_to few c.in_ok-i.ensures.1 c.in_err-j.ensures.1))

pub returns-then-i-j : goal.returns-then-i-j
returns-then-i-j c =
    let i = c.in_ok-i.ensures in
    let j = c.in_ok-j.ensures in
    λ cut few mail. rw c.at.ensures (refuses (breaks_7 few i.1 j.1 (sym i.0 ∙ c.if-i-j.true ∙ j.0)))

pub returns-then-seen : goal.returns-then-seen
returns-then-seen c =
    let i = c.in_ok-i.ensures in
    let j = c.in_ok-j.ensures in
    let apart : c.args.from.0 ≢ c.args.to.0 = λ e. c.if-i-j.false (i.0 ∙ e ∙ sym j.0) in
    λ cut few mail. rw c.at-then-seen.ensures (judged_repeated mail few _ _ i.1 j.1 apart c.survey-seen.ensures c.if-seen.true)

pub returns-in-None : goal.returns-in-None
returns-in-None c =
    let i = c.in_ok-i.ensures in
    let j = c.in_ok-j.ensures in
    let apart : c.args.from.0 ≢ c.args.to.0 = λ e. c.if-i-j.false (i.0 ∙ e ∙ sym j.0) in
    λ cut few mail. rw c.at-in-None.ensures (judged_crowded mail few _ _ i.1 j.1 apart c.survey-seen.ensures c.if-seen.false c.in-None.is)

pub returns-in-Some : goal.returns-in-Some
returns-in-Some c =
    let i = c.in_ok-i.ensures in
    let j = c.in_ok-j.ensures in
    let apart : c.args.from.0 ≢ c.args.to.0 = λ e. c.if-i-j.false (i.0 ∙ e ∙ sym j.0) in
    λ cut few mail. judged_free mail few _ _ i.1 j.1 apart c.survey-seen.ensures c.if-seen.false c.in-Some.is
