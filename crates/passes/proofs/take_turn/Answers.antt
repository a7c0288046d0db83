-- `take_turn` meets its contract: each answer of the reader and of admission is a case of the table.
use Rattle.std.proofs.Common.{rules, ◌≡◌, Ok, Err, Some, None}
use native.Mathlib.Omega.{arith}
use Rattle.logs.specs.Record.{record_at}
use Rattle.verdict.proofs.Accepted.{reached_lawful}
use Rattle.protocol.proofs.Judged.{admitted_ready}
use Rattle.passes.proofs.Turns.{stands_mailed, stands_place, stands_events, turn_ends, turn_unread, turn_refused, turn_goes}
use Rattle.passes.proofs.take_turn.Goals as goal

pub returns-in_err-event-clause-turned : goal.returns-in_err-event-clause-turned
returns-in_err-event-clause-turned c =
    let e : c.from_residual.result ≡ Err c.in_err-event.field-0.0 = search rules in
    let unread : record_at c.args.course.now.log.now c.args.cursor.at ≡ Err c.in_err-event.field-0.0 = grind arith in
    λ cut room here. rw e (turn_unread here unread)

pub returns-in_default-clause-turned : goal.returns-in_default-clause-turned
returns-in_default-clause-turned c =
    let read : record_at c.args.course.now.log.now c.args.cursor.at ≡ Ok None = search rules in
    λ cut room here. turn_ends here read

pub judge-requires : goal.judge-requires
judge-requires c =
    let here = c.requires.2 in
    record { at_bound = stands_place here; cut_mailed = (c.requires.0, stands_events here, stands_mailed here) }

pub returns-in_err-slot-clause-turned : goal.returns-in_err-slot-clause-turned
returns-in_err-slot-clause-turned c =
    let e : c.from_residual-in_err-slot.result ≡ Err c.in_err-slot.field-0.0 = search rules in
    let read : record_at c.args.course.now.log.now c.args.cursor.at ≡ Ok (Some (c.in-Some.event, c.in-Some.next)) = search rules in
    λ cut room here. rw e (turn_refused here read (c.in_err-slot.ensures cut (stands_events here) (stands_mailed here)))

pub advance-sum-requires : goal.advance-sum-requires
advance-sum-requires c =
    let here = c.requires.2 in (
      c.requires.0,
      c.requires.1,
      admitted_ready (reached_lawful here.reached) here.noted.holds (c.in_ok-slot.ensures c.requires.0 (stands_events here) (stands_mailed here)),
      here.noted,
    )

pub returns-clause-turned : goal.returns-clause-turned
returns-clause-turned c =
    let read : record_at c.args.course.now.log.now c.args.cursor.at ≡ Ok (Some (c.in-Some.event, c.in-Some.next)) = search rules in
    λ cut room here.
    let judged = c.in_ok-slot.ensures cut (stands_events here) (stands_mailed here) in
    turn_goes here read judged
    (c.advance-sum.ensures.noted cut room (admitted_ready (reached_lawful here.reached) here.noted.holds judged) here.noted)
