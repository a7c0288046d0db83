-- `apply` meets its contract: what is ready gives each step what it asks, and each step follows the machine.
use Rattle.steps.proofs.Ready.{ready_sizes, ready_nodes, ready_slot, ready_node, ready_mark, ready_sender}
use Rattle.steps.proofs.MarkFollows.{idle_follows}
use Rattle.protocol.proofs.apply.Goals as goal

pub mark-requires : goal.mark-requires
mark-requires c =
    let ready = rw c.in-Mark.is at c.requires.1 in
    let sizes = ready_sizes ready in
    ((ready_nodes ready).1, ready_node ready, sizes.0, sizes.1, ready_mark ready)

pub receipt-requires : goal.receipt-requires
receipt-requires c =
    let ready = rw c.in-Receipt.is at c.requires.1 in
    record { nodes_bound = ((ready_nodes ready).1, ready_node ready, ready_slot ready); sender_bound = ready_sender ready }

pub returns-in-Idle-clause-follows : goal.returns-in-Idle-clause-follows
returns-in-Idle-clause-follows c =
    let a = c.args in
    let room = a.room.now in
    rw c.in-Idle.is (idle_follows a.nodes _ a.slot room.counts.now room.words.now room.mail.now a.mode)

pub returns-in-Mark-clause-follows : goal.returns-in-Mark-clause-follows
returns-in-Mark-clause-follows c =
    rw c.in-Mark.is (c.mark.ensures.follows c.args.mode c.args.slot c.args.room.now.mail.now)

pub returns-in-Receipt-clause-follows : goal.returns-in-Receipt-clause-follows
returns-in-Receipt-clause-follows c = rw c.in-Receipt.is (c.receipt.ensures.follows c.args.mode _)
