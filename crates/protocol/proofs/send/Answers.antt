-- `send` meets its contract: what is ready gives the step what it asks.
use Rattle.steps.proofs.Ready.{ready_nodes, ready_slot, ready_node, ready_counts}
use Rattle.verdict.proofs.Lawfully.{lawful_allowed}
use Rattle.protocol.proofs.send.Goals as goal

pub send-requires-clause-nodes_bound : goal.send-requires-clause-nodes_bound
send-requires-clause-nodes_bound c =
    let ready = c.requires.1 in
    ((ready_nodes ready).1, ready_node ready, (lawful_allowed ready.lawful).1, ready_slot ready)

pub send-requires-clause-counts_bound : goal.send-requires-clause-counts_bound
send-requires-clause-counts_bound c = ready_counts c.requires.1
