-- `show` meets its contract: only a mark has a group, and the row and the flags that are handed on are the machine's.
use mathlib.Core.Path.{refl}
use Prim.Native.Nat.{◌*◌}
use native.Mathlib.Omega.{arith}
use Rattle.steps.proofs.Parts.{part_size}
use Rattle.passes.proofs.MarkShown.{mark_row, mark_asks, mark_written}
use Rattle.passes.proofs.show.Goals as goal

pub group-requires : goal.group-requires
group-requires c =
    let ready = rw c.in-Mark.is at c.requires.4 in
    let asked = mark_asks ready _ (part_size (c.args.nodes * c.in-Mark.node.0) c.args.nodes) in
    record { node_in_bounds = asked.0; flags_bound = asked.1 }

pub slice_bounds-group-end : goal.slice_bounds-group-end
slice_bounds-group-end c = omega (arith, mark_row (rw c.in-Mark.is at c.requires.4))

pub returns : goal.returns
returns c =
    λ mode cut slot mail ready.
    rw c.in-Mark.is
    (mark_written (rw c.in-Mark.is at ready) _ (part_size (c.args.nodes * c.in-Mark.node.0) c.args.nodes) c.args.at c.within-from.ensures refl c.group.ensures)
