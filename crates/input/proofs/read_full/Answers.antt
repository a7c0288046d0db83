-- `read_full` meets its contract: what a read puts behind the bytes so far is what the reader loses after them.
use Rattle.std.proofs.Common.{rules, length-take-le}
use Rattle.input.proofs.Behind.{read_behind}
use Rattle.input.proofs.read_full.Goals as goal

pub loop-done-preserved : goal.loop-done-preserved
loop-done-preserved g c =
    let l = c.loop-done in
    let read = c.in_ok-size.ensures in
    let long = length-take-le _ l.buffer l.invariant.inside in
    record {
      inside = search rules;
      length_same = search rules;
      bytes = read_behind _ _ _ _ c.read.new.buf _ l.done c.in_ok-size.size long read.bound.0 l.invariant.bytes read.bytes.0;
    }
