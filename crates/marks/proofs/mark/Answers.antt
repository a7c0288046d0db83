-- `marks::mark` meets its contract: a row that comes back with one store is the table with that store.
use mathlib.Core.Path.{ap, ◌∙◌}
use Prim.Native.Nat.{suc, ◌+◌, ◌-◌, ◌*◌}
use native.Mathlib.Omega.{arith}
use lib.ListN.{get_or, set}
use borrow.Rule.Slice.PartMut.{mid_of, put_mid, set_mid_at}
use Rattle.steps.specs.Steps.{Marked}
use Rattle.steps.proofs.Parts.{part_at}
use Rattle.steps.proofs.MarkFollows.{mark_follows}
use Rattle.marks.proofs.mark.Goals as goal

pub returns : goal.returns
returns c =
    let a = c.args in
    let n = a.nodes in
    let i = a.node.0 in
    let counts = a.counts.now in
    let k = n * i + n - n * i in
    let row = mid_of (n * i) k counts in
    let marks : Marked n i counts a.words.now (put_mid (n * i) k counts c.count_up.new.row) (set (set a.words.now i c.only.result) (32 + n * i + i) 0)
    = record {
      counts_are =
          ap (put_mid (n * i) k counts) c.count_up.ensures
          ∙ set_mid_at (n * i) k i counts (suc (get_or row i 0)) (omega arith)
          ∙ ap (λ v. set counts (n * i + i) (suc v)) (part_at counts (n * i) k i (omega arith));
      words_are = ap (λ w. set (set a.words.now i w) (32 + n * i + i) 0) c.only.ensures;
    } in
    record { marked = marks; follows = mark_follows n i counts a.words.now _ _ marks }
