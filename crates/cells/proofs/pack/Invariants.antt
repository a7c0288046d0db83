-- `cells::pack` meets its contract: its record, taken at k, is the loop's invariant.
use mathlib.Core.Path.{◌≡◌}
use Prim.Native.Nat.{◌≤◌}
use lib.ListN.{length}
use Rattle.cells.specs.Cells.{Packed}
use Rattle.cells.proofs.pack.Given as goal

abbrev pub invariant-loop-k : goal.invariant-loop-k
invariant-loop-k l =
    (length l.letter ≡ length l.row) × (l.carried ≤ l.k) × Packed l.spared l.row l.columns l.flags l.k l.letter l.carried
