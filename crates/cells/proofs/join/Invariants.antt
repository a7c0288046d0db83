-- `cells::join` meets its contract: its record, taken at k, is the loop's invariant.
use mathlib.Core.Path.{◌≡◌}
use lib.ListN.{length}
use Rattle.cells.specs.Cells.{Joined}
use Rattle.cells.proofs.join.Given as goal

abbrev pub invariant-loop-k : goal.invariant-loop-k
invariant-loop-k l =
    (length l.row ≡ length l.fn.row) × (length l.columns ≡ length l.fn.row) × (length l.letter ≡ length l.fn.row)
    × Joined l.sender l.fn.letter l.fn.row l.fn.columns l.flags l.k l.letter l.row l.columns l.after
