-- `shape::causes` meets its contract: what is still to be looked for decides as the whole does.
use mathlib.Core.Path.{◌≡◌}
use Prim.Native.Nat.{◌+◌, ◌-◌, ◌*◌, ◌≤◌}
use lib.ListN.{length}
use Rattle.shape.specs.Shape.{causes_fit}
use Rattle.shape.proofs.causes.Given as goal

abbrev pub invariant-loop : goal.invariant-loop
invariant-loop l =
    (l.place ≤ length l.report) × (l.place ≡ l.at + 4 * l.counter)
    × (causes_fit l.report l.at 0 l.count ≡ causes_fit l.report l.place l.low (l.count - l.counter))
