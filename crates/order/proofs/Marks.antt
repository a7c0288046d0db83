-- A mark has one number, a number has one mark, and a mark has at most one direct predecessor on each node: of two marks
-- of one node, one is before the other.
-- Assumes nothing.
use mathlib.Core.Path.{◌≡◌, refl}
use mathlib.Core.List.{List}
use Prim.Native.Nat.{ℕ, ◌<◌}
use native.Mathlib.Decide.{dec_lt}
use native.Mathlib.Omega.{arith}
use Rattle.order.specs.Order.{Event, Before, Numbered, Nearest, Stamp}
use Rattle.order.proofs.Before.{node_order}
use Rattle.order.proofs.Counts.{counts_unique, counts_grow, counts_rise}

-- places that are neither earlier nor later than each other are the same
one_place : (f g : ℕ) → ¬ (f < g) → ¬ (g < f) → f ≡ g
one_place f g h k = omega arith

-- each entry of a stamp has one value
pub stamp_unique : {es : List Event} {e k c d : ℕ} → Stamp es e k c → Stamp es e k d → c ≡ d
stamp_unique = counts_unique

-- a mark has one number
pub numbered_number : {es : List Event} {k f c d : ℕ} → Numbered es k f c → Numbered es k f d → c ≡ d
numbered_number m n = counts_unique m.1 n.1

-- a later mark of a node has a larger number
pub numbered_rises : {es : List Event} {k f g c d : ℕ} → Numbered es k f c → Numbered es k g d → f < g → c < d
numbered_rises m n h = counts_rise h n.0 m.1 n.1

-- and of two marks of a node the one with the smaller number is before the other
pub numbered_before : {es : List Event} {k f g c d : ℕ} → Numbered es k f c → Numbered es k g d → c < d → Before es f g
numbered_before {f = f} {g = g} m n h = node_order refl m.0 n.0 (earlier (dec_lt f g))
  where
    earlier : Dec (f < g) → f < g
    earlier (yes l) = l
    earlier (no l) = let z = counts_grow (omega arith) n.1 m.1 in absurd (omega arith)

-- a number has one mark
pub numbered_place : {es : List Event} {k f g c : ℕ} → Numbered es k f c → Numbered es k g c → f ≡ g
numbered_place {f = f} {g = g} m n =
    one_place f g (λ h. let l = numbered_rises m n h in omega arith) (λ h. let l = numbered_rises n m h in omega arith)

-- at most one direct predecessor on each node
pub nearest_unique : {es : List Event} {k f g e : ℕ} → Nearest es k f e → Nearest es k g e → f ≡ g
nearest_unique {k = k} {f = f} {g = g} m n =
    one_place f g
    (λ h. m.2 k g n.0 (node_order refl m.0 n.0 h) n.1)
    (λ h. n.2 k f m.0 (node_order refl n.0 m.0 h) m.1)
