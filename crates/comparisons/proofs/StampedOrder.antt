-- Two marks of an accepted log compare by their stamps as they are ordered: the stamp of a mark lies under another's just if the
-- mark is before the other.
-- Assumes nothing.
use mathlib.Core.Path.{◌≡◌}
use mathlib.Core.Logic.Iff
use mathlib.Core.Logic.{◌↔◌, ⊎_elim}
use mathlib.Core.List.{List}
use Prim.Native.Nat.{ℕ}
use native.Mathlib.Omega.{arith}
use Rattle.order.specs.Order.{Event, Before}
use Rattle.order.proofs.Marks.{stamp_unique}
use Rattle.order.proofs.Stamps.{stamps_rise, stamp_rises, stamp_within}
use Rattle.verdict.specs.Lawful.{Lawful}
use Rattle.machine.specs.Answer.{Answer, Right}
use Rattle.comparing.specs.declared.Standing.TheVariants as variants
use Rattle.comparing.specs.Compare.{ordered}
use Rattle.comparing.specs.Table.{Under}
use Rattle.comparing.proofs.Ordering.{ordered_under, ordered_over, ordered_neither}
use Rattle.comparisons.proofs.OwnAnswers.{right_fits}

module _ {n : ℕ} {cut : List Event} (lawful : Lawful n cut) {e f : ℕ} {a b : Answer} (first : Right cut e a) (second : Right cut f b) where
  -- what is before has a stamp that lies under
  before_under : Before cut e f → Under a.stamp b.stamp
  before_under r =
      record {
        none_exceeds = λ k l. stamps_rise r (first.stamped k) (second.stamped k);
        some_differs = (b.node, (right_fits lawful second).node_below, λ same. omega (arith, stamp_rises second.numbered.0 r (first.stamped b.node) (second.stamped b.node)));
      }

  -- and the other way round
  under_before : Under a.stamp b.stamp → Before cut e f
  under_before u =
      let (k, l, other) = u.some_differs in
      let own = u.none_exceeds a.node (right_fits lawful first).node_below in
      ⊎_elim
      (λ same. absurd (other (stamp_unique (rw same at (first.stamped k)) (second.stamped k))))
      (λ r. r)
      (stamp_within first.numbered.0 (first.stamped a.node) (second.stamped a.node) own)

  -- a stamp lies under another's just if its mark is before the other
  stamped_before : Under a.stamp b.stamp ↔ Before cut e f
  stamped_before = (under_before, before_under)

module _ {n : ℕ} {cut : List Event} (lawful : Lawful n cut) {e f : ℕ} {a b : Answer} (first : Right cut e a) (second : Right cut f b) where
  -- the stamps say before just if the first mark is before the second
  pub ordered_before : (ordered a.stamp b.stamp ≡ variants.Before) ↔ Before cut e f
  ordered_before = Iff.trans (ordered_under a.stamp b.stamp) (stamped_before lawful first second)

  -- after just if the second is before the first
  pub ordered_after : (ordered a.stamp b.stamp ≡ variants.After) ↔ Before cut f e
  ordered_after = Iff.trans (ordered_over a.stamp b.stamp) (stamped_before lawful second first)

  -- and apart just if neither is before the other
  pub ordered_apart : (ordered a.stamp b.stamp ≡ variants.Apart) ↔ ((¬ Before cut e f) × (¬ Before cut f e))
  ordered_apart =
      Iff.trans (ordered_neither a.stamp b.stamp)
      (Iff.and (Iff.not (stamped_before lawful first second)) (Iff.not (stamped_before lawful second first)))
